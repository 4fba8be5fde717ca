-- How the lines of a text begin.
use Rattle.std.proofs.Common.{◌≡◌, ◌⊎◌, ℕ, zero, suc, ◌+◌, ◌-◌, ◌<◌, ◌≤◌, ◌==◌, ◌||◌, Bool, true, false, cond, List, [], ◌∷◌, ◌++◌, length, get_or, map, take, drop, slice_range, refl, sym, ◌∙◌, ap, arith, add-one, drop-cons, length-take, length-drop, length-append, append_assoc, take-take, drop-drop, inl, inr}
use Rattle.std.proofs.lemmas.Bool.{lt-leb, le-leb, ne_eqb, cases_lt}
use Rattle.std.proofs.Math.Seq.{take-add}
use Rattle.std.proofs.lemmas.List.{get_or_default, drop-take, take-append-drop}
use Rattle.std.specs.Prelude.{Option, None, Some, IfSome, IfNone}
use Rattle.memchr.specs.Find.{IsFirstByte, is_byte2}
use Rattle.ts_script.specs.Lines.{is_end, HasNoEnd, onto_first, lines_after, line_view, overlong, view_after, lines_behind}
use Rattle.ts_nt.specs.Limits.{line_limit}

is_false : (b : Bool) → (b ≡ true → ⊥) → b ≡ false
is_false true h = absurd (h refl)
is_false false h = refl

pub first_false : (a b : Bool) → (a || b) ≡ false → a ≡ false
first_false true b e = e
first_false false b e = refl

pub second_false : (a b : Bool) → (a || b) ≡ false → b ≡ false
second_false true b e = absurd (cc)
second_false false b e = e

both_false : (a b : Bool) → a ≡ false → b ≡ false → (a || b) ≡ false
both_false true b e f = e
both_false false b e f = f

-- no byte before place k is an end
pub no_end_before : (text : List ℕ) (k : ℕ) → ((i : ℕ) → 0 ≤ i → i < k → is_end (get_or text i 0) ≡ true → ⊥) → k ≤ length text → HasNoEnd (take k text)
no_end_before text zero none h = refl
no_end_before [] (suc k) none h = refl
no_end_before (b ∷ text) (suc k) none h =
    both_false (is_end b) _ (is_false (is_end b) (none 0 (omega arith) (omega arith)))
    (no_end_before text k (λ i low high. none (suc i) (omega arith) (omega arith)) (omega arith))

pub no_end_all : (text : List ℕ) → ((i : ℕ) → 0 ≤ i → i < length text → is_end (get_or text i 0) ≡ true → ⊥) → HasNoEnd text
no_end_all [] none = refl
no_end_all (b ∷ text) none =
    both_false (is_end b) _ (is_false (is_end b) (none 0 (omega arith) (omega arith)))
    (no_end_all text (λ i low high. none (suc i) (omega arith) (omega arith)))

pub no_end-append : (a b : List ℕ) → HasNoEnd a → HasNoEnd b → HasNoEnd (a ++ b)
no_end-append [] b ha hb = hb
no_end-append (x ∷ a) b ha hb = both_false (is_end x) _ (first_false _ _ ha) (no_end-append a b (second_false (is_end x) _ ha) hb)

lines-end_first : (b : ℕ) (rest : List ℕ) → is_end b ≡ true → lines_after false (b ∷ rest) ≡ [] ∷ lines_after (b == 13) rest
unfolding lines_after
lines-end_first b rest h =
    elim (b == 13) as (λ r. ((b == 10) || r) ≡ true → cond r ([] ∷ lines_after true rest) (cond (b == 10) ([] ∷ lines_after false rest) (onto_first b (lines_after false rest))) ≡ [] ∷ lines_after r rest) [
      | true ↦ λ _. refl
      | false ↦ λ e. elim (b == 10) as (λ t. (t || false) ≡ true → cond t ([] ∷ lines_after false rest) (onto_first b (lines_after false rest)) ≡ [] ∷ lines_after false rest) [
        | true ↦ λ _. refl
        | false ↦ λ f. absurd (cc)
      ] e
    ] h

lines-not_end_first : (after : Bool) (b : ℕ) (rest : List ℕ) → is_end b ≡ false → lines_after after (b ∷ rest) ≡ onto_first b (lines_after false rest)
unfolding lines_after
lines-not_end_first after b rest h =
    rw (second_false (b == 10) (b == 13) h, first_false (b == 10) (b == 13) h) refl

-- the first line ends where the first end stands
pub lines-front : (front : List ℕ) (b : ℕ) (rest : List ℕ) → HasNoEnd front → is_end b ≡ true → lines_after false (front ++ b ∷ rest) ≡ front ∷ lines_after (b == 13) rest
lines-front [] b rest none e = lines-end_first b rest e
lines-front (x ∷ front) b rest none e =
    lines-not_end_first false x (front ++ b ∷ rest) (first_false _ _ none) ∙ ap (onto_first x) (lines-front front b rest (second_false (is_end x) _ none) e)

-- bytes before the first line
abbrev onto : List ℕ → List (List ℕ) → List (List ℕ)
onto [] lines = lines
onto (b ∷ text) lines = onto_first b (onto text lines)

lines-no_end : (text left : List ℕ) → HasNoEnd text → lines_after false (text ++ left) ≡ onto text (lines_after false left)
lines-no_end [] left none = refl
lines-no_end (b ∷ text) left none =
    lines-not_end_first false b (text ++ left) (first_false _ _ none) ∙ ap (onto_first b) (lines-no_end text left (second_false (is_end b) _ none))

drop-onto_first : (b : ℕ) (lines : List (List ℕ)) → drop 1 (onto_first b lines) ≡ drop 1 lines
drop-onto_first b [] = refl
drop-onto_first b (line ∷ lines) = refl

drop-onto : (text : List ℕ) (lines : List (List ℕ)) → drop 1 (onto text lines) ≡ drop 1 lines
drop-onto [] lines = refl
drop-onto (b ∷ text) lines = drop-onto_first b (onto text lines) ∙ drop-onto text lines

onto_first-shape : (b : ℕ) (lines : List (List ℕ)) → (front : List ℕ) × (onto_first b lines ≡ (b ∷ front) ∷ drop 1 lines)
onto_first-shape b [] = ([], refl)
onto_first-shape b (line ∷ lines) = (line, refl)

onto-shape : (b : ℕ) (text : List ℕ) (lines : List (List ℕ)) → (front : List ℕ) × (onto (b ∷ text) lines ≡ (b ∷ text ++ front) ∷ drop 1 lines)
onto-shape b [] lines = onto_first-shape b lines
onto-shape b (x ∷ text) lines = let later = onto-shape x text lines in (later.0, ap (onto_first b) later.1)

pub long-view : (line : List ℕ) → line_limit < length line → line_view line ≡ overlong
long-view line h = rw (lt-leb (length line) line_limit h) refl

pub short-view : (line : List ℕ) → length line ≤ line_limit → line_view line ≡ record { bytes = line; too_long = false }
short-view line h = rw (le-leb (length line) line_limit h) refl

-- a range that isn't empty begins with its first byte
pub slice_range-first : (text : List ℕ) (i j d : ℕ) → i < j → j ≤ length text → slice_range text i j ≡ get_or text i d ∷ slice_range text (i + 1) j
slice_range-first text i j d lt le =
    let inside : i < length text = omega arith in
    let long : j - i ≡ suc (j - (i + 1)) = omega arith in
    rw (long, add-one, drop-cons text i d) refl

is_not_true : (o r : Bool) → (o ≡ true → r ≡ false) → r ≡ true → o ≡ false
is_not_true true r one is = absurd (bool_apart (sym (one refl) ∙ is))
  where
    bool_apart : false ≡ true → ⊥
    bool_apart e = cc
is_not_true false r one is = refl

-- the line feed of an end that a return began goes
pub settled_feed : (o r : Bool) (text left : List ℕ) (i j d : ℕ) → (o ≡ true → r ≡ false) → r ≡ true → i < j → j ≤ length text → d ≡ get_or text i d → d ≡ 10
    → lines_behind o false (slice_range text (i + 1) j ++ left) ≡ lines_behind o r (slice_range text i j ++ left)
unfolding lines_behind lines_after
settled_feed o r text left i j d one is lt le read feed =
    rw (slice_range-first text i j d lt le, sym read, feed, is_not_true o r one is, is) refl

-- what doesn't begin with a line feed is read alike after a return
pub settled_other : (o r : Bool) (text left : List ℕ) (i j d : ℕ) → (o ≡ true → r ≡ false) → r ≡ true → i < j → j ≤ length text → d ≡ get_or text i d → (d ≡ 10 → ⊥)
    → lines_behind o false (slice_range text i j ++ left) ≡ lines_behind o r (slice_range text i j ++ left)
unfolding lines_behind lines_after
settled_other o r text left i j d one is lt le read other =
    let not_feed : (d == 10) ≡ false = ne_eqb d 10 other in
    rw (slice_range-first text i j d lt le, sym read, not_feed, is_not_true o r one is) refl

-- a range is two ranges that meet
pub slice_range-split : (text : List ℕ) (i j k : ℕ) → i ≤ j → j ≤ k → slice_range text i k ≡ slice_range text i j ++ slice_range text j k
slice_range-split text i j k lo hi =
    let parts : k - i ≡ (j - i) + (k - j) = omega arith in
    let meets : i + (j - i) ≡ j = omega arith in
    rw (parts, take-add (j - i) (k - j) (drop i text), drop-drop (j - i) i text, meets) refl

pub no_end-split : (text : List ℕ) (i j k : ℕ) → i ≤ j → j ≤ k → HasNoEnd (slice_range text i j) → HasNoEnd (slice_range text j k) → HasNoEnd (slice_range text i k)
no_end-split text i j k lo hi first second = rw (slice_range-split text i j k lo hi) (no_end-append (slice_range text i j) (slice_range text j k) first second)

pub no_end-found : (text : List ℕ) (i j k e : ℕ) → i ≤ j → j + k ≤ e → HasNoEnd (slice_range text i j) → HasNoEnd (take k (slice_range text j e)) → HasNoEnd (slice_range text i (j + k))
no_end-found text i j k e lo hi first second =
    let shorter : k ≤ e - j = omega arith in
    let far : (j + k) - j ≡ k = omega arith in
    no_end-split text i j (j + k) lo (omega arith) first (rw far (rw (take-take k (e - j) (drop j text) shorter) at second))

-- where an end waits, the next line is up to it
pub lines_behind-front : (o r : Bool) (text left : List ℕ) (s at e d : ℕ) → r ≡ false → s ≤ at → at < e → e ≤ length text → HasNoEnd (slice_range text s at)
    → is_end d ≡ true → d ≡ get_or text at d
    → lines_behind o r (slice_range text s e ++ left) ≡ view_after o (slice_range text s at) ∷ lines_behind false (d == 13) (slice_range text (at + 1) e ++ left)
unfolding lines_behind
lines_behind-front true r text left s at e d is lo lt le none end read =
    rw (
      slice_range-split text s at e lo (omega arith),
      slice_range-first text at e d lt le,
      sym read,
      append_assoc,
      lines-front (slice_range text s at) d (slice_range text (at + 1) e ++ left) none end,
    ) refl
lines_behind-front false r text left s at e d is lo lt le none end read =
    rw (
      is,
      slice_range-split text s at e lo (omega arith),
      slice_range-first text at e d lt le,
      sym read,
      append_assoc,
      lines-front (slice_range text s at) d (slice_range text (at + 1) e ++ left) none end,
    ) refl

-- without an end, bytes that are more than a line may have make an overlong line
pub lines_behind-overlong : (r : Bool) (text left : List ℕ) → r ≡ false → HasNoEnd text → line_limit < length text → lines_behind true false left ≡ lines_behind false r (text ++ left)
unfolding lines_behind
lines_behind-overlong r [] left is none long = absurd (omega arith)
lines_behind-overlong r (b ∷ text) left is none long =
    let shape = onto-shape b text (lines_after false left) in
    rw (is, lines-no_end (b ∷ text) left none, shape.1, long-view (b ∷ text ++ shape.0) (omega (arith, length-append text shape.0))) refl

-- more bytes of an overlong line go, where they have no end
ignored : (r : Bool) (left : List ℕ) → lines_behind true r left ≡ lines_behind true false left
unfolding lines_behind
ignored r left = refl

pub lines_behind-longer : (r : Bool) (text left : List ℕ) → HasNoEnd text → lines_behind true r left ≡ lines_behind true r (text ++ left)
unfolding lines_behind
lines_behind-longer r text left none = rw (lines-no_end text left none, drop-onto text (lines_after false left)) refl

-- what waits without an end and is over the limit may go
pub lines_behind-gone : (o r : Bool) (text left : List ℕ) → (o ≡ true) ⊎ (line_limit < length text) → (0 < length text → r ≡ false) → HasNoEnd text
    → lines_behind true r left ≡ lines_behind o r (text ++ left)
lines_behind-gone true r text left over settled none = lines_behind-longer r text left none
lines_behind-gone false r text left (inl is) settled none = absurd (let e : false ≡ true = is in cc)
lines_behind-gone false r text left (inr long) settled none =
    ignored r left ∙ lines_behind-overlong r text left (settled (omega arith)) none long

lines_after-nil : (r : Bool) → lines_after r [] ≡ []
unfolding lines_after
lines_after-nil r = refl

onto-alone : (b : ℕ) (text : List ℕ) → onto (b ∷ text) [] ≡ (b ∷ text) ∷ []
onto-alone b [] = refl
onto-alone b (x ∷ text) = ap (onto_first b) (onto-alone x text)

-- at the end of the input, what waits is the last line
pub lines_behind-last : (o r : Bool) (text : List ℕ) → (0 < length text → r ≡ false) → HasNoEnd text → (o ≡ true) ⊎ (0 < length text) → lines_behind o r (text ++ []) ≡ view_after o text ∷ []
unfolding lines_behind
lines_behind-last true r text settled none some = rw (lines-no_end text [] none, drop-onto text (lines_after false [])) (ap (λ lines. overlong ∷ map line_view (drop 1 lines)) (lines_after-nil false))
lines_behind-last false r [] settled none (inl is) = absurd (let e : false ≡ true = is in cc)
lines_behind-last false r [] settled none (inr some) = absurd (omega arith)
lines_behind-last false r (b ∷ text) settled none some =
    rw (settled (omega arith), lines-no_end (b ∷ text) [] none) (ap (λ lines. map line_view (onto (b ∷ text) lines)) (lines_after-nil false) ∙ ap (map line_view) (onto-alone b text))

-- where nothing waits and nothing follows, no line is left
pub lines_behind-nil : (o r : Bool) (text : List ℕ) (i j : ℕ) → o ≡ false → i ≡ j → lines_behind o r (slice_range text i j ++ []) ≡ []
unfolding lines_behind
lines_behind-nil o r text i j is same =
    let none : j - i ≡ 0 = omega arith in
    rw (is, none) (ap (map line_view) (lines_after-nil r))

pub no_end-empty : (text : List ℕ) (i : ℕ) → HasNoEnd (slice_range text i i)
no_end-empty text i = let none : i - i ≡ 0 = omega arith in rw none refl

pub length-slice_range : (text : List ℕ) (i j : ℕ) → i ≤ j → j ≤ length text → length (slice_range text i j) ≡ j - i
length-slice_range text i j lo hi = rw (length-take, length-drop) (omega arith)

back : (text : List ℕ) (i j : ℕ) → i ≤ j → drop i (take j text) ≡ slice_range text i j
back text i j lo = let whole : i + (j - i) ≡ j = omega arith in rw whole at (drop-take i (j - i) text)

in_front : (text : List ℕ) (at i j : ℕ) → j ≤ at → slice_range text i j ≡ slice_range (take at text) i j
in_front text at i j le = elim (cases_lt j i) [
  | inr lo ↦
      let whole : i + (j - i) ≡ j = omega arith in
      sym (drop-take i (j - i) text) ∙ ap (λ front. drop i front) (rw whole (sym (take-take j at text le))) ∙ back (take at text) i j lo
  | inl hi ↦ let none : j - i ≡ 0 = omega arith in rw none refl
]

-- a range up to a place knows nothing of what stands behind it
pub slice_range-kept : (old new : List ℕ) (at i j : ℕ) → take at new ≡ take at old → j ≤ at → slice_range new i j ≡ slice_range old i j
slice_range-kept old new at i j same le = in_front new at i j le ∙ ap (λ text. slice_range text i j) same ∙ sym (in_front old at i j le)

pub is_end-read : (text : List ℕ) (at d : ℕ) → at < length text → d ≡ get_or text at d → is_end (get_or text at 0) ≡ true → is_end d ≡ true
is_end-read text at d lt read end = ap is_end (read ∙ get_or_default text at d 0 lt) ∙ end

-- where something waits, no return stands before it
pub not_after_return : (r : Bool) (i j : ℕ) → (r ≡ true → i ≡ j) → i < j → r ≡ false
not_after_return true i j settled lt = absurd (let e = settled refl in omega arith)
not_after_return false i j settled lt = refl

-- what a search for the first end tells
pub none_before_found : (text : List ℕ) (r : Option ℕ) → IsFirstByte (is_byte2 10 13) text r → IfSome r (λ k. HasNoEnd (take k text))
none_before_found text None found = tt
none_before_found text (Some k) found = no_end_before text k found.0.before (omega (arith, found.0.high))

pub none_found : (text : List ℕ) (r : Option ℕ) → IsFirstByte (is_byte2 10 13) text r → IfNone r (HasNoEnd text)
none_found text None found = no_end_all text found
none_found text (Some k) found = tt

-- bytes that come behind what waits
pub buffered-more : (old new more : List ℕ) (at i k : ℕ) → take at new ≡ take at old → i ≤ at
    → slice_range new i (at + k) ++ more ≡ slice_range old i at ++ (slice_range new at (at + k) ++ more)
buffered-more old new more at i k same lo =
    ap (λ text. text ++ more) (slice_range-split new i at (at + k) lo (omega arith))
    ∙ append_assoc (slice_range new i at) (slice_range new at (at + k)) more
    ∙ ap (λ front. front ++ (slice_range new at (at + k) ++ more)) (slice_range-kept old new at i at same (omega arith))

-- the bytes that were taken, and those that are left
pub taken_front : (old new room : List ℕ) (at k : ℕ) → take k (drop at room) ≡ take k old → new ≡ drop k old → old ≡ slice_range room at (at + k) ++ new
taken_front old new room at k front rest =
    let far : (at + k) - at ≡ k = omega arith in
    rw (far, front, rest) (sym (take-append-drop k old))

-- what waits is the same where the buffer is the same up to its end
pub buffered-kept : (old new more : List ℕ) (at i : ℕ) → take at new ≡ take at old → slice_range new i at ++ more ≡ slice_range old i at ++ more
buffered-kept old new more at i same = ap (λ text. text ++ more) (slice_range-kept old new at i at same (omega arith))

pub no_end-kept : (old new : List ℕ) (at i j : ℕ) → take at new ≡ take at old → j ≤ at → HasNoEnd (slice_range old i j) → HasNoEnd (slice_range new i j)
no_end-kept old new at i j same le none = rw (slice_range-kept old new at i j same le) none

-- before anything was taken, the lines to come are those of the input
pub lines_behind-fresh : (text left : List ℕ) → lines_behind false false (slice_range text 0 0 ++ left) ≡ map line_view (lines_after false left)
unfolding lines_behind
lines_behind-fresh text left = refl
