-- A text that is said piece by piece.
use Rattle.std.proofs.Common.{◌≡◌, ℕ, ◌+◌, ◌<◌, ◌≤◌, Bool, true, false, cond, List, [], ◌∷◌, ◌++◌, filter, flat_map, length, map, take, drop, get_or, None, Result, Ok, Err, IfErr, inl, inr, refl, sym, ap, subst, ◌∙◌, arith, append_assoc, append-nil, codes, decimal}
use denote.Ref.{Bor}
use Rattle.std.proofs.lemmas.List.{take-append-drop, length-append, length-drop, length-map, length-take-le, get_or-map}
use Rattle.std.proofs.lemmas.List.Elements.{filter_more, filter-append}
use Rattle.std.proofs.lemmas.List.Concat.{flat_map-append}
use Rattle.std.proofs.Math.Seq.{take-append_seam}
use Rattle.ts_model.specs.TextTriple.{TextTriple}
use Rattle.ts_model.specs.Fits.{fits}
use Rattle.ts_model.specs.LayerText.{layer_text}
use Rattle.ts_nt.specs.TripleLine.{triple_line}
use Rattle.ts_script.specs.Replies.{layer_or_none, line, reply_text}
use Rattle.ts_script.specs.declared.reply.Reply.{Reply}
use Rattle.ts_script.specs.declared.reply.Reply.TheVariants as reply
use Rattle.ts_store.specs.declared.stop.Stop.{Stop}
use Rattle.ts_store.specs.declared.stop.Kind.{Kind}
use Rattle.ts_store.specs.declared.stop.Stop.TheVariants.{Usage, Damaged, DiskFault, InputFault, OutputFault, InputLimit, Memory}
use Rattle.ts_store.specs.Does.{IsQueryStop}
use Rattle.ts_store.specs.Listed.{IsSaidAt, SaysPrefix}
use Rattle.ts_store.specs.Leaves.{AreLines, LeavesTold}

-- lines behind lines are lines
lines_append : (a b : List ℕ) → AreLines a → AreLines b → AreLines (a ++ b)
lines_append a b one (inl none) = subst AreLines (sym (ap (λ l. a ++ l) none ∙ append-nil a)) one
lines_append a b one (inr (front, is)) = inr (a ++ front, ap (λ l. a ++ l) is ∙ sym (append_assoc a front (10 ∷ [])))

said_append : (stop : Stop) (a b : List ℕ) → AreLines a → IsSaidAt stop b → IsSaidAt stop (a ++ b)
said_append OutputFault a b one other = tt
said_append Usage a b one other = lines_append a b one other
said_append (Damaged name) a b one other = lines_append a b one other
said_append DiskFault a b one other = lines_append a b one other
said_append InputFault a b one other = lines_append a b one other
said_append InputLimit a b one other = lines_append a b one other
said_append Memory a b one other = lines_append a b one other

-- a triple's line ends with a line
pub triple_lines : (before : List ℕ) (triple : TextTriple) → AreLines (before ++ triple_line triple)
triple_lines before triple = lines_end before (triple_line triple) (spelled, append_assoc _ (0x20 ∷ 0x2E ∷ []) (10 ∷ []))
  where
    spelled : List ℕ
    spelled = (triple.subject.spelling ++ 0x20 ∷ [] ++ triple.predicate.spelling ++ 0x20 ∷ [] ++ triple.object.spelling) ++ 0x20 ∷ 0x2E ∷ []

    lines_end : (before text : List ℕ) → (front : List ℕ) × (front ++ 10 ∷ [] ≡ text) → AreLines (before ++ text)
    lines_end before text (front, is) = inr (before ++ front, ap (λ l. before ++ l) (sym is) ∙ sym (append_assoc before front (10 ∷ [])))

module _ (Is : List ℕ → Type 0) where
  -- a front of a piece was said
  pub prefix_taken : (piece old new : List ℕ) (n : ℕ) → Is (take n piece) → new ≡ old ++ take n piece → SaysPrefix Is piece old new (drop n piece)
  prefix_taken piece old new n is e = (take n piece, is, e, take-append-drop n piece)

  -- more of a text was said
  pub prefix_more : ((a b : List ℕ) → AreLines a → Is b → Is (a ++ b)) → (text line old between new rest left : List ℕ)
      → SaysPrefix AreLines text old between left → SaysPrefix Is (left ++ line) between new rest → SaysPrefix Is (text ++ line) old new rest
  prefix_more closed text line old between new rest left (one, lines, is, whole) (other, lines_other, is_other, whole_other) = (
    one ++ other,
    closed one other lines lines_other,
    is_other ∙ ap (λ l. l ++ other) is ∙ append_assoc old one other,
    append_assoc one other rest ∙ ap (λ l. one ++ l) whole_other ∙ sym (append_assoc one left line) ∙ ap (λ l. l ++ line) whole,
  )

  -- a front of a text is one of a longer text
  pub prefix_longer : (text more longer old new rest : List ℕ) → longer ≡ text ++ more → SaysPrefix Is text old new rest → SaysPrefix Is longer old new (rest ++ more)
  prefix_longer text more longer old new rest e (said, lines, is, whole) =
      (said, lines, is, sym (append_assoc said rest more) ∙ ap (λ l. l ++ more) whole ∙ sym e)

  -- and so many bytes of it
  pub prefix_length : (text old new rest : List ℕ) → SaysPrefix Is text old new rest → (n : ℕ) × Is (take n text) × (new ≡ old ++ take n text)
  prefix_length text old new rest (said, lines, is, whole) =
      let front : said ≡ take (length said) text = sym (take-append_seam said rest) ∙ ap (take (length said)) whole in
      (length said, subst Is front lines, is ∙ ap (λ l. old ++ l) front)

  -- fewer than all, where something is left
  pub prefix_shorter : (text old new rest : List ℕ) → 0 < length rest → SaysPrefix Is text old new rest → (n : ℕ) × (n < length text) × Is (take n text) × (new ≡ old ++ take n text)
  prefix_shorter text old new rest longer (said, lines, is, whole) =
      let whole_length = ap length whole in
      let front : said ≡ take (length said) text = sym (take-append_seam said rest) ∙ ap (take (length said)) whole in
      (length said, omega (arith, whole_length, length-append said rest), subst Is front lines, is ∙ ap (λ l. old ++ l) front)

-- nothing was said yet
pub prefix_none : (text old : List ℕ) → SaysPrefix AreLines text old old text
prefix_none text old = ([], inl refl, sym (append-nil old), refl)

length-filter : {A : Type 0} (p : A → Bool) (xs : List A) → length (filter p xs) ≤ length xs
length-filter p [] = omega arith
length-filter p (x ∷ xs) = let later = length-filter p xs in elim (p x) as (λ b. length (cond b (x ∷ filter p xs) (filter p xs)) ≤ length (x ∷ xs)) [ true ↦ omega arith | false ↦ omega arith ]

module _ {A : Type 0} (p : A → Bool) (f : A → List ℕ) (xs : List A) (i : ℕ) where
  abbrev pub text_of : ℕ → List ℕ
  text_of n = flat_map f (filter p (take n xs))

  -- the text is that of the first elements and a rest
  text_rest_at : (n : ℕ) → flat_map f (filter p xs) ≡ text_of n ++ flat_map f (filter p (drop n xs))
  text_rest_at n =
      ap (λ l. flat_map f (filter p l)) (sym (take-append-drop n xs))
      ∙ ap (flat_map f) (filter-append p (take n xs) (drop n xs))
      ∙ flat_map-append f (filter p (take n xs)) (filter p (drop n xs))

  pub count_below : i < length xs → length (filter p (take i xs)) ≤ i
  count_below below = omega (arith, length-filter p (take i xs), length-take-le i xs (omega arith))

  module _ (x : A) (below : i < length xs) (is : x ≡ get_or xs i x) where
    pub filtered : (b : Bool) → p x ≡ b → filter p (take (i + 1) xs) ≡ filter p (take i xs) ++ cond b (x ∷ []) []
    filtered b e = filter_more p xs i x below ∙ ap (λ y. filter p (take i xs) ++ cond (p y) (y ∷ []) []) (sym is) ∙ ap (λ c. filter p (take i xs) ++ cond c (x ∷ []) []) e

    pub text_more : p x ≡ true → text_of (i + 1) ≡ text_of i ++ f x
    text_more e = ap (flat_map f) (filtered true e) ∙ flat_map-append f (filter p (take i xs)) (x ∷ []) ∙ ap (λ l. text_of i ++ l) (append-nil (f x))

    pub text_same : p x ≡ false → text_of (i + 1) ≡ text_of i
    text_same e = ap (flat_map f) (filtered false e ∙ append-nil (filter p (take i xs)))

    pub count_more : p x ≡ true → length (filter p (take (i + 1) xs)) ≡ length (filter p (take i xs)) + 1
    count_more e = ap length (filtered true e) ∙ length-append (filter p (take i xs)) (x ∷ [])

    pub count_same : p x ≡ false → length (filter p (take (i + 1) xs)) ≡ length (filter p (take i xs))
    count_same e = ap length (filtered false e ∙ append-nil (filter p (take i xs)))

    module _ (e : p x ≡ true) (old between new piece left : List ℕ) (before : SaysPrefix AreLines (text_of i) old between piece) where
      more_of : (Is : List ℕ → Type 0) → ((a b : List ℕ) → AreLines a → Is b → Is (a ++ b)) → SaysPrefix Is (piece ++ f x) between new left → SaysPrefix Is (text_of (i + 1)) old new left
      more_of Is closed now = subst (λ text. SaysPrefix Is text old new left) (sym (text_more e)) (prefix_more Is closed (text_of i) (f x) old between new left piece before now)

      -- one line more
      pub lines_more : SaysPrefix AreLines (piece ++ f x) between new left → SaysPrefix AreLines (text_of (i + 1)) old new left
      lines_more = more_of AreLines lines_append

      -- and there it ended
      pub lines_ended : (stop : Stop) → SaysPrefix (IsSaidAt stop) (piece ++ f x) between new left → (rest : List ℕ) × SaysPrefix (IsSaidAt stop) (flat_map f (filter p xs)) old new rest
      lines_ended stop now =
          let line : flat_map f (filter p xs) ≡ text_of (i + 1) ++ flat_map f (filter p (drop (i + 1) xs)) = text_rest_at (i + 1) in (
            left ++ flat_map f (filter p (drop (i + 1) xs)),
            prefix_longer (IsSaidAt stop) (text_of (i + 1)) (flat_map f (filter p (drop (i + 1) xs))) (flat_map f (filter p xs)) old new left line (more_of (IsSaidAt stop) (said_append stop) now),
          )

-- a line has a byte at least
pub line_is_longer : (text : List ℕ) → 0 < length (line text)
line_is_longer text = omega (arith, length-append text (10 ∷ []))

-- a front of the lines is one of the whole reply
pub list_ended : (stop : Stop) (text total old new : List ℕ) → IsQueryStop stop → 0 < length total → (left : List ℕ) × SaysPrefix (IsSaidAt stop) text old new left → LeavesTold (Err stop) (text ++ total) old new
list_ended OutputFault text total old new why longer (left, said) =
    let taken = prefix_length (IsSaidAt OutputFault) (text ++ total) old new (left ++ total) (prefix_longer (IsSaidAt OutputFault) text total (text ++ total) old new left refl said) in (taken.0, taken.2)
list_ended Memory text total old new why longer (left, said) =
    prefix_shorter AreLines (text ++ total) old new (left ++ total) (omega (arith, length-append left total)) (prefix_longer AreLines text total (text ++ total) old new left refl said)
list_ended Usage text total old new why longer said = absurd why
list_ended (Damaged name) text total old new why longer said = absurd why
list_ended DiskFault text total old new why longer said = absurd why
list_ended InputFault text total old new why longer said = absurd why
list_ended InputLimit text total old new why longer said = absurd why

-- what was left of the lines is said with the last one
pub list_done : (result : Result Kind Stop) (text total old between new piece : List ℕ) → IfErr result IsQueryStop → SaysPrefix AreLines text old between piece → LeavesTold result (piece ++ total) between new → LeavesTold result (text ++ total) old new
list_done (Ok kind) text total old between new piece why (said, lines, is, whole) told =
    told ∙ ap (λ l. l ++ (piece ++ total)) is ∙ append_assoc old said (piece ++ total) ∙ ap (λ l. old ++ l) (sym (append_assoc said piece total) ∙ ap (λ l. l ++ total) whole)
list_done (Err OutputFault) text total old between new piece why before (n, is) =
    let taken = prefix_length (IsSaidAt OutputFault) (text ++ total) old new (drop n (piece ++ total))
    (prefix_more (IsSaidAt OutputFault) (said_append OutputFault) text total old between new (drop n (piece ++ total)) piece before (prefix_taken (IsSaidAt OutputFault) (piece ++ total) between new n tt is)) in (taken.0, taken.2)
list_done (Err Memory) text total old between new piece why before (n, below, lines, is) =
    prefix_shorter AreLines (text ++ total) old new (drop n (piece ++ total)) (omega (arith, length-drop n (piece ++ total)))
    (prefix_more AreLines lines_append text total old between new (drop n (piece ++ total)) piece before (prefix_taken AreLines (piece ++ total) between new n lines is))
list_done (Err Usage) text total old between new piece why before told = absurd why
list_done (Err (Damaged name)) text total old between new piece why before told = absurd why
list_done (Err DiskFault) text total old between new piece why before told = absurd why
list_done (Err InputFault) text total old between new piece why before told = absurd why
list_done (Err InputLimit) text total old between new piece why before told = absurd why

-- ---- triples that are lent

abbrev pub triples_lent : List (Bor TextTriple) → List TextTriple
triples_lent triples = map (λ triple. triple.now) triples

pub lent_below : (triples : List (Bor TextTriple)) (i : ℕ) → i < length triples → i < length (triples_lent triples)
lent_below triples i below = omega (arith, below, length-map triples (λ (triple : Bor TextTriple). triple.now))

pub lent_is : (triples : List (Bor TextTriple)) (i : ℕ) (item : Bor TextTriple) → i < length triples → item ≡ get_or triples i item → item.now ≡ get_or (triples_lent triples) i item.now
lent_is triples i item below is = ap (λ (triple : Bor TextTriple). triple.now) is ∙ sym (get_or-map (λ (triple : Bor TextTriple). triple.now) triples i item item.now below)

-- every triple fits where no term is given
pub all_fit : (triples : List TextTriple) → filter (fits (record { subject = None; predicate = None; object = None })) triples ≡ triples
all_fit [] = refl
all_fit (triple ∷ triples) = ap (λ l. triple ∷ l) (all_fit triples)

-- ---- lines that are said one by one

module _ {A : Type 0} (p : A → Bool) (f : A → List ℕ) (xs : List A) (i : ℕ) (x : A) (below : i < length xs) (is : x ≡ get_or xs i x) (e : p x ≡ true) (old between new : List ℕ)
    (before : SaysPrefix AreLines (text_of p f xs i i) old between []) where
  pub line_said : AreLines (f x) → new ≡ between ++ f x → SaysPrefix AreLines (text_of p f xs i (i + 1)) old new []
  line_said lines said = lines_more p f xs i x below is e old between new [] [] before (f x, lines, said, append-nil (f x))

  pub line_failed : (stop : Stop) (total : List ℕ) → stop ≡ OutputFault → 0 < length total → LeavesTold (Err stop) (f x) between new → LeavesTold (Err stop) (flat_map f (filter p xs) ++ total) old new
  line_failed stop total why longer told = subst (λ (s : Stop). LeavesTold (Err s) (flat_map f (filter p xs) ++ total) old new) (sym why) (failed (subst (λ (s : Stop). LeavesTold (Err s) (f x) between new) why told))
    where
      failed : LeavesTold (Err OutputFault) (f x) between new → LeavesTold (Err OutputFault) (flat_map f (filter p xs) ++ total) old new
      failed (n, front) =
          list_ended OutputFault (flat_map f (filter p xs)) total old new tt longer
          (lines_ended p f xs i x below is e old between new [] (drop n (f x)) before OutputFault (prefix_taken (IsSaidAt OutputFault) (f x) between new n tt front))

-- ---- every triple is listed

abbrev pub each : TextTriple → Bool
each triple = true

pub each_one : (triples : List TextTriple) → filter each triples ≡ triples
each_one [] = refl
each_one (triple ∷ triples) = ap (λ l. triple ∷ l) (each_one triples)

-- ---- a reply of one line

pub reply_is_longer : (given : Reply) → 0 < length (reply_text given)
reply_is_longer (reply.Layer number) = line_is_longer (codes "layer " ++ layer_text number)
reply_is_longer (reply.LayerParent number parent) = line_is_longer (codes "layer " ++ layer_text number ++ codes " parent " ++ layer_or_none parent)
reply_is_longer (reply.Total count) = line_is_longer (codes "total " ++ decimal count)
reply_is_longer (reply.Count count) = line_is_longer (codes "count " ++ decimal count)
reply_is_longer reply.Yes = line_is_longer (codes "yes")
reply_is_longer reply.No = line_is_longer (codes "no")
reply_is_longer (reply.LabelIs name version layer) = line_is_longer (codes "label " ++ name ++ 32 ∷ decimal version ++ 32 ∷ layer_or_none layer)
reply_is_longer (reply.CursorOpen name) = line_is_longer (codes "cursor " ++ name ++ codes " open")
reply_is_longer (reply.CursorClosed name) = line_is_longer (codes "cursor " ++ name ++ codes " closed")
reply_is_longer reply.More = line_is_longer (codes "more")
reply_is_longer reply.AtEnd = line_is_longer (codes "end")
