-- Where the next line ends.
use Rattle.std.proofs.Common.{◌≡◌, ℕ, ◌+◌, ◌-◌, ◌<◌, ◌≤◌, ◌==◌, ◌||◌, Bool, true, false, cond, List, [], ◌∷◌, ◌++◌, length, get_or, slice_range, refl, sym, ◌∙◌, ap, arith, append_assoc}
use Rattle.std.proofs.lemmas.Bool.{ne_eqb}
use Rattle.ts_script.specs.Lines.{is_end, HasNoEnd, feed_of, first_length}
use Rattle.ts_script.proofs.LinesLemmas.{slice_range-first, slice_range-split, length-slice_range, first_false, second_false}

-- a line feed that belongs to the end before is one more
pub first_length-feed : (r : Bool) (text left : List ℕ) (i j d : ℕ) → r ≡ true → i < j → j ≤ length text → d ≡ get_or text i d → d ≡ 10
    → first_length r (slice_range text i j ++ left) ≡ 1 + first_length false (slice_range text (i + 1) j ++ left)
unfolding first_length
first_length-feed r text left i j d is lt le read feed =
    rw (slice_range-first text i j d lt le, sym read, feed, is) refl

pub first_length-other : (r : Bool) (text left : List ℕ) (i j d : ℕ) → r ≡ true → i < j → j ≤ length text → d ≡ get_or text i d → (d ≡ 10 → ⊥)
    → first_length r (slice_range text i j ++ left) ≡ first_length false (slice_range text i j ++ left)
unfolding first_length
first_length-other r text left i j d is lt le read other =
    let not_feed : (d == 10) ≡ false = ne_eqb d 10 other in
    rw (slice_range-first text i j d lt le, sym read, not_feed) refl

not_end_first : (r : Bool) (b : ℕ) (text : List ℕ) → is_end b ≡ false → first_length r (b ∷ text) ≡ 1 + first_length false text
unfolding first_length
not_end_first r b text none = rw (second_false (b == 10) (b == 13) none, first_false (b == 10) (b == 13) none) refl

end_first : (b : ℕ) (rest : List ℕ) → is_end b ≡ true → first_length false (b ∷ rest) ≡ 1 + feed_of (b == 13) rest
unfolding first_length
end_first b rest h =
    elim (b == 13) as (λ r. ((b == 10) || r) ≡ true → cond r (1 + feed_of true rest) (cond (b == 10) 1 (1 + first_length false rest)) ≡ 1 + feed_of r rest) [
      | true ↦ λ _. refl
      | false ↦ λ e. elim (b == 10) as (λ t. (t || false) ≡ true → cond t 1 (1 + first_length false rest) ≡ 1) [
        | true ↦ λ _. refl
        | false ↦ λ f. absurd (cc)
      ] e
    ] h

-- bytes without an end are of the first line
pub first_length-front : (text left : List ℕ) → HasNoEnd text → first_length false (text ++ left) ≡ length text + first_length false left
first_length-front [] left none = omega arith
first_length-front (b ∷ text) left none =
    omega (arith, not_end_first false b (text ++ left) (first_false _ _ none), first_length-front text left (second_false (is_end b) _ none))

-- the first line ends with the first end
pub first_length-end : (text left : List ℕ) (s at e d : ℕ) → s ≤ at → at < e → e ≤ length text → HasNoEnd (slice_range text s at) → is_end d ≡ true → d ≡ get_or text at d
    → first_length false (slice_range text s e ++ left) ≡ (at - s) + (1 + feed_of (d == 13) (slice_range text (at + 1) e ++ left))
first_length-end text left s at e d lo lt le none end read =
    let long : length (slice_range text s at) ≡ at - s = length-slice_range text s at lo (omega arith) in
    rw (slice_range-split text s at e lo (omega arith), slice_range-first text at e d lt le, sym read, append_assoc) (
    first_length-front (slice_range text s at) (d ∷ slice_range text (at + 1) e ++ left) none
    ∙ ap (λ (n : ℕ). length (slice_range text s at) + n) (end_first d (slice_range text (at + 1) e ++ left) end)
    ∙ ap (λ (n : ℕ). n + (1 + feed_of (d == 13) (slice_range text (at + 1) e ++ left))) long
    )

-- what waits at the end of the input is the last line
pub first_length-last : (r : Bool) (text : List ℕ) → (0 < length text → r ≡ false) → HasNoEnd text → first_length r (text ++ []) ≡ length text
unfolding first_length
first_length-last r [] settled none = refl
first_length-last r (b ∷ text) settled none =
    let more = first_length-front (b ∷ text) [] none in
    rw (settled (omega arith)) (omega (arith, more))
