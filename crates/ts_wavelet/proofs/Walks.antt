-- The places of a number, one after another.
use Rattle.std.proofs.Common.{◌≡◌, ℕ, zero, suc, ◌+◌, ◌-◌, ◌/◌, ◌^◌, ◌<◌, ◌≤◌, true, false, eqb, List, [], ◌∷◌, length, get_or, ap, ◌∙◌, arith, inl, inr}
use Rattle.std.proofs.lemmas.Bool.{cases_lt, cases_Bool, eq-eqb, cond-true, cond-false}
use Rattle.std.proofs.lemmas.Option.{slice_get_within, get_or_from_slice_get}
use Rattle.std.specs.List.{filter, range_with_len}
use Rattle.ts_wavelet.specs.Sequence.{occurrences, IsPlaceOf, places_from}
use Rattle.ts_wavelet.specs.Nodes.{digit_of}
use Rattle.ts_wavelet.proofs.Filters.{count_more}
use Rattle.ts_wavelet.proofs.Counts.{among_mono}
use Rattle.ts_wavelet.proofs.Descents.{among_leaf}
use Rattle.ts_wavelet.proofs.Trees.{digit-lt}

-- a longer front has no fewer
occurs_mono : (xs : List ℕ) (p j k : ℕ) → k ≤ length xs → j ≤ k → occurrences xs p j ≤ occurrences xs p k
occurs_mono xs p j k within h = omega (arith, among_leaf xs p j, among_leaf xs p k, among_mono xs 0 (p / 2 ^ 0) j k within h)

-- one number more
occurs_more : (xs : List ℕ) (p j : ℕ) → j < length xs → occurrences xs p (j + 1) ≡ occurrences xs p j + digit_of (eqb (get_or xs j 0) p)
occurs_more xs p j h = count_more (λ x. eqb x p) xs j 0 h

-- a place at which p doesn't stand
skip : (xs : List ℕ) (p from : ℕ) → from < length xs → eqb (get_or xs from 0) p ≡ false → places_from xs p from ≡ places_from xs p (from + 1)
unfolding places_from
skip xs p from h other =
    let e : length xs - from ≡ suc (length xs - (from + 1)) = omega arith in
    ap (λ (n : ℕ). filter (λ k. eqb (get_or xs k 0) p) (range_with_len from n)) e
    ∙ cond-false (eqb (get_or xs from 0) p) (from ∷ filter (λ k. eqb (get_or xs k 0) p) (range_with_len (from + 1) (length xs - (from + 1)))) (filter (λ k. eqb (get_or xs k 0) p) (range_with_len (from + 1) (length xs - (from + 1)))) other

-- a place at which it stands
meet : (xs : List ℕ) (p from : ℕ) → from < length xs → eqb (get_or xs from 0) p ≡ true → places_from xs p from ≡ from ∷ places_from xs p (from + 1)
unfolding places_from
meet xs p from h same =
    let e : length xs - from ≡ suc (length xs - (from + 1)) = omega arith in
    ap (λ (n : ℕ). filter (λ k. eqb (get_or xs k 0) p) (range_with_len from n)) e
    ∙ cond-true (eqb (get_or xs from 0) p) (from ∷ filter (λ k. eqb (get_or xs k 0) p) (range_with_len (from + 1) (length xs - (from + 1)))) (filter (λ k. eqb (get_or xs k 0) p) (range_with_len (from + 1) (length xs - (from + 1)))) same

-- where the count doesn't rise, p doesn't stand
other_here : (xs : List ℕ) (p from to : ℕ) → from < to → to ≤ length xs → occurrences xs p to ≤ occurrences xs p from → eqb (get_or xs from 0) p ≡ false
other_here xs p from to h within few = elim (cases_Bool (eqb (get_or xs from 0) p)) [
  | inr other ↦ other
  | inl same ↦
      let one : digit_of (eqb (get_or xs from 0) p) ≡ 1 = ap digit_of same in
      absurd (omega (arith, one, occurs_more xs p from (omega arith), occurs_mono xs p (from + 1) to within (omega arith)))
]

-- from a place on to the next at which p stands
places_to : (xs : List ℕ) (p d from to : ℕ) → from + d ≡ to → to ≤ length xs → occurrences xs p to ≤ occurrences xs p from → places_from xs p from ≡ places_from xs p to
places_to xs p zero from to e within few = let s : from ≡ to = omega arith in ap (places_from xs p) s
places_to xs p (suc d) from to e within few =
    let other = other_here xs p from to (omega arith) within few in
    let none : digit_of (eqb (get_or xs from 0) p) ≡ 0 = ap digit_of other in
    skip xs p from (omega arith) other ∙ places_to xs p d (from + 1) to (omega arith) within (omega (arith, occurs_more xs p from (omega arith), none))

-- what the place of a number says
pub record IsNext (xs : List ℕ) (p n place : ℕ) : Type 0 where
  pub within : place < length xs
  pub more : occurrences xs p (place + 1) ≡ n + 1
  pub most : occurrences xs p (place + 1) ≤ place + 1

occurs-le : (xs : List ℕ) (p j : ℕ) → j ≤ length xs → occurrences xs p j ≤ j
occurs-le xs p zero h = omega arith
occurs-le xs p (suc j) h =
    let ih = occurs-le xs p j (omega arith) in
    let e : j + 1 ≡ suc j = omega arith in
    let low = digit-lt (eqb (get_or xs j 0) p) in
    omega (arith, ih, low, occurs_more xs p j (omega arith), ap (occurrences xs p) e)

pub next_is : (xs : List ℕ) (p n place : ℕ) → IsPlaceOf xs p n place → IsNext xs p n place
next_is xs p n place is =
    let within = slice_get_within xs place p is.there in
    let same : eqb (get_or xs place 0) p ≡ true = eq-eqb _ p (get_or_from_slice_get xs place p 0 is.there) in
    let one : digit_of (eqb (get_or xs place 0) p) ≡ 1 = ap digit_of same in
    record {
      within = within;
      more = omega (arith, occurs_more xs p place within, one, is.before);
      most = occurs-le xs p (place + 1) (omega arith);
    }

-- the next place, and those behind it
pub places_next : (xs : List ℕ) (p n from place : ℕ) → IsPlaceOf xs p n place → from ≤ length xs → n ≡ occurrences xs p from
    → places_from xs p from ≡ place ∷ places_from xs p (place + 1)
places_next xs p n from place is within passed =
    let next = next_is xs p n place is in
    let same : eqb (get_or xs place 0) p ≡ true = eq-eqb _ p (get_or_from_slice_get xs place p 0 is.there) in
    let after : from ≤ place = elim (cases_lt place from) [
      | inr later ↦ later
      | inl before ↦ absurd (omega (arith, next.more, passed, occurs_mono xs p (place + 1) from within (omega arith)))
    ] in
    places_to xs p (place - from) from place (omega arith) (omega (arith, next.within)) (omega (arith, is.before, passed)) ∙ meet xs p place next.within same

-- behind all numbers there is no place
none_left : (xs : List ℕ) (p : ℕ) → places_from xs p (length xs) ≡ []
unfolding places_from
none_left xs p = let e : length xs - length xs ≡ 0 = omega arith in ap (λ (n : ℕ). filter (λ k. eqb (get_or xs k 0) p) (range_with_len (length xs) n)) e

-- no place is left
pub places_end : (xs : List ℕ) (p n from : ℕ) → from ≤ length xs → n ≡ occurrences xs p from → occurrences xs p (length xs) ≤ n → places_from xs p from ≡ []
places_end xs p n from within passed few =
    places_to xs p (length xs - from) from (length xs) (omega arith) (omega arith) (omega arith) ∙ none_left xs p
