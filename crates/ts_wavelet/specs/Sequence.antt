-- How often a number stands in a sequence, and where.
use Rattle.std.specs.Prelude.{◌≡◌, ℕ, ◌-◌, nat_eq, List, Some, length, take, slice_get, slice_index}
use Rattle.std.specs.List.{count_by, filter, range_with_len}

-- how often p stands among the first j numbers
abbrev pub occurrences : List ℕ → ℕ → ℕ → ℕ
occurrences sequence p j = count_by (λ x. nat_eq x p) (take j sequence)

-- at this place stands p, with exactly n p's before it
pub record IsPlaceOf (sequence : List ℕ) (p n place : ℕ) : Type 0 where
  pub there : slice_get sequence place ≡ Some p
  pub before : occurrences sequence p place ≡ n

-- the places of p from place `from` on, rising
unfoldable pub places_from : List ℕ → ℕ → ℕ → List ℕ
places_from sequence p from =
    filter (λ place. nat_eq (slice_index sequence place) p) (range_with_len from (length sequence - from))
