-- Marks on the layers of a history, one for each of its numbers.
use Rattle.std.specs.Prelude.{◌≡◌, ℕ, ◌+◌, ◌<◌, ◌⊎◌, Bool, true, false, List, length, slice_index, slice_index_or, slice_set, MatchOption, Option}

-- the number at a place is marked
pub record Marked (numbers : List ℕ) (marks : List Bool) (number : ℕ) : Type 0 where
  pub place : ℕ
  pub within : place < length numbers
  pub is : slice_index numbers place ≡ number
  pub marked : slice_index_or marks place false ≡ true

-- the number at a place is one of the first of those that are named
pub record IsNamed (numbers named : List ℕ) (first place : ℕ) : Type 0 where
  pub at : ℕ
  pub within : at < first
  pub is : slice_index named at ≡ slice_index numbers place

-- marked are exactly the last number and the first of those that are named
pub record AreSeeds (numbers named : List ℕ) (first : ℕ) (marks : List Bool) : Type 0 where
  pub long : length marks ≡ length numbers
  pub last : (place : ℕ) → place + 1 ≡ length numbers → slice_index_or marks place false ≡ true
  pub each : (at : ℕ) → at < first → Marked numbers marks (slice_index named at)
  pub only : (place : ℕ) → slice_index_or marks place false ≡ true
      → (place + 1 ≡ length numbers) ⊎ IsNamed numbers named first place

-- the number is marked, and no other is more than before
pub record IsMarkedIn (numbers : List ℕ) (number : ℕ) (old new : List Bool) : Type 0 where
  pub place : ℕ
  pub within : place < length numbers
  pub is : slice_index numbers place ≡ number
  pub marked : new ≡ slice_set old place true

-- a number is marked, if there is one
abbrev pub MarksOne : List ℕ → Option ℕ → List Bool → List Bool → Type 0
MarksOne numbers number old new = MatchOption number (new ≡ old) (λ k. IsMarkedIn numbers k old new)
