-- Numbers in order and within a bound, place by place.
use Rattle.std.specs.Prelude.{◌≡◌, ℕ, ◌+◌, ◌<◌, ◌≤◌, Bool, List, slice_index}
use Rattle.ts_adjacency.specs.Rows.{row_of}

-- place j is in the row of the place before it
abbrev pub ContinuesRow : List Bool → ℕ → Type 0
ContinuesRow ends j = (k : ℕ) × (k + 1 ≡ j) × (row_of ends k ≡ row_of ends (k + 1))

-- the number at place j is from 1 to the bound, and above the one before it where that stands in its row
pub record FitsAt (ends : List Bool) (numbers : List ℕ) (bound j : ℕ) : Type 0 where
  pub positive : 1 ≤ slice_index numbers j
  pub bounded : slice_index numbers j ≤ bound
  pub above : (k : ℕ) → k + 1 ≡ j → row_of ends k ≡ row_of ends (k + 1) → slice_index numbers k < slice_index numbers (k + 1)

-- and above the one before it
pub record RisesAt (numbers : List ℕ) (bound j : ℕ) : Type 0 where
  pub positive : 1 ≤ slice_index numbers j
  pub bounded : slice_index numbers j ≤ bound
  pub above : (k : ℕ) → k + 1 ≡ j → slice_index numbers k < slice_index numbers (k + 1)
