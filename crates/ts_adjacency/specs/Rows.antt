-- Places in rows, one row after another: a bit for each place says whether it is its row's last.
use Rattle.std.specs.Prelude.{◌≡◌, ℕ, ◌-◌, ◌<◌, ◌≤◌, Bool, true, List, Some, length, slice_get}
use Rattle.ts_bits.specs.Rank.{ones, rank}

-- each place is in a row that ends: where there are places, the last one is its row's last
abbrev pub IsClosed : List Bool → Type 0
IsClosed ends = 0 < length ends → slice_get ends (length ends - 1) ≡ Some true

-- how many rows there are
abbrev pub row_count : List Bool → ℕ
row_count ends = ones ends

-- the row of place j: as many rows end before it
abbrev pub row_of : List Bool → ℕ → ℕ
row_of ends j = rank ends j

-- row i has the places from `first` to before `after`, at least one, and no others
pub record IsRow (ends : List Bool) (i first after : ℕ) : Type 0 where
  pub some : first < after
  pub within : after ≤ length ends
  pub inside : (j : ℕ) → first ≤ j → j < after → row_of ends j ≡ i
  pub only : (j : ℕ) → j < length ends → row_of ends j ≡ i → (first ≤ j) × (j < after)

-- the rows before row i have the places before `first`, and no others
pub record BeginsAt (ends : List Bool) (i first : ℕ) : Type 0 where
  pub within : first ≤ length ends
  pub before : (j : ℕ) → j < first → row_of ends j < i
  pub here : row_of ends first ≡ i
