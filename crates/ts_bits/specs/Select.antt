-- Where the ones and the zeros of a list of bits stand.
use Rattle.std.specs.Prelude.{◌≡◌, ℕ, ◌≤◌, Bool, true, false, List, Some, slice_get}
use Rattle.ts_bits.specs.Rank.{rank, zero_rank}

-- at this place stands a one, with exactly n ones before it
pub record IsPlaceOfOne (bits : List Bool) (n place : ℕ) : Type 0 where
  pub one : slice_get bits place ≡ Some true
  pub before : rank bits place ≡ n

-- at this place stands a zero, with exactly n zeros before it
pub record IsPlaceOfZero (bits : List Bool) (n place : ℕ) : Type 0 where
  pub zero : slice_get bits place ≡ Some false
  pub before : zero_rank bits place ≡ n

-- at this place stands a one, and none from place i up to it: it is the least one at or after i
pub record IsNextOne (bits : List Bool) (i place : ℕ) : Type 0 where
  pub after : i ≤ place
  pub one : slice_get bits place ≡ Some true
  pub between : rank bits place ≡ rank bits i
