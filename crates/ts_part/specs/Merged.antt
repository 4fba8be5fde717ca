-- Rising lists that are gone through side by side.
use Rattle.std.specs.Prelude.{ℕ, ◌<◌, ◌≤◌, List, length, slice_index}

-- each number above one, up to another, is as asked
abbrev pub HasEach : (ℕ → Type 0) → ℕ → ℕ → Type 0
HasEach Has low high = (number : ℕ) → low < number → number ≤ high → Has number

-- the numbers of a rising list that are below a number end at this place
pub record IsReached (numbers : List ℕ) (number place : ℕ) : Type 0 where
  pub within : place ≤ length numbers
  pub below : (k : ℕ) → k < place → slice_index numbers k < number
  pub above : (k : ℕ) → place ≤ k → k < length numbers → number ≤ slice_index numbers k
