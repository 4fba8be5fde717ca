-- What stands at the front of a text, as long as it can be. A text is a list of characters.
use Rattle.std.specs.Prelude.{◌≡◌, ℕ, ◌≤◌, List, ◌++◌, length}

-- the longest front of a text that has P, and the text after it
pub record IsLongest (P : List ℕ → Type 0) (text front rest : List ℕ) : Type 0 where
  pub has : P front
  pub parts : text ≡ front ++ rest
  pub longest : (other more : List ℕ) → P other → text ≡ other ++ more → length other ≤ length front
