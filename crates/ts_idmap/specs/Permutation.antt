use Rattle.std.specs.Prelude.{◌≡◌, ◌≢◌, ℕ, suc, ◌<◌, ◌==◌, if◌then◌else◌, List, [], ◌∷◌, length, map, All, AllPairs}
use Rattle.std.specs.List.{range_with_len}

-- the numbers are those from 0 on, as many as there are places, each once
pub record Permutes (outer : List ℕ) : Type 0 where
  pub within : All (λ number. number < length outer) outer
  pub distinct : AllPairs (λ a b. a ≢ b) outer

-- the first place at which a number stands
unfoldable pub place_in : List ℕ → ℕ → ℕ
place_in [] number = 0
place_in (a ∷ rest) number = if a == number then 0 else suc (place_in rest number)

-- of a permutation: where each number stands
unfoldable pub inverse_of : List ℕ → List ℕ
inverse_of outer = map (place_in outer) (range_with_len 0 (length outer))

-- the first list is a permutation, and the second its inverse
pub record AreInverse (outer inverse : List ℕ) : Type 0 where
  pub permutes : Permutes outer
  pub inverts : inverse ≡ inverse_of outer
