-- The eight bytes before a tree's bits: the width, and seven zeros.
use Rattle.std.specs.Prelude.{◌≡◌, ℕ, ◌≤◌, List, ◌∷◌, ◌++◌, replicate}

pub record IsControl (bytes : List ℕ) (width : ℕ) (rest : List ℕ) : Type 0 where
  pub some : 1 ≤ width
  pub narrow : width ≤ 64
  pub form : bytes ≡ width ∷ replicate 7 0 ++ rest

abbrev pub IsNoControl : List ℕ → Type 0
IsNoControl bytes = (width : ℕ) (rest : List ℕ) → ¬ IsControl bytes width rest
