use Rattle.std.specs.Prelude.{◌≡◌, ℕ, ◌^◌, ◌<◌, List, ◌++◌, length}
use Rattle.ts_log.specs.LogArray.{log_array_of}
use Rattle.ts_idmap.specs.Permutation.{Permutes, inverse_of}

-- the one map of a permutation
unfoldable pub map_of : List ℕ → List ℕ
map_of outer = log_array_of outer ++ log_array_of (inverse_of outer)

-- the bytes, whole, are the map of this permutation
pub record MapSays (bytes outer : List ℕ) : Type 0 where
  pub permutes : Permutes outer
  pub spelled : bytes ≡ map_of outer
  pub counted : length outer < 2 ^ 64

-- the bytes, whole, are the map of no other permutation
abbrev pub MapSaysOnly : List ℕ → List ℕ → Type 0
MapSaysOnly bytes outer = (others : List ℕ) → MapSays bytes others → others ≡ outer
