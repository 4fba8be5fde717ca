-- The rules of a plane's sections: each speaks of its section, the sections before it, and the bounds.
use Rattle.std.specs.Prelude.{◌≡◌, ℕ, ◌+◌, ◌<◌, ◌≤◌, Bool, nat_eq, List, [], length, map, All, slice_index, slice_index_or}
use Rattle.std.specs.List.Sorted.{IsStrictlyIncreasing}
use Rattle.ts_bits.specs.BitArray.{BitsSay}
use Rattle.ts_bits.specs.Rank.{ones}
use Rattle.ts_log.specs.LogArray.{LogSays}
use Rattle.ts_adjacency.specs.Rows.{IsClosed, row_of}
use Rattle.ts_adjacency.specs.Adjacency.{edges}
use Rattle.ts_wavelet.specs.WaveletTree.{WaveletSays}
use Rattle.ts_plane.specs.Groups.{last_marks}
use Rattle.ts_plane.specs.Turned.{rising_of, turned}
use Rattle.ts_plane.specs.Parts.{PlaneParts}

-- section i of the eight
abbrev pub section : List (List ℕ) → ℕ → List ℕ
section sections i = slice_index_or sections i []

-- each number is from 1 to a bound
abbrev pub IsBounded : ℕ → List ℕ → Type 0
IsBounded bound xs = All (λ x. (1 ≤ x) × (x ≤ bound)) xs

-- within a row each number is below the next
abbrev pub RisesInRows : List Bool → List ℕ → Type 0
RisesInRows ends xs = (j : ℕ) → j + 1 < length xs → row_of ends j ≡ row_of ends (j + 1) → slice_index xs j < slice_index xs (j + 1)

-- the subjects rise, each from 1 to `terms`
pub record SubjectsRule (bytes : List ℕ) (terms : ℕ) (parts : PlaneParts) : Type 0 where
  pub says : LogSays bytes parts.subjects
  pub rising : IsStrictlyIncreasing parts.subjects
  pub bounded : IsBounded terms parts.subjects

-- each subject has a row of pairs
pub record PairEndsRule (bytes : List ℕ) (parts : PlaneParts) : Type 0 where
  pub says : BitsSay bytes parts.pair_ends
  pub counted : ones parts.pair_ends ≡ length parts.subjects
  pub closed : IsClosed parts.pair_ends

-- each pair has a predicate from 1 to `predicates`, rising within a subject
pub record PairPredicatesRule (bytes : List ℕ) (predicates : ℕ) (parts : PlaneParts) : Type 0 where
  pub says : WaveletSays bytes parts.pair_predicates
  pub counted : length parts.pair_predicates ≡ length parts.pair_ends
  pub rising : RisesInRows parts.pair_ends parts.pair_predicates
  pub bounded : IsBounded predicates parts.pair_predicates

-- each pair has a row of triples
pub record ObjectEndsRule (bytes : List ℕ) (parts : PlaneParts) : Type 0 where
  pub says : BitsSay bytes parts.object_ends
  pub counted : ones parts.object_ends ≡ length parts.pair_ends
  pub closed : IsClosed parts.object_ends

-- each triple has an object from 1 to `terms`, rising within a pair
pub record PairObjectsRule (bytes : List ℕ) (terms : ℕ) (parts : PlaneParts) : Type 0 where
  pub says : LogSays bytes parts.pair_objects
  pub counted : length parts.pair_objects ≡ length parts.object_ends
  pub rising : RisesInRows parts.object_ends parts.pair_objects
  pub bounded : IsBounded terms parts.pair_objects

-- the objects are exactly those of the triples, each once, rising
pub record ObjectsRule (bytes : List ℕ) (parts : PlaneParts) : Type 0 where
  pub says : LogSays bytes parts.objects
  pub exact : parts.objects ≡ rising_of parts.pair_objects

-- each object has a row, and each triple a place in one
pub record ObjectPairEndsRule (bytes : List ℕ) (parts : PlaneParts) : Type 0 where
  pub says : BitsSay bytes parts.object_pair_ends
  pub counted : ones parts.object_pair_ends ≡ length parts.objects
  pub long : length parts.object_pair_ends ≡ length parts.object_ends
  pub closed : IsClosed parts.object_pair_ends

-- the row of an object has the places of its pairs, rising
pub record ObjectPairsRule (bytes : List ℕ) (parts : PlaneParts) : Type 0 where
  pub says : LogSays bytes parts.object_pairs
  pub rows : parts.object_pair_ends ≡ last_marks nat_eq (map (λ edge. edge.0) (turned (edges (record { ends = parts.object_ends; rights = parts.pair_objects }))))
  pub exact : parts.object_pairs ≡ map (λ edge. edge.1) (turned (edges (record { ends = parts.object_ends; rights = parts.pair_objects })))

-- the sections before section i keep their rules
pub record KeepsBefore (sections : List (List ℕ)) (terms predicates : ℕ) (parts : PlaneParts) (i : ℕ) : Type 0 where
  pub subjects : 0 < i → SubjectsRule (section sections 0) terms parts
  pub pair_ends : 1 < i → PairEndsRule (section sections 1) parts
  pub pair_predicates : 2 < i → PairPredicatesRule (section sections 2) predicates parts
  pub object_ends : 3 < i → ObjectEndsRule (section sections 3) parts
  pub pair_objects : 4 < i → PairObjectsRule (section sections 4) terms parts
  pub objects : 5 < i → ObjectsRule (section sections 5) parts
  pub object_pair_ends : 6 < i → ObjectPairEndsRule (section sections 6) parts
  pub object_pairs : 7 < i → ObjectPairsRule (section sections 7) parts

-- section i is the first of the eight that doesn't keep its rule
pub record IsFirstFault (sections : List (List ℕ)) (terms predicates i : ℕ) : Type 0 where
  pub one_of_eight : i < 8
  pub parts : PlaneParts
  pub before : KeepsBefore sections terms predicates parts i
  pub fault : (others : PlaneParts) → ¬ KeepsBefore sections terms predicates others (i + 1)
