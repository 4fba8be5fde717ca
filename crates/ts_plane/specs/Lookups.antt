-- What lookups in a plane's lists find: pairs by place, triples by place, and runs of places.
use Rattle.std.specs.Prelude.{◌≡◌, ℕ, ◌-◌, ◌<◌, ◌≤◌, Bool, true, false, ◌&&◌, Option, List, length, map, slice_index}
use Rattle.std.specs.List.{range_with_len}
use Rattle.ts_adjacency.specs.Rows.{row_of}
use Rattle.ts_plane.specs.declared.triple.IdTriple.{IdTriple}
use Rattle.ts_plane.specs.Parts.{PlaneParts}
use Rattle.ts_plane.specs.Decoded.{triple_at}
use Rattle.ts_plane.specs.Pattern.{part_fits}

-- the subject and the predicate of pair k
abbrev pub pair_at : PlaneParts → ℕ → ℕ × ℕ
pair_at parts k = (slice_index parts.subjects (row_of parts.pair_ends k), slice_index parts.pair_predicates k)

-- whether a pair has the subject and the predicate that a pattern asks for
abbrev pub pair_fits : Option ℕ → Option ℕ → ℕ × ℕ → Bool
pair_fits s p pair = part_fits s pair.0 && part_fits p pair.1

-- the triples at the places from `from` to before `to`
unfoldable pub triples_between : PlaneParts → ℕ → ℕ → List IdTriple
triples_between parts from to = map (triple_at parts) (range_with_len from (to - from))

-- of the first n numbers those from `from` to before `to` pass a test, and no others
pub record IsRun (test : ℕ → Bool) (n from to : ℕ) : Type 0 where
  pub ordered : from ≤ to
  pub within : to ≤ n
  pub before : (j : ℕ) → j < from → test j ≡ false
  pub inside : (j : ℕ) → from ≤ j → j < to → test j ≡ true
  pub behind : (j : ℕ) → to ≤ j → j < n → test j ≡ false

-- among the places from `from` to before `to`, where numbers rise, the first whose number is at least x, and `to` where there is none
pub record IsFirst (xs : List ℕ) (from to x place : ℕ) : Type 0 where
  pub begins : from ≤ place
  pub ends : place ≤ to
  pub below : (j : ℕ) → from ≤ j → j < place → slice_index xs j < x
  pub reached : (j : ℕ) → place ≤ j → j < to → x ≤ slice_index xs j

-- the first of these places whose number is greater than x
pub record IsFirstAbove (xs : List ℕ) (from to x place : ℕ) : Type 0 where
  pub begins : from ≤ place
  pub ends : place ≤ to
  pub low : (j : ℕ) → from ≤ j → j < place → slice_index xs j ≤ x
  pub above : (j : ℕ) → place ≤ j → j < to → x < slice_index xs j

-- the first place of a pair that isn't below (s, p), and the number of pairs where there is none
pub record IsFirstPair (parts : PlaneParts) (s p place : ℕ) : Type 0 where
  pub within : place ≤ length parts.pair_ends
  pub below : (k : ℕ) → k < place → (slice_index parts.subjects (row_of parts.pair_ends k) ≤ s)
      × (slice_index parts.subjects (row_of parts.pair_ends k) ≡ s → slice_index parts.pair_predicates k < p)
  pub reached : (k : ℕ) → place ≤ k → k < length parts.pair_ends → (s ≤ slice_index parts.subjects (row_of parts.pair_ends k))
      × (slice_index parts.subjects (row_of parts.pair_ends k) ≡ s → p ≤ slice_index parts.pair_predicates k)
