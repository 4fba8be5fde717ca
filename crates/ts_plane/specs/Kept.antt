-- What the eight lists of a plane keep, whatever bytes say them.
use Rattle.std.specs.Prelude.{◌≡◌, ℕ, nat_eq, List, length, map}
use Rattle.std.specs.List.Sorted.{IsStrictlyIncreasing}
use Rattle.ts_bits.specs.Rank.{ones}
use Rattle.ts_adjacency.specs.Rows.{IsClosed}
use Rattle.ts_adjacency.specs.Adjacency.{edges}
use Rattle.ts_plane.specs.Groups.{last_marks}
use Rattle.ts_plane.specs.Turned.{rising_of, turned}
use Rattle.ts_plane.specs.Parts.{PlaneParts}
use Rattle.ts_plane.specs.Rules.{RisesInRows}

-- the places of the pairs of each object, rising
abbrev pub pairs_by_object : PlaneParts → List (ℕ × ℕ)
pairs_by_object parts = turned (edges (record { ends = parts.object_ends; rights = parts.pair_objects }))

-- the rules of the sections, without their bytes and bounds
pub record KeepsRules (parts : PlaneParts) : Type 0 where
  pub subjects_rise : IsStrictlyIncreasing parts.subjects
  pub subject_rows : ones parts.pair_ends ≡ length parts.subjects
  pub pairs_closed : IsClosed parts.pair_ends
  pub predicates_counted : length parts.pair_predicates ≡ length parts.pair_ends
  pub predicates_rise : RisesInRows parts.pair_ends parts.pair_predicates
  pub pair_rows : ones parts.object_ends ≡ length parts.pair_ends
  pub triples_closed : IsClosed parts.object_ends
  pub objects_counted : length parts.pair_objects ≡ length parts.object_ends
  pub objects_rise : RisesInRows parts.object_ends parts.pair_objects
  pub objects : parts.objects ≡ rising_of parts.pair_objects
  pub object_rows : ones parts.object_pair_ends ≡ length parts.objects
  pub by_object_long : length parts.object_pair_ends ≡ length parts.object_ends
  pub by_object_closed : IsClosed parts.object_pair_ends
  pub by_object_rows : parts.object_pair_ends ≡ last_marks nat_eq (map (λ edge. edge.0) (pairs_by_object parts))
  pub by_object : parts.object_pairs ≡ map (λ edge. edge.1) (pairs_by_object parts)
