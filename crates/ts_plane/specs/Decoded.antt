-- The triples that the eight lists hold, place by place.
use Rattle.std.specs.Prelude.{◌≡◌, ℕ, List, length, map, slice_index}
use Rattle.std.specs.List.{range_with_len}
use Rattle.ts_adjacency.specs.Rows.{row_of}
use Rattle.ts_plane.specs.declared.triple.IdTriple.{IdTriple}
use Rattle.ts_plane.specs.Triple.{IsPlaneList}
use Rattle.ts_plane.specs.Parts.{PlaneParts, parts_of}
use Rattle.ts_plane.specs.Rules.{KeepsBefore}

-- the triple at place j: its pair is the row of the place, and its subject the row of the pair
abbrev pub triple_at : PlaneParts → ℕ → IdTriple
triple_at parts j = record {
  s = slice_index parts.subjects (row_of parts.pair_ends (row_of parts.object_ends j));
  p = slice_index parts.pair_predicates (row_of parts.object_ends j);
  o = slice_index parts.pair_objects j;
}

-- all of them
unfoldable pub triples_in : PlaneParts → List IdTriple
triples_in parts = map (triple_at parts) (range_with_len 0 (length parts.object_ends))

-- the eight lists are those of a list that a plane can say, and sections that say them keep their rules
pub record IsPlane (parts : PlaneParts) : Type 0 where
  pub list : IsPlaneList (triples_in parts)
  pub exact : parts ≡ parts_of (triples_in parts)
  pub sections : List (List ℕ)
  pub terms : ℕ
  pub predicates : ℕ
  pub rules : KeepsBefore sections terms predicates parts 8
