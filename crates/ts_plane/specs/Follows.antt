-- A triple and the one before it.
use Rattle.std.specs.Prelude.{◌≡◌, ℕ, ◌+◌, true, List, slice_index_or}
use Rattle.std.specs.Ordering.{is_lt}
use Rattle.ts_plane.specs.declared.triple.IdTriple.{IdTriple}
use Rattle.ts_plane.specs.Triple.{triple_cmp, IsPositive}

-- the triple at place i is greater than the one before it, where there is one, and its numbers are at least 1
pub record FollowsAt (triples : List IdTriple) (i : ℕ) : Type 0 where
  pub positive : (d : IdTriple) → IsPositive (slice_index_or triples i d)
  pub above : (k : ℕ) (d : IdTriple) → k + 1 ≡ i → is_lt (triple_cmp (slice_index_or triples k d) (slice_index_or triples (k + 1) d)) ≡ true
