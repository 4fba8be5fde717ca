use Rattle.std.proofs.Common.{ℕ, ◌<◌, slice_index}
use Rattle.ts_adjacency.specs.Rows.{row_of}
use Rattle.ts_plane.specs.Objects.{HasEdge, RisesThere}
use Rattle.ts_plane.proofs.objects.is_turned.Given as goal

abbrev pub invariant-loop-j : goal.invariant-loop-j
invariant-loop-j l = record {
  rising : (k : ℕ) → k < l.j → RisesThere l.by_object k;
  edges : (k : ℕ) → k < l.j → HasEdge l.triples (slice_index l.by_object.rights k) (slice_index l.objects (row_of l.by_object.ends k));
}
