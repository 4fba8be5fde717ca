use Rattle.std.proofs.Common.{ℕ, ◌<◌, ◌≤◌, slice_index}
use Rattle.ts_plane.specs.Objects.{HasEdge}
use Rattle.ts_plane.proofs.objects.is_shown.Given as goal

abbrev pub invariant-loop-j : goal.invariant-loop-j
invariant-loop-j l = (k : ℕ) → l.first ≤ k → k < l.j → ¬ HasEdge l.triples (slice_index l.by_object.rights k) l.x
