use Rattle.std.proofs.Common.{ℕ, ◌<◌}
use Rattle.ts_plane.specs.Follows.{FollowsAt}
use Rattle.ts_plane.proofs.order.is_plane_list.Given as goal

abbrev pub invariant-loop-i : goal.invariant-loop-i
invariant-loop-i l = (k : ℕ) → k < l.i → FollowsAt l.triples k
