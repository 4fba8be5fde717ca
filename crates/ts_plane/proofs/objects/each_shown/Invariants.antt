use Rattle.std.proofs.Common.{ℕ, ◌<◌}
use Rattle.ts_plane.specs.Objects.{IsShown}
use Rattle.ts_plane.proofs.objects.each_shown.Given as goal

abbrev pub invariant-loop-i : goal.invariant-loop-i
invariant-loop-i l = (k : ℕ) → k < l.i → IsShown l.objects l.by_object l.triples k
