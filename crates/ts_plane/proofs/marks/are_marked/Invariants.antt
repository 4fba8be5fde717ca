use Rattle.std.proofs.Common.{ℕ, ◌<◌}
use Rattle.ts_plane.specs.Marks.{IsMarked}
use Rattle.ts_plane.proofs.marks.are_marked.Given as goal

abbrev pub invariant-loop-i : goal.invariant-loop-i
invariant-loop-i l = (k : ℕ) → k < l.i → IsMarked l.marks k
