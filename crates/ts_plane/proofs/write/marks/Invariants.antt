use Rattle.std.proofs.Common.{◌≡◌, Some, take, nat_eq}
use Rattle.ts_plane.specs.Groups.{last_marks}
use Rattle.ts_plane.proofs.write.marks.Given as goal

abbrev pub invariant-loop-i : goal.invariant-loop-i
invariant-loop-i l = l.bits ≡ Some (take l.i (last_marks nat_eq l.keys))
