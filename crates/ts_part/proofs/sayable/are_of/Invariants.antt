use Rattle.std.proofs.Common.{take}
use Rattle.ts_part.specs.Part.{AreOf}
use Rattle.ts_part.proofs.sayable.are_of.Given as goal

abbrev pub invariant-loop-i : goal.invariant-loop-i
invariant-loop-i l = AreOf l.kind (take l.i l.terms)
