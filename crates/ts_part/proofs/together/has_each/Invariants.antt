use Rattle.std.proofs.Common.{Contains}
use Rattle.ts_part.specs.Merged.{HasEach}
use Rattle.ts_part.proofs.together.has_each.Given as goal

abbrev pub invariant-loop-before : goal.invariant-loop-before
invariant-loop-before l = HasEach (Contains l.sequence) l.low l.before
