use Rattle.std.proofs.Common.{length}
use Rattle.ts_rollup.specs.Waiting.{waiting}
use Rattle.ts_rollup.proofs.SideBySide.{IsPassing}
use Rattle.ts_rollup.proofs.difference.pass_below.Given as goal

abbrev pub invariant-loop-next : goal.invariant-loop-next
invariant-loop-next l = IsPassing l.limit (waiting l.initial.next l.initial.lower) l.initial.lost.items l.next l.lower l.lost.items

abbrev pub decreases-loop-next : goal.decreases-loop-next
decreases-loop-next l = length (waiting l.next l.lower)
