use Rattle.ts_purge.proofs.Pass.{Pass}
use Rattle.ts_purge.proofs.removals.plan.Given as goal

abbrev pub invariant-loop-left : goal.invariant-loop-left
invariant-loop-left l = Pass l.layers l.rolled l.named l.kept.items l.rows.items l.left

abbrev pub decreases-loop-left : goal.decreases-loop-left
decreases-loop-left l = l.left
