use Rattle.std.proofs.Common.{Contains}
use Rattle.ts_part.proofs.MergedLemmas.{each_up}
use Rattle.ts_part.proofs.together.has_each.Goals as goal

pub loop-before-preserved : goal.loop-before-preserved
loop-before-preserved c =
    each_up (Contains c.args.sequence.now) c.args.low c.loop-before.before c.loop-before.invariant (c.has.ensures.0 c.if-not-has.false)
