use Rattle.std.proofs.Common.{eqb, ap, ◌∙◌, Some, arith, take_all}
use Rattle.ts_plane.specs.Groups.{last_marks}
use Rattle.ts_plane.proofs.GroupMembers.{length-last_marks}
use Rattle.ts_plane.proofs.PlaceLemmas.{bit_more}
use Rattle.ts_plane.proofs.write.marks.Goals as goal

pub loop-i-preserved : goal.loop-i-preserved
loop-i-preserved c =
    let long = length-last_marks eqb c.args.keys.now in
    bit_more (last_marks eqb c.args.keys.now) c.loop-i.i c.loop-i.bits c.push.new.self c.is_last.result (omega (arith, c.loop-i-test.true)) c.loop-i.invariant c.is_last.ensures c.in_ok-push.ensures.ok

pub returns : goal.returns
returns c =
    let long = length-last_marks eqb c.args.keys.now in
    c.loop-i.invariant ∙ ap (λ l. Some l) (take_all c.loop-i.i (last_marks eqb c.args.keys.now) (omega (arith, c.loop-i-test.false)))
