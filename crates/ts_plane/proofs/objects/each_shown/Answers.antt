use Rattle.std.proofs.Common.{arith}
use Rattle.std.proofs.lemmas.Bool.{both_ways}
use Rattle.ts_plane.specs.Objects.{IsShown}
use Rattle.ts_plane.proofs.RowSteps.{confirmed, each_more, refuted}
use Rattle.ts_plane.proofs.objects.each_shown.Goals as goal

pub returns-then-not-is_shown : goal.returns-then-not-is_shown
returns-then-not-is_shown c = refuted (λ each. both_ways c.is_shown.result c.if-not-is_shown.true
    (c.is_shown.ensures.1 (each c.loop-i.i (omega (arith, c.len-i-end.ensures, c.loop-i-test.true)))))

pub loop-i-preserved : goal.loop-i-preserved
loop-i-preserved c =
    each_more (IsShown c.args.objects.now c.args.by_object.now c.args.triples.now) c.loop-i.i c.loop-i.invariant
    (c.is_shown.ensures.0 c.if-not-is_shown.false)

pub returns : goal.returns
returns c = confirmed (λ i low. c.loop-i.invariant i (omega (arith, c.len-i-end.ensures, c.loop-i-test.false, low)))
