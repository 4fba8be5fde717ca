use Rattle.std.proofs.Common.{◌/◌, ◌+◌, ◌-◌, ◌<◌, ◌≤◌, get_or, subst, sym, arith}
use Rattle.std.proofs.lemmas.Option.{get_or_from_slice_get}
use Rattle.ts_log.proofs.RisingLemmas.{below_here, reached_here}
use Rattle.ts_plane.proofs.search.first_symbol.Goals as goal

pub loop-low-preserved-then-at-x : goal.loop-low-preserved-then-at-x
loop-low-preserved-then-at-x c =
    let m = c.loop-low.low + (c.loop-low.high - c.loop-low.low) / 2 in
    let less : get_or c.args.sequence.now m 0 < c.args.x = subst (λ y. y < c.args.x) (sym (get_or_from_slice_get c.args.sequence.now m c.at.result 0 c.at.ensures)) c.if-at-x.true in
    record {
      begins = omega arith;
      ordered = omega arith;
      ends = c.loop-low.invariant.ends;
      below = below_here c.args.sequence.now c.args.from c.args.to m c.args.x c.requires.rising (omega arith) less;
      reached = c.loop-low.invariant.reached;
    }

pub loop-low-preserved : goal.loop-low-preserved
loop-low-preserved c =
    let m = c.loop-low.low + (c.loop-low.high - c.loop-low.low) / 2 in
    let least : c.args.x ≤ get_or c.args.sequence.now m 0 = subst (λ y. c.args.x ≤ y) (sym (get_or_from_slice_get c.args.sequence.now m c.at.result 0 c.at.ensures)) c.if-at-x.false in
    record {
      begins = c.loop-low.invariant.begins;
      ordered = omega arith;
      ends = omega arith;
      below = c.loop-low.invariant.below;
      reached = reached_here c.args.sequence.now c.args.from c.args.to m c.args.x c.requires.rising (omega arith) least;
    }
