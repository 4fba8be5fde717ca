use Rattle.std.proofs.Common.{arith}
use Rattle.ts_wavelet.proofs.Widths.{greatest_none, greatest_takes, greatest_keeps, greatest_fits, width_zero, width_is}
use Rattle.ts_wavelet.proofs.write.width_of.Goals as goal
use Rattle.ts_wavelet.proofs.write.width_of.Goals.{then-x-greatest, else-x-greatest}

pub loop-x-init : goal.loop-x-init
loop-x-init c = greatest_none c.args.sequence.now

pub loop-x-preserved : goal.loop-x-preserved
loop-x-preserved c =
    let xs = c.args.sequence.now in
    elim c.if-x-greatest.branch [
      | then-x-greatest w ↦ rw w.greatest-is (greatest_takes xs c.loop-x.x-index c.loop-x.greatest c.loop-x.invariant (omega arith))
      | else-x-greatest w ↦ rw w.greatest-is (greatest_keeps xs c.loop-x.x-index c.loop-x.greatest c.loop-x.invariant (omega arith))
    ]

pub returns-then-greatest-eq0-clause-is : goal.returns-then-greatest-eq0-clause-is
returns-then-greatest-eq0-clause-is c =
    width_zero c.args.sequence.now c.loop-x.x-index c.loop-x-test.false (rw c.if-greatest-eq0.true at c.loop-x.invariant)

pub returns-else-greatest-eq0-clause-is : goal.returns-else-greatest-eq0-clause-is
returns-else-greatest-eq0-clause-is c =
    width_is c.args.sequence.now c.loop-x.x-index c.loop-x.greatest _ c.loop-x-test.false (omega arith) c.loop-x.invariant (omega arith)
    (greatest_fits c.args.sequence.now c.loop-x.x-index c.loop-x.greatest c.loop-x.invariant (λ i. omega (arith, c.type_inv.sequence i))) (omega (arith, c.from.ensures))
