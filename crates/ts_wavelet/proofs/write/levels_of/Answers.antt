use Rattle.std.proofs.Common.{◌-◌, ◌++◌, refl, ap, ◌∙◌, arith}
use Rattle.ts_wavelet.proofs.Written.{first_order, next_order, next_level, all_levels}
use Rattle.ts_wavelet.proofs.write.levels_of.Goals as goal

pub loop-l-init : goal.loop-l-init
loop-l-init c = record {
  within = omega arith;
  bits = c.new-bits.ensures;
  order = c.in_ok-extend_from_slice.ensures.items ∙ ap (λ ys. ys ++ c.args.sequence.now) c.new-order.ensures.items ∙ first_order c.args.width c.args.sequence.now c.requires.fits;
}

pub loop-l-preserved : goal.loop-l-preserved
loop-l-preserved c = record {
  within = omega arith;
  bits = next_level c.args.width c.loop-l.l (c.args.width - 1 - c.loop-l.l) c.args.sequence.now c.deref.result.now c.loop-l.bits c.push_level.new.bits refl (c.deref.ensures.value ∙ c.loop-l.invariant.order) c.loop-l.invariant.bits c.in_ok-push_level.ensures.ok;
  order = next_order c.args.width c.loop-l.l (c.args.width - 1 - c.loop-l.l) c.args.sequence.now c.deref-in-loop-l.result.now c.in_ok-order.order.items c.loop-l-test.true refl (c.deref-in-loop-l.ensures.value ∙ c.loop-l.invariant.order) c.in_ok-order.ensures;
}

pub returns : goal.returns
returns c = all_levels c.args.width c.loop-l.l c.args.sequence.now c.loop-l.bits (omega arith) c.loop-l.invariant.bits
