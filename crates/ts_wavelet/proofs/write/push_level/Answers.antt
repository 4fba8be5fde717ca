use Rattle.std.proofs.Common.{◌++◌, Some, eqb, map, sym, ap, ◌∙◌}
use Rattle.std.proofs.lemmas.List.{append-nil, take_all}
use Rattle.std.specs.Int.{bit_at}
use Rattle.ts_wavelet.proofs.Pushes.{pushed}
use Rattle.ts_wavelet.proofs.write.push_level.Goals as goal

pub loop-x-init : goal.loop-x-init
loop-x-init c = λ old is. is ∙ ap (λ ys. Some ys) (sym (append-nil old))

pub loop-x-preserved : goal.loop-x-preserved
loop-x-preserved c = λ old is.
    pushed c.args.order.now c.loop-x.x-index c.args.shift old _ _ c.loop-x-test.true (c.loop-x.invariant old is) c.in_ok-push.ensures.ok

pub returns : goal.returns
returns c = record {
  ok = λ old is.
      c.loop-x.invariant old is ∙ ap (λ ys. Some (old ++ map (λ x. eqb (bit_at x c.args.shift) 1) ys)) (take_all c.loop-x.x-index c.args.order.now c.loop-x-test.false);
}
