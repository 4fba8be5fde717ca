use Rattle.std.proofs.Common.{◌≡◌, ◌++◌, ◌∷◌, [], ◌+◌, ap, ◌∙◌, arith}
use Rattle.ts_rollup.specs.Rolled.{numbers_above}
use Rattle.ts_rollup.proofs.NumbersAbove.{one_more}
use Rattle.ts_rollup.proofs.rollup.above.Goals as goal

pub loop-id-preserved : goal.loop-id-preserved
loop-id-preserved c = (
  (let low = c.loop-id.invariant.0 in omega arith),
  c.in_ok-push.ensures.items ∙ ap (λ l. l ++ (c.loop-id.id + 1) ∷ []) c.loop-id.invariant.1 ∙ one_more c.args.low c.loop-id.id c.loop-id.invariant.0,
)

pub returns : goal.returns
returns c =
    let low = c.requires in
    let most = c.loop-id.auto.id-end low in
    let least = c.loop-id-test.false in
    let same : c.loop-id.id ≡ c.args.high = omega arith in
    c.loop-id.invariant.1 ∙ ap (numbers_above c.args.low) same
