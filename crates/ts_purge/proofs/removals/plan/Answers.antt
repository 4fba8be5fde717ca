use Rattle.std.proofs.Common.{◌≡◌, ◌-◌, ◌<◌, length, arith, subst, sym, ◌∙◌}
use Rattle.std.proofs.lemmas.List.{get_or_default}
use Rattle.ts_purge.proofs.Pass.{Pass, drops_row, passes}
use Rattle.ts_purge.proofs.Reached.{plan_is}
use Rattle.ts_purge.proofs.removals.plan.Goals as goal

pub loop-left-preserved-then-index : goal.loop-left-preserved-then-index
loop-left-preserved-then-index c =
    let pass = c.loop-left.invariant in
    let below : c.loop-left.left - 1 < length c.loop-left.kept.items = omega (arith, pass.long, pass.bound) in
    passes c.args.layers.now c.args.rolled.now c.args.named.now c.requires.rows c.loop-left.kept.items c.keep_parent.new.kept.items c.loop-left.rows.items
    c.loop-left.left _ (omega arith) (get_or_default _ _ _ c.index.result.now below ∙ sym c.index.ensures ∙ c.if-index.true) c.keep_parent.ensures pass

pub loop-left-preserved : goal.loop-left-preserved
loop-left-preserved c =
    let pass = c.loop-left.invariant in
    let below : c.loop-left.left - 1 < length c.loop-left.kept.items = omega (arith, pass.long, pass.bound) in
    drops_row c.args.layers.now c.args.rolled.now c.args.named.now c.requires.rows c.loop-left.kept.items c.loop-left.rows.items c.push_drops.new.rows.items
    c.loop-left.left _ (omega arith) (get_or_default _ _ _ c.index.result.now below ∙ sym c.index.ensures ∙ c.if-index.false) c.in_ok-push_drops.ensures pass

pub returns : goal.returns
returns c = λ history its.
    let done : c.loop-left.left ≡ 0 = omega arith in
    plan_is history c.args.layers.now c.requires.rows its c.args.rolled.now c.args.named.now c.loop-left.kept.items c.loop-left.rows.items
    (subst (Pass c.args.layers.now c.args.rolled.now c.args.named.now c.loop-left.kept.items c.loop-left.rows.items) done c.loop-left.invariant)
