use Rattle.std.specs.Option.{option_map}
use Rattle.ts_model.specs.declared.signed.Sign.TheVariants.{Add, Remove}
use Rattle.ts_chain.specs.Chain.{parts_or_none}
use Rattle.ts_builder.proofs.NetLemmas.{IsPicked, net_changes, net_is, net_kinds, net_rises, net_stands, picked_by}
use Rattle.ts_builder.proofs.net.net_change.Goals as goal

added_picked : (c : goal.After-drop-lines-2) → IsPicked Add (parts_or_none (option_map (λ chain. chain.now) c.args.parent)) c.args.body.now c.in_ok-additions.additions.items
added_picked c =
    picked_by Add (parts_or_none (option_map (λ chain. chain.now) c.args.parent)) c.args.body.now c.in_ok-additions.additions.items c.in_ok-lines.lines.items c.deref.result.now
    c.deref.ensures.value c.in_ok-lines.ensures.triples c.in_ok-lines.ensures.signs c.in_ok-additions.ensures.picked c.in_ok-additions.ensures.kinds

removed_picked : (c : goal.After-drop-lines-2) → IsPicked Remove (parts_or_none (option_map (λ chain. chain.now) c.args.parent)) c.args.body.now c.in_ok-removals.removals.items
removed_picked c =
    picked_by Remove (parts_or_none (option_map (λ chain. chain.now) c.args.parent)) c.args.body.now c.in_ok-removals.removals.items c.in_ok-lines.lines.items c.deref-2.result.now
    c.deref-2.ensures.value c.in_ok-lines.ensures.triples c.in_ok-lines.ensures.signs c.in_ok-removals.ensures.picked c.in_ok-removals.ensures.kinds

pub returns-clause-net : goal.returns-clause-net
returns-clause-net c = net_is _ _ _ _ (added_picked c) (removed_picked c)

pub returns-clause-change : goal.returns-clause-change
returns-clause-change c = net_changes _ _ _ _ (added_picked c) (removed_picked c)

pub returns-clause-at : goal.returns-clause-at
returns-clause-at c = net_stands _ _ _ _ (added_picked c) (removed_picked c)

pub returns-clause-added : goal.returns-clause-added
returns-clause-added c = net_kinds _ _ _ _ (added_picked c)

pub returns-clause-removed : goal.returns-clause-removed
returns-clause-removed c = net_kinds _ _ _ _ (removed_picked c)

pub invariant_of-result : goal.invariant_of-result
invariant_of-result c =
    let parts = parts_or_none (option_map (λ chain. chain.now) c.args.parent) in
    let lines = c.in_ok-lines.lines.items in
    net_rises parts c.args.body.now c.in_ok-additions.additions.items c.in_ok-removals.removals.items
    (picked_by Add parts c.args.body.now c.in_ok-additions.additions.items lines c.deref.result.now
    c.deref.ensures.value c.in_ok-lines.ensures.triples c.in_ok-lines.ensures.signs c.in_ok-additions.ensures.picked c.in_ok-additions.ensures.kinds)
    (picked_by Remove parts c.args.body.now c.in_ok-removals.removals.items lines c.deref-2.result.now
    c.deref-2.ensures.value c.in_ok-lines.ensures.triples c.in_ok-lines.ensures.signs c.in_ok-removals.ensures.picked c.in_ok-removals.ensures.kinds)
