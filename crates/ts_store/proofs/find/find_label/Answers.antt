use Rattle.std.proofs.Common.{sym, subst, ◌∙◌}
use Rattle.ts_store.specs.Named.{IsLabelOf}
use Rattle.ts_store.specs.State.{State}
use Rattle.ts_store.proofs.find.find_label.Goals as goal

pub returns-in-Some-clause-is_label : goal.returns-in-Some-clause-is_label
returns-in-Some-clause-is_label c =
    subst (λ (s : State). IsLabelOf s.history c.args.name.now c.in-Some.label) c.store.view_is
    (c.store.invariant.named c.args.name.now c.in-Some.label (sym c.get.ensures ∙ c.in-Some.is))
