use Rattle.std.proofs.Common.{Option, ℕ, IfSome, IsTrue, subst}
use Rattle.std.specs.FinMap.{contains_key}
use Rattle.ts_store.proofs.find.find_named.Goals as goal

pub returns-in-Some-clause-stands : goal.returns-in-Some-clause-stands
returns-in-Some-clause-stands c =
    subst (λ (o : Option ℕ). IfSome o (λ k. IsTrue (contains_key c.args.store.now.history k))) c.in-Some.is c.in-Ok.ensures.is_label.stands
