use Rattle.ts_model.specs.Order.{triple_cmp}
use Rattle.ts_model.proofs.ListLaws.{IsStrictlySortedBy-map}
use Rattle.ts_plain.proofs.content.rising.Goals as goal

pub returns-clause-rise : goal.returns-clause-rise
returns-clause-rise c = IsStrictlySortedBy-map triple_cmp (λ triple. triple.now) c.args.standing.now.keys c.iter.ensures.ordered
