use Rattle.std.proofs.Common.{Some}
use Rattle.ts_part.proofs.Births.{over_ancestor}
use Rattle.ts_part.proofs.IdOrder.{id-once, id-within, id_triples-plane}
use Rattle.ts_part.proofs.TripleStays.{id_triples-stay}
use Rattle.ts_part.proofs.TripleTerms.{content_terms}
use Rattle.ts_part.proofs.law.triples_are_stable.Goals as goal

pub returns-clause-plane : goal.returns-clause-plane
returns-clause-plane c = λ history k triples kept part. id_triples-plane history kept k triples (λ triple is. content_terms history kept (Some k) triple (part triple is))

pub returns-clause-within : goal.returns-clause-within
returns-clause-within c = λ history k triple kept is. id-within history kept k triple (content_terms history kept (Some k) triple is)

pub returns-clause-once : goal.returns-clause-once
returns-clause-once c = λ history k a b kept one other. id-once history kept k a b (content_terms history kept (Some k) a one) (content_terms history kept (Some k) b other)

pub returns-clause-stay : goal.returns-clause-stay
returns-clause-stay c = λ history a k triples kept under part.
    id_triples-stay history kept a k (over_ancestor history kept a k under) triples (λ triple is. content_terms history kept (Some a) triple (part triple is))
