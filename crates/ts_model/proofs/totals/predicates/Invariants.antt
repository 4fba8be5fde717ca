use Rattle.std.proofs.Common.{◌≡◌, map, take}
use Rattle.ts_model.proofs.totals.predicates.Given as goal

abbrev pub invariant-loop-triple : goal.invariant-loop-triple
invariant-loop-triple l = map (λ term. term.now) l.terms.items ≡ map (λ triple. triple.now.predicate) (take l.triple-index l.triples)
