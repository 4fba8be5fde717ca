use Rattle.std.proofs.Common.{◌≡◌, map, take}
use Rattle.ts_builder.proofs.terms.relations.Given as goal

abbrev pub invariant-loop-triple : goal.invariant-loop-triple
invariant-loop-triple l = map (λ term. term.now) l.terms.items ≡ map (λ triple. triple.predicate) (take l.triple-index l.triples)
