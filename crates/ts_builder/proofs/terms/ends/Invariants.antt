use Rattle.std.proofs.Common.{◌≡◌, ◌++◌, All, map, take}
use Rattle.ts_model.specs.TextTriple.{IsTriple}
use Rattle.ts_builder.proofs.terms.ends.Given as goal

abbrev pub invariant-loop-triple : goal.invariant-loop-triple
invariant-loop-triple l = record {
  terms : map (λ term. term.now) l.terms.items ≡ map (λ triple. triple.subject) (take l.triple-index l.triples);
  kinds : All IsTriple (take l.triple-index l.triples);
}

abbrev pub invariant-loop-triple-2 : goal.invariant-loop-triple-2
invariant-loop-triple-2 l = map (λ term. term.now) l.terms.items ≡ map (λ triple. triple.subject) l.triples ++ map (λ triple. triple.object) (take l.triple-index l.triples)
