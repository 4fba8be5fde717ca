use Rattle.std.proofs.Common.{◌≡◌, [], ◌∷◌, map, flat_map, take}
use Rattle.ts_model.proofs.totals.nodes_and_values.Given as goal

abbrev pub invariant-loop-triple : goal.invariant-loop-triple
invariant-loop-triple l = map (λ term. term.now) l.terms.items ≡ flat_map (λ triple. triple.now.subject ∷ triple.now.object ∷ []) (take l.triple-index l.triples)
