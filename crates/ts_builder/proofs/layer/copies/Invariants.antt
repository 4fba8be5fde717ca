use Rattle.std.proofs.Common.{◌≡◌, map, take}
use Rattle.ts_builder.proofs.layer.copies.Given as goal

abbrev pub invariant-loop-term : goal.invariant-loop-term
invariant-loop-term l = l.copies.items ≡ map (λ term. term.now) (take l.term-index l.terms)
