use Rattle.std.proofs.Common.{◌≡◌, filter, map, take}
use Rattle.ts_part.specs.Step.{is_of_kind}
use Rattle.ts_builder.proofs.terms.of_kind.Given as goal

abbrev pub invariant-loop-term : goal.invariant-loop-term
invariant-loop-term l = map (λ term. term.now) l.those.items ≡ filter (is_of_kind l.kind) (map (λ term. term.now) (take l.term-index l.terms))
