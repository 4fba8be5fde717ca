use Rattle.std.proofs.Common.{◌≡◌, map, take}
use Rattle.ts_builder.specs.Lookups.{lacked}
use Rattle.ts_builder.proofs.terms.lacking.Given as goal

abbrev pub invariant-loop-one : goal.invariant-loop-one
invariant-loop-one l = map (λ term. term.now) l.terms.items ≡ lacked (take l.one-index l.found)
