use Rattle.std.proofs.Common.{◌↔◌, length, map}
use Rattle.ts_chain.specs.Chain.{AreLinked}
use Rattle.ts_chain.proofs.chain.Chain.are_linked.Given as goal

abbrev pub invariant-loop-rest : goal.invariant-loop-rest
invariant-loop-rest l = AreLinked (map (λ part. part.value.facts) l.parts) ↔ AreLinked (map (λ part. part.value.facts) l.rest)

abbrev pub decreases-loop-rest : goal.decreases-loop-rest
decreases-loop-rest l = length l.rest
