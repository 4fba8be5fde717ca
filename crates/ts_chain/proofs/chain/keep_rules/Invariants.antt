use Rattle.std.proofs.Common.{ℕ, ◌<◌, get_or, map}
use Rattle.ts_part.specs.Facts.{Facts}
use Rattle.ts_part.specs.Rules.{KeepsRules}
use Rattle.ts_chain.proofs.chain.keep_rules.Given as goal

abbrev pub invariant-loop-part : goal.invariant-loop-part
invariant-loop-part l = (k : ℕ) (d : Facts) → k < l.part-index → KeepsRules (get_or (map (λ part. part.value.facts) l.parts) k d)
