use Rattle.std.proofs.Common.{◌≡◌, map, take}
use Rattle.ts_model.specs.TextTerm.{TextTerm}
use Rattle.ts_plain.specs.Chain.{birth_over}
use Rattle.ts_plain.specs.Held.{birth_in}
use Rattle.ts_plain.proofs.births.births.Given as goal

abbrev pub invariant-loop-place : goal.invariant-loop-place
invariant-loop-place l = (term : TextTerm) → birth_in l.births term ≡ birth_over (map (λ layer. layer.now) (take l.place l.chain)) term
