use Rattle.std.proofs.Common.{◌≡◌, map, take}
use Rattle.ts_model.specs.TextTriple.{TextTriple}
use Rattle.ts_model.specs.Sets.{contains}
use Rattle.ts_plain.specs.Chain.{content_over}
use Rattle.ts_plain.specs.Held.{holds}
use Rattle.ts_plain.proofs.content.content.Given as goal

abbrev pub invariant-loop-layer : goal.invariant-loop-layer
invariant-loop-layer l = (triple : TextTriple)
    → holds l.standing triple ≡ contains (content_over (map (λ layer. layer.now) (take l.layer-index l.chain))) triple
