use Rattle.std.proofs.Common.{map, ap, sym, ◌∙◌}
use Rattle.std.proofs.lemmas.Simd.{map-map}
use Rattle.ts_chain.specs.Named.{name_of}
use Rattle.ts_chain.proofs.chain.Chain.parts.Goals as goal

pub returns : goal.returns
returns c = c.of.ensures ∙ ap (map (λ part. name_of part.value.facts)) c.deref.ensures.value
    ∙ sym (map-map name_of (λ part. part.value.facts) c.self.inside.parts.items) ∙ ap (map name_of) c.self.view_is
