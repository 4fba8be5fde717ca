use Rattle.std.proofs.Common.{◌∙◌, sym, ap, arith}
use Rattle.std.specs.List.{list_any}
use Rattle.ts_model.specs.Birth.{has_term}
use Rattle.ts_plain.specs.Chain.{is_mentioned}
use Rattle.ts_plain.specs.Held.{birth_in, noted}
use Rattle.ts_plain.proofs.LayerLaws.{birth_over-more}
use Rattle.ts_plain.proofs.births.births.Goals as goal

pub loop-place-preserved : goal.loop-place-preserved
loop-place-preserved c = λ term.
    let layer = c.index-chain-place.result in
    c.in_ok-note_layer.ensures term
    ∙ ap (λ additions. noted (birth_in c.loop-place.births term) (list_any (has_term term) additions) c.loop-place.place) c.as_slice.ensures.value
    ∙ ap (λ o. noted o (is_mentioned term layer.now) c.loop-place.place) (c.loop-place.invariant term)
    ∙ sym (birth_over-more c.args.chain.now c.loop-place.place layer (omega arith) c.index-chain-place.is term)
