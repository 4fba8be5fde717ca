use Rattle.std.proofs.Common.{◌∙◌, ap, sym, arith}
use Rattle.ts_model.specs.Birth.{has_term}
use Rattle.ts_plain.specs.Held.{birth_in, noted}
use Rattle.ts_plain.proofs.HeldLaws.{noted-noted, list_any-more}
use Rattle.ts_plain.proofs.births.note_layer.Goals as goal

pub loop-triple-preserved : goal.loop-triple-preserved
loop-triple-preserved c = λ term.
    c.in_ok-note_triple.ensures term
    ∙ ap (λ o. noted o (has_term term c.triple-item.result) c.args.place) (c.loop-triple.invariant term)
    ∙ noted-noted (birth_in c.args.births.now term) _ _ c.args.place
    ∙ ap (λ b. noted (birth_in c.args.births.now term) b c.args.place) (sym (list_any-more (has_term term) c.args.additions.now c.loop-triple.triple-index _ (omega arith) c.triple-item.is))
