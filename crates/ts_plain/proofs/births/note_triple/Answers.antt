use Rattle.std.proofs.Common.{◌∙◌, ◌||◌, ap}
use Rattle.ts_model.specs.Birth.{is_term}
use Rattle.ts_plain.specs.Held.{birth_in, noted}
use Rattle.ts_plain.proofs.HeldLaws.{noted-noted}
use Rattle.ts_plain.proofs.births.note_triple.Goals as goal

pub returns : goal.returns
returns c = λ term.
    let place = c.args.place in
    let before = birth_in c.args.births.now term in
    let subject = c.subject.result.now in
    let predicate = c.predicate.result.now in
    let object = c.object.result.now in
    c.in_ok-note-3.ensures term
    ∙ ap (λ o. noted o (is_term term object) place) (
    c.in_ok-note-2.ensures term
    ∙ ap (λ o. noted o (is_term term predicate) place) (c.in_ok-note.ensures term)
    ∙ noted-noted before (is_term term subject) (is_term term predicate) place
    )
    ∙ noted-noted before (is_term term subject || is_term term predicate) (is_term term object) place
    ∙ (λ i. noted before ((is_term term (c.subject.ensures.subject i) || is_term term (c.predicate.ensures.predicate i)) || is_term term (c.object.ensures.object i)) place)
