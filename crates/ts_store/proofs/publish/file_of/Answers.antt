use Rattle.std.proofs.Common.{sym, ◌∙◌}
use Rattle.ts_store.proofs.NextLaws.{AreHistory-next, counted-next}
use Rattle.ts_store.proofs.publish.file_of.Goals as goal

pub returns-then-not-have_numbers-clause-full : goal.returns-then-not-have_numbers-clause-full
returns-then-not-have_numbers-clause-full c =
    let totals = c.in_ok-totals.totals in
    counted-next c.args.layers.now c.requires.history c.args.layer.now c.requires.next totals.terms totals.predicates c.as_slice.result.now c.as_slice.ensures.value
    c.in_ok-totals.ensures.terms c.in_ok-totals.ensures.predicates
    ∙ sym c.have_numbers.ensures ∙ c.if-not-have_numbers.true

pub returns-clause-full : goal.returns-clause-full
returns-clause-full c =
    let totals = c.in_ok-totals.totals in
    counted-next c.args.layers.now c.requires.history c.args.layer.now c.requires.next totals.terms totals.predicates c.as_slice.result.now c.as_slice.ensures.value
    c.in_ok-totals.ensures.terms c.in_ok-totals.ensures.predicates
    ∙ sym c.have_numbers.ensures ∙ c.if-not-have_numbers.false

pub returns-clause-file : goal.returns-clause-file
returns-clause-file c = (c.in_ok-write_plain.ensures.file, AreHistory-next c.args.layers.now c.requires.history c.args.layer.now c.requires.next c.in_ok-write_plain.ensures.terms.0)
