use Rattle.std.proofs.Common.{refl, []}
use Rattle.ts_model.proofs.DelimitedLaws.{none_is_some, answers_false, is_empty_rest, followed, turned}
use Rattle.ts_model.proofs.IriLaws.{inside_delimiters}
use Rattle.ts_model.proofs.canonical_iri.is_iri.Goals as goal

pub returns-in-Some-after_iri_characters : goal.returns-in-Some-after_iri_characters
returns-in-Some-after_iri_characters c =
    followed (is_empty_rest _ _ c.is_empty.ensures)
    (turned (followed (inside_delimiters _ _ ((c.in-Some.ensures _).1 refl)) (c.in-Some-after_iri_characters.ensures [])))

pub returns-in-None-after_iri_characters : goal.returns-in-None-after_iri_characters
returns-in-None-after_iri_characters c =
    answers_false (λ iri. none_is_some _ ((c.in-None-after_iri_characters.ensures []).0 ((inside_delimiters _ _ ((c.in-Some.ensures _).1 refl)).0 iri)))

pub returns-in-None : goal.returns-in-None
returns-in-None c = answers_false (λ iri. none_is_some _ ((c.in-None.ensures _).0 iri.spelled))
