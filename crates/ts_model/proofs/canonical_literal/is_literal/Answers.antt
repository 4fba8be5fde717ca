use Rattle.std.proofs.Common.{refl, subst, sym}
use Rattle.ts_model.specs.Literal.{IsEnding}
use Rattle.ts_model.proofs.DelimitedLaws.{answers_false, none_is_some, same_some}
use Rattle.ts_model.proofs.LiteralLaws.{behind_string}
use Rattle.ts_model.proofs.canonical_literal.is_literal.Goals as goal

pub returns-in-Some-after_string_characters : goal.returns-in-Some-after_string_characters
returns-in-Some-after_string_characters c =
    let both = behind_string _ _ ((c.in-Some.ensures _).1 refl) in
    let ends = c.in-Some-after_string_characters.ensures in (
      λ e. both.0 (_, (ends _).1 refl, c.is_ending.ensures.0 e),
      λ literal. let all = both.1 literal in c.is_ending.ensures.1 (subst IsEnding (sym (same_some _ _ ((ends all.0).0 all.1))) all.2),
    )

pub returns-in-None-after_string_characters : goal.returns-in-None-after_string_characters
returns-in-None-after_string_characters c =
    let both = behind_string _ _ ((c.in-Some.ensures _).1 refl) in
    answers_false (λ literal. let all = both.1 literal in none_is_some _ ((c.in-None-after_string_characters.ensures all.0).0 all.1))

pub returns-in-None : goal.returns-in-None
returns-in-None c = answers_false (λ literal. none_is_some _ ((c.in-None.ensures _).0 literal.spelled))
