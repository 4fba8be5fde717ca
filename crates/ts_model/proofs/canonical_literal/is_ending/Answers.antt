use Rattle.std.proofs.Common.{rules, ◌≡◌, ◌∷◌, refl, sym, subst}
use Rattle.ts_model.specs.Literal.{IsEnding}
use Rattle.ts_model.proofs.DelimitedLaws.{followed, none_is_some, is_empty_text}
use Rattle.ts_model.proofs.WholeTextLaws.{language_ending}
use Rattle.ts_model.proofs.LiteralLaws.{type_alone, tag_alone, nothing_alone}
use Rattle.ts_model.proofs.canonical_literal.is_ending.Goals as goal

pub returns-in-Some : goal.returns-in-Some
returns-in-Some c =
    let begins : c.args.text.now ≡ 0x5E ∷ 0x5E ∷ c.in-Some.iri.now = (c.in-Some.ensures _).1 refl in
    let both = followed c.is_written_type.ensures (type_alone _) in
    (λ e. subst IsEnding (sym begins) (both.0 e), λ ending. both.1 (subst IsEnding begins ending))

pub returns-in-Some-after_prefix : goal.returns-in-Some-after_prefix
returns-in-Some-after_prefix c =
    let begins : c.args.text.now ≡ 0x40 ∷ c.in-Some-after_prefix.tag.now = (c.in-Some-after_prefix.ensures _).1 refl in
    let both = followed c.is_tag.ensures (followed (language_ending _ (search rules)) (tag_alone _)) in
    (λ e. subst IsEnding (sym begins) (both.0 e), λ ending. both.1 (subst IsEnding begins ending))

pub returns : goal.returns
returns c = followed (is_empty_text _ _ c.is_empty.ensures)
    (nothing_alone _ (λ rest e. none_is_some _ ((c.in_default.ensures rest).0 e)) (λ rest e. none_is_some _ ((c.in_default-after_prefix.ensures rest).0 e)))
