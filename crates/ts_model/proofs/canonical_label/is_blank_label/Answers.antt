use Rattle.std.proofs.Common.{rules, ◌≡◌, refl, subst, sym, ◌∷◌}
use Rattle.ts_model.specs.BlankLabel.{IsBlankLabel}
use Rattle.ts_model.proofs.WholeTextLaws.{blank_label}
use Rattle.ts_model.proofs.DelimitedLaws.{answers_false, none_is_some, followed}
use Rattle.ts_model.proofs.canonical_label.is_blank_label.Goals as goal

pub returns-in-Some : goal.returns-in-Some
returns-in-Some c =
    let begins : c.args.text.now ≡ 0x5F ∷ 0x3A ∷ c.in-Some.label.now = (c.in-Some.ensures _).1 refl in
    let both = followed c.is_label.ensures (blank_label _ (search rules)) in
    (λ e. subst IsBlankLabel (sym begins) (both.0 e), λ label. both.1 (subst IsBlankLabel begins label))

pub returns-in-None : goal.returns-in-None
returns-in-None c = answers_false (λ label. none_is_some _ ((c.in-None.ensures _).0 label.spelled))
