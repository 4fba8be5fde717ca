use Rattle.std.proofs.Common.{sym, ◌∙◌, ap}
use Rattle.ts_model.specs.Characters.{is_iri_character}
use Rattle.ts_model.proofs.IriLaws.{neither, needless, not_empty}
use Rattle.ts_model.proofs.canonical_iri.split_iri_character.Goals as goal

pub returns-in_err-first-clause-none : goal.returns-in_err-first-clause-none
returns-in_err-first-clause-none c = rw c.from_residual.ensures (λ d rest e. not_empty d rest (sym e ∙ c.in_err-first.ensures.none))

pub returns-in_err-number-clause-none : goal.returns-in_err-number-clause-none
returns-in_err-number-clause-none c =
    rw c.from_residual-in_err-number.ensures
    (neither _ _ _ c.in_ok-first.ensures.bytes (sym c.is_direct_in_iri.ensures ∙ c.if-is_direct_in_iri.false) c.in_err-number.ensures.none)

pub returns-then-is_direct_in_iri-2-clause-none : goal.returns-then-is_direct_in_iri-2-clause-none
returns-then-is_direct_in_iri-2-clause-none c =
    needless _ _ _ c.in_ok-number.ensures.some
    (sym (ap is_iri_character c.from-character.ensures) ∙ sym c.is_direct_in_iri-2.ensures ∙ c.if-is_direct_in_iri-2.true)
