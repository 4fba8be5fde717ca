use Rattle.std.proofs.Common.{◌≡◌, false, rules}
use Rattle.ts_model.proofs.LiteralLaws.{is_letter_of_escape, no_letter, other_letter, nothing_there}
use Rattle.ts_model.proofs.canonical_literal.split_escaped.Goals as goal

pub returns-in_err-first-clause-none : goal.returns-in_err-first-clause-none
returns-in_err-first-clause-none c = rw c.from_residual.ensures (no_letter _ (λ letter rest is e. nothing_there _ _ _ c.in_err-first.ensures.none e))

pub returns-in_default-clause-none : goal.returns-in_default-clause-none
returns-in_default-clause-none c =
    let other : is_letter_of_escape c.in_ok-first.first ≡ false = search rules in
    no_letter _ (other_letter _ _ _ c.in_ok-first.ensures.bytes other)
