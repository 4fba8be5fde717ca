use Rattle.ts_model.proofs.LiteralLaws.{none_of_nothing, neither, quote_or_break}
use Rattle.ts_model.proofs.canonical_literal.split_string_character.Goals as goal

pub returns-in_err-first-clause-none : goal.returns-in_err-first-clause-none
returns-in_err-first-clause-none c = rw c.from_residual.ensures (none_of_nothing _ c.in_err-first.ensures.none)

pub returns-in-34-clause-none : goal.returns-in-34-clause-none
returns-in-34-clause-none c = let other = quote_or_break _ c.in-34.is in neither _ _ _ c.in_ok-first.ensures.bytes other.0 other.1
