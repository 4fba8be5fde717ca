use Rattle.std.proofs.Common.{refl, arith, ◌/◌, ◌%◌, ◌∷◌}
use Rattle.ts_model.specs.Iri.{upper_digit}
use Rattle.ts_model.proofs.DelimitedLaws.{none_is_some}
use Rattle.ts_model.proofs.IriLaws.{same_digits, next_digit, number_written}
use Rattle.ts_model.proofs.canonical_iri.split_escape.Goals as goal

pub returns-in_err-digits-clause-none : goal.returns-in_err-digits-clause-none
returns-in_err-digits-clause-none c =
    rw c.from_residual.ensures (λ number rest small e. none_is_some _ ((c.in_err-digits.ensures _).0 e))

pub returns-in_err-high-clause-none : goal.returns-in_err-high-clause-none
returns-in_err-high-clause-none c =
    rw c.from_residual-in_err-high.ensures (λ number rest small e.
    c.in_err-high.ensures.none (number / 16) (upper_digit (number % 16) ∷ rest) (omega arith)
    (same_digits _ _ _ ((c.in_ok-digits.ensures _).1 refl) e))

pub returns-in_err-low-clause-none : goal.returns-in_err-low-clause-none
returns-in_err-low-clause-none c =
    rw c.from_residual-in_err-low.ensures (λ number rest small e.
    c.in_err-low.ensures.none (number % 16) rest (omega arith)
    (next_digit _ _ _ _ _ _ c.in_ok-high.ensures.some (same_digits _ _ _ ((c.in_ok-digits.ensures _).1 refl) e)))

pub returns-clause-some : goal.returns-clause-some
returns-clause-some c =
    number_written _ _ _ _ _ _ c.in_ok-high.ensures.below c.in_ok-low.ensures.below ((c.in_ok-digits.ensures _).1 refl) c.in_ok-high.ensures.some c.in_ok-low.ensures.some
