use Rattle.std.proofs.Common.{ℕ, ap, refl}
use Rattle.ts_chain.proofs.StepsLink.{steps_total}
use Rattle.ts_chain.proofs.law.counts_are_totals.Goals as goal

pub returns-clause-totals : goal.returns-clause-totals
returns-clause-totals c = λ history k. refl

pub returns-clause-parts : goal.returns-clause-parts
returns-clause-parts c = λ history k parts stands.
    let total = steps_total history k parts stands in
    (ap (λ (totals : ℕ × ℕ). totals.0) total, ap (λ (totals : ℕ × ℕ). totals.1) total)

pub returns-clause-fit : goal.returns-clause-fit
returns-clause-fit c = λ history k. (λ fit. fit, λ fit. fit)
