-- Parts that stand for a layer go on from one another, and their totals are the layer's.
use Rattle.std.proofs.Common.{◌≡◌, ℕ, List, [], ◌∷◌, Option, None, Some, refl, sym, ap, ◌∙◌}
use Rattle.ts_model.specs.History.{History}
use Rattle.ts_part.specs.Facts.{Facts}
use Rattle.ts_part.specs.Numbers.{totals_at}
use Rattle.ts_chain.specs.Chain.{AreLinked, GoesOnFrom, predicates_in, terms_in}
use Rattle.ts_chain.specs.Stands.{AreStepsTo, IsStepTo, StandsFor}

abbrev first : ℕ × ℕ → ℕ
first pair = pair.0

abbrev second : ℕ × ℕ → ℕ
second pair = pair.1

module _ (history : History) where
  goes_on : (k a : ℕ) (part next : Facts) → IsStepTo history k part → part.parent ≡ Some a → IsStepTo history a next → GoesOnFrom part next
  goes_on k a part next step e below = record {
    parent = e ∙ ap Some (sym below.step.number);
    terms = ap first step.step.before ∙ ap (λ o. (totals_at history o).0) e ∙ ap first (sym below.totals);
    predicates = ap second step.step.before ∙ ap (λ o. (totals_at history o).1) e ∙ ap second (sym below.totals);
  }

  linked : (parts : List Facts) (k : ℕ) (part : Facts) (at : Option ℕ) → IsStepTo history k part → part.parent ≡ at → AreStepsTo history at parts → AreLinked (part ∷ parts)
  linked [] k part None step e below = e
  linked [] k part (Some a) step e below = absurd below
  linked (next ∷ parts) k part None step e below = absurd below
  linked (next ∷ parts) k part (Some a) step e below = (goes_on k a part next step e below.0, linked parts a next next.parent below.0 refl below.1)

  link : (k : ℕ) (parts : List Facts) → AreStepsTo history (Some k) parts → AreLinked parts
  link k [] steps = absurd steps
  link k (part ∷ parts) steps = linked parts k part part.parent steps.0 refl steps.1

  total : (k : ℕ) (parts : List Facts) → AreStepsTo history (Some k) parts → (terms_in parts, predicates_in parts) ≡ totals_at history (Some k)
  total k [] steps = absurd steps
  total k (part ∷ parts) steps = steps.0.totals

pub steps_link : (history : History) (k : ℕ) (parts : List Facts) → StandsFor parts history k → AreLinked parts
steps_link history k parts stands = link history k parts stands.steps

pub steps_total : (history : History) (k : ℕ) (parts : List Facts) → StandsFor parts history k → (terms_in parts, predicates_in parts) ≡ totals_at history (Some k)
steps_total history k parts stands = total history k parts stands.steps
