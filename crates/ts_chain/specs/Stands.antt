-- Which chains stand for a layer of a history.
use Rattle.std.specs.Prelude.{◌≡◌, ℕ, List, [], ◌∷◌, Option, None, Some, IfSome, IsTrue}
use Rattle.std.specs.FinMap.{contains_key}
use Rattle.ts_model.specs.History.{History, IsProperAncestor, IsWellKept}
use Rattle.ts_part.specs.Facts.{Facts, all_predicates, all_terms}
use Rattle.ts_part.specs.Numbers.{totals_at}
use Rattle.ts_part.specs.Step.{StandsForStep}

-- The part stands for a step of the history to the layer: from a proper ancestor of it, or from none. Its totals are the
-- layer's, so no term stands twice among its new ones.
pub record IsStepTo (history : History) (k : ℕ) (part : Facts) : Type 0 where
  pub from : IfSome part.parent (λ a. IsProperAncestor history a k)
  pub step : StandsForStep history part.parent k part
  pub totals : (all_terms part, all_predicates part) ≡ totals_at history (Some k)

-- the steps from none to the layer, the last one first
abbrev pub AreStepsTo : History → Option ℕ → List Facts → Type 0
AreStepsTo history None [] = Unit {0}
AreStepsTo history None (part ∷ parts) = ⊥
AreStepsTo history (Some k) [] = ⊥
AreStepsTo history (Some k) (part ∷ parts) = IsStepTo history k part × AreStepsTo history part.parent parts

pub record StandsFor (parts : List Facts) (history : History) (k : ℕ) : Type 0 where
  pub kept : IsWellKept history
  pub there : IsTrue (contains_key history k)
  pub steps : AreStepsTo history (Some k) parts

-- the same of parts that may be none, and stand for none then
abbrev pub StandsForOption : List Facts → History → Option ℕ → Type 0
StandsForOption parts history None = IsWellKept history × (parts ≡ [])
StandsForOption parts history (Some k) = StandsFor parts history k
