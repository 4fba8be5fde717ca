-- The labels that may stand beside a history.
use Rattle.std.specs.Prelude.{◌≡◌, ℕ, List, IsTrue, Some, IfSome}
use Rattle.std.specs.FinMap.{contains_key, get}
use Rattle.ts_labels.specs.LabelFile.{IsLabel}
use Rattle.ts_labels.specs.Labels.{Labels}
use Rattle.ts_labels.specs.declared.label.Label.{Label}
use Rattle.ts_model.specs.History.{History}
use Rattle.ts_model.specs.Names.{IsLabelName}

-- a label may have the name, the label has a file, and it names a layer that stands, or none
pub record IsLabelOf (history : History) (name : List ℕ) (label : Label) : Type 0 where
  pub named : IsLabelName name
  pub proper : IsLabel label
  pub stands : IfSome label.layer (λ k. IsTrue (contains_key history k))

abbrev pub AreLabelsOf : History → Labels → Type 0
AreLabelsOf history labels = (name : List ℕ) (label : Label) → get labels name ≡ Some label → IsLabelOf history name label
