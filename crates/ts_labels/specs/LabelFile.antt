-- The file of a label.
use Rattle.std.specs.Prelude.{ℕ, ◌<◌, ◌≤◌, ◌^◌, List, [], ◌∷◌, ◌++◌, codes, decimal, Option, None, Some, IfSome}
use Rattle.ts_model.specs.LayerText.{layer_text}
use Rattle.ts_model.specs.Limits.{number_limit}
use Rattle.ts_labels.specs.declared.label.Label.{Label}

-- a layer that a label may name, or none
abbrev pub IsLabelLayer : Option ℕ → Type 0
IsLabelLayer layer = IfSome layer (λ number. (1 ≤ number) × (number < number_limit))

abbrev pub IsLabel : Label → Type 0
IsLabel label = (label.version < 2 ^ 64) × IsLabelLayer label.layer

-- the number of a layer, or `none`
abbrev pub layer_or_none : Option ℕ → List ℕ
layer_or_none None = codes "none"
layer_or_none (Some number) = layer_text number

-- the version in decimal and the word of the layer, each a line that ends with a line feed
abbrev pub label_text : Label → List ℕ
label_text label = decimal label.version ++ 10 ∷ (layer_or_none label.layer ++ 10 ∷ [])
