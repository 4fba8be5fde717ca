-- The names of the store's files.
use Rattle.std.specs.Prelude.{ℕ, ◌^◌, ◌<◌, ◌≤◌, List, ◌++◌, codes}
use Rattle.ts_model.specs.LayerText.{layer_text}

-- a number that a layer may have
abbrev pub IsLayerNumber : ℕ → Type 0
IsLayerNumber n = (1 ≤ n) × (n < 2 ^ 32)

-- the name of a layer's file, of a rollup's and of a label's
abbrev pub layer_name : ℕ → List ℕ
layer_name n = layer_text n ++ codes ".layer"

abbrev pub rollup_name : ℕ → List ℕ
rollup_name n = layer_text n ++ codes ".rollup"

abbrev pub label_file_name : List ℕ → List ℕ
label_file_name name = name ++ codes ".label"
