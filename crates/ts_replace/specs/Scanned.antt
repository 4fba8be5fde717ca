-- What a scan of a folder finds.
use Rattle.std.specs.Prelude.{◌↔◌, ℕ, List, ◌++◌, IsTrue, Contains}
use Rattle.std.specs.Ordering.{nat_cmp}
use Rattle.std.specs.Cmp.Lexicographic.{slice_cmp}
use Rattle.std.specs.List.Sorted.{IsStrictlyIncreasing, IsStrictlySortedBy}
use Rattle.std.specs.FinMap.{contains_key}
use Rattle.ts_site.specs.Folder.{Folder}
use Rattle.ts_model.specs.Names.{IsLabelName}
use Rattle.ts_replace.specs.Names.{IsLayerNumber, layer_name, rollup_name, label_file_name}

-- numbers that rise, and names that rise by their bytes
pub record Rise (layers rollups : List ℕ) (labels : List (List ℕ)) : Type 0 where
  pub layers_rise : IsStrictlyIncreasing layers
  pub rollups_rise : IsStrictlyIncreasing rollups
  pub labels_rise : IsStrictlySortedBy (slice_cmp nat_cmp) labels

-- exactly the layers, rollups and labels whose files stand in the folder
pub record AreThoseOf (folder : Folder) (layers rollups : List ℕ) (labels : List (List ℕ)) : Type 0 where
  pub each_layer : (n : ℕ) → Contains layers n ↔ (IsLayerNumber n × IsTrue (contains_key folder (layer_name n)))
  pub each_rollup : (n : ℕ) → Contains rollups n ↔ (IsLayerNumber n × IsTrue (contains_key folder (rollup_name n)))
  pub each_label : (name : List ℕ) → Contains labels name ↔ (IsLabelName name × IsTrue (contains_key folder (label_file_name name)))

-- the things with P whose names, made from their text and an ending, stand in a list
abbrev pub AreNamedIn : {A : Type 0} → (A → Type 0) → (A → List ℕ) → List ℕ → List (List ℕ) → List A → Type 0
AreNamedIn {A} P text ending names things = (x : A) → Contains things x ↔ (P x × Contains names (text x ++ ending))
