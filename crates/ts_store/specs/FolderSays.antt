-- A folder and the state that its files tell, and the first file that is damaged.
use Rattle.std.specs.Prelude.{◌≡◌, ◌⊎◌, ℕ, ◌<◌, List, IsTrue, false, None, Some, MatchOption, IfSome}
use Rattle.std.specs.declared.cmp.Ordering.TheVariants.{Less}
use Rattle.std.specs.Ordering.{nat_cmp}
use Rattle.std.specs.Cmp.Lexicographic.{slice_cmp}
use Rattle.std.specs.FinMap.{get, insert, contains_key}
use Rattle.ts_labels.specs.LabelFile.{IsLabel, label_text}
use Rattle.ts_labels.specs.Labels.{Labels}
use Rattle.ts_labels.specs.declared.label.Label.{Label}
use Rattle.ts_model.specs.History.{History, LayerRecord, IsLayerKept, IsWellKept}
use Rattle.ts_model.specs.Names.{IsLabelName}
use Rattle.ts_model.specs.Sets.{members}
use Rattle.ts_plain.specs.PlainFile.{plain_file}
use Rattle.ts_replace.specs.Names.{IsLayerNumber, layer_name, rollup_name, label_file_name}
use Rattle.ts_site.specs.Folder.{Folder}
use Rattle.ts_store.specs.Named.{AreLabelsOf}
use Rattle.ts_store.specs.State.{State}

-- the file is that of this layer
abbrev pub IsLayerFile : ℕ → LayerRecord → List ℕ → Type 0
IsLayerFile k layer file = file ≡ plain_file k layer.parent (members layer.additions) (members layer.removals)

-- the file is that of layer k of the history
abbrev pub IsFileOf : History → ℕ → List ℕ → Type 0
IsFileOf history k file = (layer : LayerRecord) × (get history k ≡ Some layer) × IsLayerFile k layer file

-- the file is that of the label which has the name
abbrev pub IsLabelFileOf : Labels → List ℕ → List ℕ → Type 0
IsLabelFileOf labels name file = (label : Label) × (get labels name ≡ Some label) × (file ≡ label_text label)

-- The history is well kept and the labels may stand beside it, each of its layers and each label has its file and no other
-- stands; there are no rollups yet. The newest layer of a run stands in no file.
pub record FolderSays (folder : Folder) (state : State) : Type 0 where
  pub kept : IsWellKept state.history
  pub named : AreLabelsOf state.history state.labels
  pub layers : (k : ℕ) → IsLayerNumber k → MatchOption (get folder (layer_name k)) (get state.history k ≡ None) (IsFileOf state.history k)
  pub rollups : (k : ℕ) → IsLayerNumber k → contains_key folder (rollup_name k) ≡ false
  pub labels : (name : List ℕ) → IsLabelName name → MatchOption (get folder (label_file_name name)) (get state.labels name ≡ None) (IsLabelFileOf state.labels name)

-- ---- damage

-- the history of the layers whose files have numbers below k, all sound
pub record SaysBelow (folder : Folder) (k : ℕ) (history : History) : Type 0 where
  pub kept : IsWellKept history
  pub below : (j : ℕ) (layer : LayerRecord) → get history j ≡ Some layer → j < k
  pub layers : (j : ℕ) → IsLayerNumber j → j < k → MatchOption (get folder (layer_name j)) (get history j ≡ None) (IsFileOf history j)

-- The file of layer k is damaged, and no lesser one is: it is not the file of a layer of this number that keeps to its place over
-- the layers below it.
pub record IsFirstDamagedLayer (folder : Folder) (k : ℕ) : Type 0 where
  pub number : IsLayerNumber k
  pub file : List ℕ
  pub stands : get folder (layer_name k) ≡ Some file
  pub history : History
  pub says : SaysBelow folder k history
  pub damaged : (layer : LayerRecord) → IsLayerKept (insert history k layer) k layer → IsLayerFile k layer file → ⊥

abbrev pub AreSoundLayers : Folder → Type 0
AreSoundLayers folder = (k : ℕ) → IsFirstDamagedLayer folder k → ⊥

abbrev pub HasRollup : Folder → ℕ → Type 0
HasRollup folder k = IsLayerNumber k × IsTrue (contains_key folder (rollup_name k))

-- The file of a label is damaged: it is that of no label, or of one that names a layer which has no file.
pub record IsDamagedLabel (folder : Folder) (name : List ℕ) : Type 0 where
  pub named : IsLabelName name
  pub file : List ℕ
  pub stands : get folder (label_file_name name) ≡ Some file
  pub damaged : (label : Label) → IsLabel label → IfSome label.layer (λ k. IsTrue (contains_key folder (layer_name k))) → file ≡ label_text label → ⊥

-- no layer is damaged, and this is the first rollup: rollups are not made yet
pub record IsFirstRollup (folder : Folder) (k : ℕ) : Type 0 where
  pub sound : AreSoundLayers folder
  pub stands : HasRollup folder k
  pub first : (j : ℕ) → j < k → HasRollup folder j → ⊥

-- no layer is damaged, there is no rollup, and this is the first damaged label
pub record IsFirstDamagedLabel (folder : Folder) (name : List ℕ) : Type 0 where
  pub sound : AreSoundLayers folder
  pub no_rollup : (k : ℕ) → HasRollup folder k → ⊥
  pub damaged : IsDamagedLabel folder name
  pub first : (other : List ℕ) → slice_cmp nat_cmp other name ≡ Less → IsDamagedLabel folder other → ⊥

-- the first file that is at fault: of the layers, then the rollups, then the labels, each rising
abbrev pub IsFirstDamaged : Folder → List ℕ → Type 0
IsFirstDamaged folder name =
    ((k : ℕ) × IsFirstDamagedLayer folder k × (name ≡ layer_name k))
    ⊎ (((k : ℕ) × IsFirstRollup folder k × (name ≡ rollup_name k))
    ⊎ ((label : List ℕ) × IsFirstDamagedLabel folder label × (name ≡ label_file_name label)))
