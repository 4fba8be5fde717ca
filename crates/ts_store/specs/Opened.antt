-- How far a folder is read.
use Rattle.std.specs.Prelude.{◌≡◌, ◌↔◌, ℕ, List, ◌∷◌, Contains, IsTrue, IfSome, MatchOption, Option, None, Some, false}
use Rattle.std.specs.FinMap.{get, contains_key}
use Rattle.ts_labels.specs.LabelFile.{IsLabel, label_text}
use Rattle.ts_labels.specs.declared.label.Label.{Label}
use Rattle.ts_model.specs.History.{History, IsWellKept}
use Rattle.ts_model.specs.Names.{IsLabelName}
use Rattle.ts_model.specs.TextTriple.{TextTriple}
use Rattle.ts_plain.specs.declared.write.PlainLayer.{PlainLayer}
use Rattle.ts_plain.specs.PlainFile.{plain_file}
use Rattle.ts_plain.specs.PlainRules.{IsPlainLayer}
use Rattle.ts_replace.specs.Names.{IsLayerNumber, layer_name, rollup_name, label_file_name}
use Rattle.ts_site.specs.Folder.{Folder}
use Rattle.ts_store.specs.declared.stop.Stop.{Stop}
use Rattle.ts_store.specs.declared.stop.Stop.TheVariants.{Damaged}
use Rattle.ts_store.specs.FolderSays.{IsFileOf, IsFirstDamagedLayer}

-- the layer's file stands under its name
pub record IsReadFrom (folder : Folder) (layer : PlainLayer) : Type 0 where
  pub file : get folder (layer_name layer.number) ≡ Some (plain_file layer.number layer.parent layer.additions.items layer.removals.items)

-- the file stands, and is the plain file of no layer of its number
pub record IsUnreadable (folder : Folder) (k : ℕ) : Type 0 where
  pub file : List ℕ
  pub stands : get folder (layer_name k) ≡ Some file
  pub not_plain : (parent : Option ℕ) (additions removals : List TextTriple) → IsPlainLayer k parent additions removals → file ≡ plain_file k parent additions removals → ⊥

-- exactly the layers whose files stand in the folder
abbrev pub AreLayersOf : Folder → List ℕ → Type 0
AreLayersOf folder numbers = (n : ℕ) → Contains numbers n ↔ (IsLayerNumber n × IsTrue (contains_key folder (layer_name n)))

-- the name is that of the first damaged layer, if the layers of the folder are those of these numbers
pub record IsFirstOf (folder : Folder) (numbers : List ℕ) (name : List ℕ) : Type 0 where
  pub first : AreLayersOf folder numbers → (k : ℕ) × IsFirstDamagedLayer folder k × (name ≡ layer_name k)

-- the first rollup is at fault
abbrev pub IsRollupStop : List ℕ → Stop → Type 0
IsRollupStop (k ∷ rollups) (Damaged name) = name ≡ rollup_name k
IsRollupStop rollups _ = ⊥

-- ---- labels

-- The layers whose files stand are those of a history, there are no rollups, and these are the labels whose files stand.
pub record AreLayersRead (folder : Folder) (history : History) (names : List (List ℕ)) : Type 0 where
  pub kept : IsWellKept history
  pub layers : (k : ℕ) → IsLayerNumber k → MatchOption (get folder (layer_name k)) (get history k ≡ None) (IsFileOf history k)
  pub rollups : (k : ℕ) → IsLayerNumber k → contains_key folder (rollup_name k) ≡ false
  pub labels : (name : List ℕ) → Contains names name ↔ (IsLabelName name × IsTrue (contains_key folder (label_file_name name)))

-- the file stands, and is that of no label which names a layer of the history, or none
pub record IsUnreadableLabel (folder : Folder) (history : History) (name : List ℕ) : Type 0 where
  pub file : List ℕ
  pub stands : get folder (label_file_name name) ≡ Some file
  pub damaged : (label : Label) → IsLabel label → IfSome label.layer (λ k. IsTrue (contains_key history k)) → file ≡ label_text label → ⊥
