-- What a step leaves of the folder, the state and the output, by how it was answered.
use Rattle.std.specs.Prelude.{◌≡◌, ◌⊎◌, ℕ, ◌<◌, List, [], ◌∷◌, ◌++◌, take, length, Some, Result, Ok, Err}
use Rattle.std.specs.FinMap.{get, insert}
use Rattle.ts_labels.specs.LabelFile.{label_text}
use Rattle.ts_labels.specs.declared.label.Label.{Label}
use Rattle.ts_model.specs.History.{LayerRecord}
use Rattle.ts_replace.specs.Names.{label_file_name, layer_name}
use Rattle.ts_replace.specs.Replaced.{new_tmp, replaced}
use Rattle.ts_site.specs.Folder.{Folder, IsAnyAt}
use Rattle.ts_store.specs.declared.stop.Stop.{Stop}
use Rattle.ts_store.specs.declared.stop.Stop.TheVariants.{DiskFault, OutputFault, Memory}
use Rattle.ts_store.specs.declared.stop.Kind.{Kind}
use Rattle.ts_store.specs.FolderSays.{IsFileOf}
use Rattle.ts_store.specs.Makes.{next_number, with_layer}
use Rattle.ts_store.specs.State.{State}

-- the folder has one file more: that of the next layer
pub record AddsLayer (before after : State) (old new : Folder) : Type 0 where
  pub layer : LayerRecord
  pub history : after.history ≡ with_layer before.history layer
  pub labels : after.labels ≡ before.labels
  pub file : List ℕ
  pub is_file : IsFileOf after.history (next_number before.history) file
  pub folder : new ≡ replaced old (layer_name (next_number before.history)) file

-- the folder has a new file of one label, which is made or moved
pub record ChangesLabel (before after : State) (old new : Folder) : Type 0 where
  pub name : List ℕ
  pub label : Label
  pub differs : get before.labels name ≡ Some label → ⊥
  pub history : after.history ≡ before.history
  pub labels : after.labels ≡ insert before.labels name label
  pub folder : new ≡ replaced old (label_file_name name) (label_text label)

-- the files are those of both states
pub record SameFiles (before after : State) (old new : Folder) : Type 0 where
  pub history : after.history ≡ before.history
  pub labels : after.labels ≡ before.labels
  pub folder : new ≡ old

-- The folder follows the state from one to the next: as it was where the history and the labels are, and else with the file of the
-- new layer or of the label.
abbrev pub Follows : State → State → Folder → Folder → Type 0
Follows before after old new = SameFiles before after old new ⊎ (AddsLayer before after old new ⊎ ChangesLabel before after old new)

-- It follows, also where only the reply was not said; at a fault of the disk it follows, or is as it was but for the temporary
-- file; else it is as it was.
abbrev pub LeavesFolder : Result Kind Stop → State → State → Folder → Folder → Type 0
LeavesFolder (Ok kind) before after old new = Follows before after old new
LeavesFolder (Err OutputFault) before after old new = Follows before after old new
LeavesFolder (Err DiskFault) before after old new = IsAnyAt new_tmp old new ⊎ Follows before after old new
LeavesFolder (Err _) before after old new = new ≡ old

-- What is true of the state after the step, also where only its reply was not said; of the one before it; at a fault of the disk
-- of one of the two.
abbrev pub LeavesState : (State → Type 0) → Result Kind Stop → State → State → Type 0
LeavesState Is (Ok kind) before after = Is after
LeavesState Is (Err OutputFault) before after = Is after
LeavesState Is (Err DiskFault) before after = Is before ⊎ Is after
LeavesState Is (Err _) before after = Is before

-- no text, or a text that ends with a line
abbrev pub AreLines : List ℕ → Type 0
AreLines text = (text ≡ []) ⊎ ((front : List ℕ) × (text ≡ front ++ 10 ∷ []))

-- what a step says: its whole reply; a front of it where the output failed; where memory ran out some of its lines, but not all
abbrev pub LeavesTold : Result Kind Stop → List ℕ → List ℕ → List ℕ → Type 0
LeavesTold (Ok kind) text old new = new ≡ old ++ text
LeavesTold (Err OutputFault) text old new = (n : ℕ) × (new ≡ old ++ take n text)
LeavesTold (Err Memory) text old new = (n : ℕ) × (n < length text) × AreLines (take n text) × (new ≡ old ++ take n text)
LeavesTold (Err _) text old new = new ≡ old
