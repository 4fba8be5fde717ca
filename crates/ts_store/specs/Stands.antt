-- A folder that stands for a state.
use Rattle.std.specs.Prelude.{◌≡◌, ℕ, IsTrue, Some}
use Rattle.std.specs.FinMap.{get}
use Rattle.ts_model.specs.History.{History, LayerRecord}
use Rattle.ts_site.specs.Folder.{Folder}
use Rattle.ts_store.specs.FolderSays.{FolderSays}
use Rattle.ts_store.specs.Makes.{is_counted_at}
use Rattle.ts_store.specs.State.{State}

-- each term and each predicate of a layer has a number below 2^32
abbrev pub AreCounted : History → Type 0
AreCounted history = (k : ℕ) (layer : LayerRecord) → get history k ≡ Some layer → IsTrue (is_counted_at history k)

-- the files tell the state, whose terms are counted
pub record Stands (folder : Folder) (state : State) : Type 0 where
  pub says : FolderSays folder state
  pub counted : AreCounted state.history
