-- What a command does: how it is answered, what is said, and what it leaves of the state and the folder.
use Rattle.std.specs.Prelude.{◌≡◌, Bool, List, ℕ, IsTrue, IfOk, IfErr, Result}
use Rattle.ts_site.specs.Faults.{CountsFault, is_err_and}
use Rattle.ts_site.specs.Outside.{Outside, Falls, IsHonest, OnlySays}
use Rattle.ts_store.specs.declared.stop.Stop.{Stop}
use Rattle.ts_store.specs.declared.stop.Stop.TheVariants.{OutputFault, Memory}
use Rattle.ts_store.specs.declared.stop.Kind.{Kind}
use Rattle.ts_store.specs.FolderSays.{FolderSays}
use Rattle.ts_store.specs.Leaves.{LeavesFolder, LeavesState, LeavesTold}
use Rattle.ts_store.specs.Safe.{ChangesOneFile, IsSafe, IsSettledAt, LeavesCrash}
use Rattle.ts_store.specs.State.{State}
use Rattle.ts_store.specs.Stepped.{Stepped}
use Rattle.ts_store.specs.Stops.{IsStepStop, is_disk_fault, is_output_fault, is_site_fault, kind_of}

-- the stops of a command that leaves the disk alone
abbrev pub IsQueryStop : Stop → Type 0
IsQueryStop OutputFault = Unit {0}
IsQueryStop Memory = Unit {0}
IsQueryStop _ = ⊥

-- a text is the whole reply, and nothing else is done
pub record Answers (text : List ℕ) (refused : Bool) (result : Result Kind Stop) (old new : Outside) : Type 0 where
  pub kind : IfOk result (λ kind. kind ≡ kind_of refused)
  pub told : LeavesTold result text old.told new.told
  pub says : OnlySays (is_err_and is_output_fault result) old new

-- The step is done, from the state before it: its answer and the state after, its reply, and the folder. A folder that told the
-- state before tells the one after. A step that is refused only says so. Where a crash leaves the folder before the step, it leaves at
-- each moment the folder before or after it, and after it once the reply was told. No call follows a fault.
pub record Does (before : State) (stepped : Stepped) (result : Result Kind Stop) (after : State) (old new : Outside) : Type 0 where
  pub state : IfOk result (λ kind. (after ≡ stepped.state) × (kind ≡ kind_of stepped.refused))
  pub told : LeavesTold result stepped.told old.told new.told
  pub folder : IsHonest new → LeavesFolder result before stepped.state old.folder new.folder
  pub tells_state : IsHonest new → FolderSays old.folder before → LeavesState (FolderSays new.folder) result before stepped.state
  pub refused : IsTrue stepped.refused → OnlySays (is_err_and is_output_fault result) old new
  pub why : IfErr result IsStepStop
  pub disk : CountsFault (is_err_and is_disk_fault result) old.disk_faults new.disk_faults
  pub say : CountsFault (is_err_and is_output_fault result) old.say_faults new.say_faults
  pub last : IsTrue (is_err_and is_site_fault result) → IsTrue new.failed_last
  pub telling : Falls old new
  pub crash : IsHonest new → LeavesCrash result old.crash new.crash
  pub one_file : ChangesOneFile old new
  pub safe : IsHonest new → IsSettledAt FolderSays before old → IsSafe FolderSays before stepped result old new
