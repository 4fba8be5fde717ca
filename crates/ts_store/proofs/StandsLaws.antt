-- A folder that stood for a state stands for what a step leaves of it.
use Rattle.std.proofs.Common.{◌≡◌, Result, Ok, Err, inl, inr, subst}
use Rattle.ts_model.specs.History.{IsWellKept}
use Rattle.ts_script.specs.declared.command.Command.{Command}
use Rattle.ts_site.specs.Folder.{Folder}
use Rattle.ts_store.specs.declared.stop.Kind.{Kind}
use Rattle.ts_store.specs.declared.stop.Stop.{Stop}
use Rattle.ts_store.specs.declared.stop.Stop.TheVariants.{Usage, Damaged, DiskFault, InputFault, OutputFault, InputLimit, Memory}
use Rattle.ts_store.specs.FolderSays.{FolderSays}
use Rattle.ts_store.specs.Leaves.{LeavesState}
use Rattle.ts_store.specs.Stands.{AreCounted, Stands}
use Rattle.ts_store.specs.State.{State}
use Rattle.ts_store.specs.Step.{step_of}
use Rattle.ts_store.proofs.CountedLaws.{counted_after}

module _ (folder : Folder) (before : State) (asked : Command) (kept : IsWellKept before.history) (counted : AreCounted before.history) where
  abbrev next : State
  next = (step_of before asked).state

  still : FolderSays folder before → Stands folder before
  still says = record { says = says; counted = counted }

  moved : FolderSays folder next → Stands folder next
  moved says = record { says = says; counted = counted_after before asked kept counted }

  pub stands_after : (result : Result Kind Stop) → LeavesState (FolderSays folder) result before next → LeavesState (Stands folder) result before next
  stands_after (Ok kind) says = moved says
  stands_after (Err OutputFault) says = moved says
  stands_after (Err DiskFault) (inl says) = inl (still says)
  stands_after (Err DiskFault) (inr says) = inr (moved says)
  stands_after (Err Memory) says = still says
  stands_after (Err Usage) says = still says
  stands_after (Err (Damaged name)) says = still says
  stands_after (Err InputFault) says = still says
  stands_after (Err InputLimit) says = still says

-- cursors and the newest layer stand in no file
pub stands_like : (folder : Folder) (a b : State) → a.history ≡ b.history → a.labels ≡ b.labels → Stands folder a → Stands folder b
stands_like folder a b history labels stands =
    let mixed : State = record { history = a.history; labels = a.labels; cursors = b.cursors; last = b.last } in
    let says : FolderSays folder mixed = record {
      kept = stands.says.kept;
      named = stands.says.named;
      layers = stands.says.layers;
      rollups = stands.says.rollups;
      labels = stands.says.labels;
    } in
    let same : mixed ≡ b = λ i. record { history = history i; labels = labels i; cursors = b.cursors; last = b.last } in
    subst (λ (s : State). Stands folder s) same (record { says = says; counted = stands.counted })
