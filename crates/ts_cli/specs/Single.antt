-- What the one step of a run leaves, with the opening of the folder before it.
use Rattle.std.specs.Prelude.{◌⊎◌, Result, Ok, Err}
use Rattle.ts_site.specs.Outside.{Outside}
use Rattle.ts_script.specs.declared.command.Command.{Command}
use Rattle.ts_store.specs.declared.stop.Kind.{Kind}
use Rattle.ts_store.specs.declared.stop.Stop.{Stop}
use Rattle.ts_store.specs.FolderSays.{FolderSays}
use Rattle.ts_store.specs.Safe.{StopsSettled}
use Rattle.ts_store.specs.State.{IsFresh, State}
use Rattle.ts_store.specs.Stops.{IsOpeningStop, IsStepStop}
use Rattle.ts_cli.specs.Change.{Change, LeavesAll, change_of}
use Rattle.ts_cli.specs.Ends.{Opens, StepsFrom}

-- the folder was opened and tells a state, in which this run has opened no cursor and made no layer yet, and the step from it was answered so
pub record IsStepped (s : Change) (asked : Command) (answer : Result Kind Stop) (state : State) : Type 0 where
  pub fresh : IsFresh state
  pub says : FolderSays s.before.folder state
  pub opened : Outside
  pub opens : Opens s.before opened
  pub steps : StepsFrom (change_of opened s.after) state asked answer

-- the folder wasn't opened, for this stop
abbrev pub IsNotOpened : Change → Stop → Type 0
IsNotOpened s stop = IsOpeningStop stop × LeavesAll s × StopsSettled stop s.before s.after

-- the step was answered; or it came to a stop; or the folder wasn't opened
abbrev pub ComesToStep : Change → Command → Result Kind Stop → Type 0
ComesToStep s asked (Ok kind) = (state : State) × IsStepped s asked (Ok kind) state
ComesToStep s asked (Err stop) = IsNotOpened s stop ⊎ (IsStepStop stop × ((state : State) × IsStepped s asked (Err stop) state))
