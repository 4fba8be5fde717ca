-- What a run leaves of the folder and the output, where the outside is honest still.
use Rattle.std.specs.Prelude.{◌≡◌, ◌⊎◌, ℕ, if◌then◌else◌, List, [], ◌∷◌, ◌++◌, length, IsTrue, Option, None, Some, MatchOption, Result, Ok, Err, IfOk}
use Rattle.ts_site.specs.Crash.{settled}
use Rattle.ts_site.specs.Moments.{IsChangedOrNot}
use Rattle.ts_site.specs.Outside.{Falls, Outside}
use Rattle.ts_script.specs.Lines.{whole_lines}
use Rattle.ts_script.specs.Script.{AreWholeCommands}
use Rattle.ts_script.specs.declared.command.Command.{Command}
use Rattle.ts_store.specs.declared.stop.Kind.{Kind}
use Rattle.ts_store.specs.declared.stop.Stop.{Stop}
use Rattle.ts_store.specs.declared.stop.Stop.TheVariants.{Usage, Damaged, DiskFault, InputFault, OutputFault, InputLimit, Memory}
use Rattle.ts_store.specs.FolderSays.{FolderSays}
use Rattle.ts_store.specs.Leaves.{LeavesFolder, LeavesState, LeavesTold}
use Rattle.ts_store.specs.Safe.{IsSafe, IsSettledAt, LeavesCrash, SettlesAll}
use Rattle.ts_store.specs.Stands.{Stands}
use Rattle.ts_store.specs.State.{IsFresh, State}
use Rattle.ts_store.specs.Step.{step_of}
use Rattle.ts_store.specs.Steps.{after, any_refused}
use Rattle.ts_store.specs.Stops.{IsStepStop, kind_of}
use Rattle.ts_cli.specs.declared.outcome.Outcome.{Outcome}
use Rattle.ts_cli.specs.Asked.{AreCommands, AreGiven, AreRun, Asking}
use Rattle.ts_cli.specs.Change.{Change, LeavesAll, change_of}
use Rattle.ts_cli.specs.Outcomes.{stop_status, stopped_outcome}

-- The folder tells the state, and the step of the command from it was answered so: the answer is that of the step, its reply was
-- said whole, and the folder follows the state and tells, or stands for, the one after it. What a stop leaves of the reply, the
-- folder and the state is said by the same tables. A crash leaves what it left before, or what the change of one file makes of that. Where a crash leaves a
-- folder that stands for the state, each moment of the step is safe.
pub record StepsFrom (s : Change) (state : State) (asked : Command) (answer : Result Kind Stop) : Type 0 where
  pub says : FolderSays s.before.folder state
  pub kind : IfOk answer (λ kind. kind ≡ kind_of (step_of state asked).refused)
  pub told : LeavesTold answer (step_of state asked).told s.before.told s.after.told
  pub folder : LeavesFolder answer state (step_of state asked).state s.before.folder s.after.folder
  pub says_after : LeavesState (FolderSays s.after.folder) answer state (step_of state asked).state
  pub stands_after : Stands s.before.folder state → LeavesState (Stands s.after.folder) answer state (step_of state asked).state
  pub telling : Falls s.before s.after
  pub crash : LeavesCrash answer s.before.crash s.after.crash
  pub safe : IsSettledAt Stands state s.before → IsSafe Stands state (step_of state asked) answer s.before s.after

-- The commands were done one after another, each from the state that those before it left, and nothing was done before, between and behind
-- them.
abbrev pub AreDone : Change → State → List Command → Type 0
AreDone s state [] = s.after ≡ s.before
AreDone s state (asked ∷ commands) =
    (middle : Outside) × (kind : Kind) × StepsFrom (change_of s.before middle) state asked (Ok kind)
    × AreDone (change_of middle s.after) (step_of state asked).state commands

-- the stops between two commands of a script
abbrev pub IsBetween : Stop → Type 0
IsBetween InputFault = Unit {0}
IsBetween InputLimit = Unit {0}
IsBetween Memory = Unit {0}
IsBetween Usage = ⊥
IsBetween (Damaged name) = ⊥
IsBetween DiskFault = ⊥
IsBetween OutputFault = ⊥

-- So many bytes of the input were taken, and the commands are those that stand whole in the lines that end in these bytes.
abbrev pub AreAllWhole : List ℕ → List ℕ → List Command → Type 0
AreAllWhole left left_after done = (taken : List ℕ) × (left ≡ taken ++ left_after) × AreWholeCommands 0 (whole_lines taken) done

-- How the run ended behind the commands that were done: they are all that were asked for; or a script was read no further, and where the
-- input stopped that, each command that was taken whole was done; or the step of one more command came to a stop.
abbrev pub EndsAfter : Change → Asking → List ℕ → State → List Command → Option Stop → Type 0
EndsAfter s a left_after state done None = AreGiven a done × (IsTrue a.tells → AreCommands a.words a.left done) × (s.after ≡ s.before)
EndsAfter s a left_after state done (Some stop) =
    (AreRun a.words × IsBetween stop × AreGiven a done × ((stop ≡ Memory → ⊥) → IsTrue a.tells → AreAllWhole a.left left_after done) × (s.after ≡ s.before))
    ⊎ ((asked : Command) × AreGiven a (done ++ asked ∷ []) × IsStepStop stop × StepsFrom s (after state done (length done)) asked (Err stop))

-- The folder was opened: all is as it was, and from a moment on a crash leaves just what reads.
pub record Opens (before opened : Outside) : Type 0 where
  pub all : LeavesAll (change_of before opened)
  pub settles : SettlesAll before opened

-- The open folder tells the state, in which this run has opened no cursor and made no layer yet. These commands were done, and the run ended
-- behind them.
pub record ComesTo (s : Change) (a : Asking) (left_after : List ℕ) (outcome : Outcome) (state : State) (done : List Command) : Type 0 where
  pub fresh : IsFresh state
  pub says : FolderSays s.before.folder state
  pub count : outcome.done ≡ length done
  pub status : MatchOption outcome.stop (outcome.status ≡ (if any_refused state done then 1 else 0)) (λ stop. outcome.status ≡ stop_status stop)
  pub middle : Outside
  pub steps : AreDone (change_of s.before middle) state done
  pub ends : EndsAfter (change_of middle s.after) a left_after state done outcome.stop

-- the folder tells the state; the run opened it, and then came to these commands
pub record OpensAndComes (s : Change) (a : Asking) (left_after : List ℕ) (outcome : Outcome) (state : State) (done : List Command) : Type 0 where
  pub says : FolderSays s.before.folder state
  pub opened : Outside
  pub opens : Opens s.before opened
  pub comes : ComesTo (change_of opened s.after) a left_after outcome state done

-- The stops before the first command is done: a script is read only once the folder is open.
abbrev pub IsEarly : List (List ℕ) → Stop → Type 0
IsEarly words Usage = AreRun words → ⊥
IsEarly words InputFault = AreRun words → ⊥
IsEarly words InputLimit = AreRun words → ⊥
IsEarly words (Damaged name) = Unit {0}
IsEarly words DiskFault = Unit {0}
IsEarly words Memory = Unit {0}
IsEarly words OutputFault = ⊥

-- Those of them that may come before the folder is settled: a command is read then, and the barrier may fail.
abbrev pub IsUnsettled : List (List ℕ) → Stop → Type 0
IsUnsettled words Usage = AreRun words → ⊥
IsUnsettled words InputFault = AreRun words → ⊥
IsUnsettled words InputLimit = AreRun words → ⊥
IsUnsettled words Memory = AreRun words → ⊥
IsUnsettled words DiskFault = Unit {0}
IsUnsettled words (Damaged name) = ⊥
IsUnsettled words OutputFault = ⊥

-- What a crash leaves then: what it left before; where the barrier failed, maybe just what reads.
abbrev pub LeavesUnsettled : Stop → Outside → Outside → Type 0
LeavesUnsettled DiskFault before after = IsChangedOrNot (settled before.folder) before.crash after.crash
LeavesUnsettled _ before after = after.crash ≡ before.crash

-- the run stopped so, left all as it was, and settled the folder before or not
pub record StopsEarly (s : Change) (words : List (List ℕ)) (outcome : Outcome) : Type 0 where
  pub stop : Stop
  pub outcome_is : outcome ≡ stopped_outcome 0 stop
  pub early : IsEarly words stop
  pub all : LeavesAll s
  pub settles : (IsUnsettled words stop × LeavesUnsettled stop s.before s.after) ⊎ SettlesAll s.before s.after

-- The run left all as it was, or came to the commands that are asked for. What is asked is known with what is left of the input after.
abbrev pub Ends : Change → Asking → List ℕ → Outcome → Type 0
Ends s a left_after outcome = StopsEarly s a.words outcome ⊎ ((state : State) × (done : List Command) × OpensAndComes s a left_after outcome state done)
