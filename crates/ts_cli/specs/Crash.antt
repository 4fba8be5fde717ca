-- What a crash leaves at any moment of a run.
use Rattle.std.specs.Prelude.{◌≡◌, ◌⊎◌, ℕ, ◌+◌, ◌<◌, ◌≤◌, List, ◌++◌, length, take, Some}
use Rattle.ts_site.specs.Crash.{AddsNone, CrashState, EachImage, settled}
use Rattle.ts_site.specs.Moments.{GoesOn, Moment}
use Rattle.ts_site.specs.Outside.{Outside, moments_of}
use Rattle.ts_script.specs.declared.command.Command.{Command}
use Rattle.ts_store.specs.declared.stop.Stop.{Stop}
use Rattle.ts_store.specs.Stands.{Stands}
use Rattle.ts_store.specs.State.{State}
use Rattle.ts_store.specs.Steps.{after, answer_at, answers}
use Rattle.ts_cli.specs.declared.outcome.Outcome.{Outcome}
use Rattle.ts_cli.specs.Ends.{IsUnsettled, LeavesUnsettled}

-- a crash leaves a folder that stands for the state after so many commands, or after one more
abbrev pub LeavesAfter : State → List Command → ℕ → CrashState → Type 0
LeavesAfter state commands done crash = EachImage (λ image. Stands image (after state commands done) ⊎ Stands image (after state commands (done + 1))) crash

-- By this moment the replies to so many commands were told whole, and of the next reply a front that is not the whole. A crash there
-- leaves a folder that stands for the state after these commands, or after one more.
pub record IsPrefixMoment (state : State) (commands : List Command) (told : List ℕ) (moment : Moment) : Type 0 where
  pub done : ℕ
  pub within : done ≤ length commands
  pub count : ℕ
  pub front : moment.told ≡ told ++ (answers state commands done ++ take count (answer_at state commands done))
  pub proper : (done ≡ length commands) ⊎ (count < length (answer_at state commands done))
  pub leaves : LeavesAfter state commands done moment.crash

-- By this moment nothing was told, and a crash there leaves what one before the run might have left.
pub record IsOpeningMoment (old : Outside) (moment : Moment) : Type 0 where
  pub told : moment.told ≡ old.told
  pub adds : AddsNone moment.crash old.crash

-- The run stopped before the folder was settled: no command was done, and at each moment a crash leaves what one before the run might have
-- left. Now it leaves what it left before; where the barrier failed, maybe just what reads.
pub record StopsUnsettled (words : List (List ℕ)) (outcome : Outcome) (old new : Outside) : Type 0 where
  pub stop : Stop
  pub stops : outcome.stop ≡ Some stop
  pub unsettled : IsUnsettled words stop
  pub none : outcome.done ≡ 0
  pub now : LeavesUnsettled stop old new
  pub moments : GoesOn (IsOpeningMoment old) (moments_of old) (moments_of new)

-- The folder was settled in the middle, when a crash leaves just what reads: the moments until then, and then those of the commands. Now
-- a crash leaves a folder that stands for the state after the commands that were done, or after one more.
pub record LeavesPrefixes (outcome : Outcome) (state : State) (commands : List Command) (old new : Outside) : Type 0 where
  pub middle : Outside
  pub settles : middle.crash ≡ settled old.folder
  pub opening : GoesOn (IsOpeningMoment old) (moments_of old) (moments_of middle)
  pub steps : GoesOn (IsPrefixMoment state commands old.told) (moments_of middle) (moments_of new)
  pub now : LeavesAfter state commands outcome.done new.crash

abbrev pub IsCrashSafe : List (List ℕ) → Outcome → State → List Command → Outside → Outside → Type 0
IsCrashSafe words outcome state commands old new = StopsUnsettled words outcome old new ⊎ LeavesPrefixes outcome state commands old new
