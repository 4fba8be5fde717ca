-- What a run tells and what its folder stands for, by the plain history.
use Rattle.std.specs.Prelude.{◌≡◌, ◌≤◌, ◌⊎◌, ℕ, ◌+◌, if◌then◌else◌, List, ◌++◌, length, take, MatchOption}
use Rattle.ts_site.specs.Folder.{Folder}
use Rattle.ts_script.specs.declared.command.Command.{Command}
use Rattle.ts_store.specs.declared.stop.Stop.{Stop}
use Rattle.ts_store.specs.declared.stop.Stop.TheVariants.{DiskFault, OutputFault}
use Rattle.ts_store.specs.Stands.{Stands}
use Rattle.ts_store.specs.State.{State}
use Rattle.ts_store.specs.Steps.{after, answers, answer_at, any_refused}
use Rattle.ts_cli.specs.declared.outcome.Outcome.{Outcome}

-- What was told: the replies to the commands that were done, and after a stop a front of the next one. Without a stop all were done, and
-- the status is 0 exactly where none was refused, else 1.
abbrev pub TellsReplies : Outcome → State → List Command → List ℕ → List ℕ → Type 0
TellsReplies outcome state commands old new =
    MatchOption outcome.stop
    ((outcome.done ≡ length commands) × (new ≡ old ++ answers state commands outcome.done) × (outcome.status ≡ (if any_refused state commands then 1 else 0)))
    (λ stop. (outcome.done ≤ length commands) × (n : ℕ) × (new ≡ old ++ (answers state commands outcome.done ++ take n (answer_at state commands outcome.done))))

-- the folder stands for the state after the commands that were done; where the disk or the output failed, maybe after one more
abbrev pub StandsAfterStop : Stop → Folder → State → List Command → ℕ → Type 0
StandsAfterStop DiskFault folder state commands done = Stands folder (after state commands done) ⊎ Stands folder (after state commands (done + 1))
StandsAfterStop OutputFault folder state commands done = Stands folder (after state commands done) ⊎ Stands folder (after state commands (done + 1))
StandsAfterStop stop folder state commands done = Stands folder (after state commands done)

abbrev pub StandsAfter : Outcome → State → List Command → Folder → Type 0
StandsAfter outcome state commands folder =
    MatchOption outcome.stop
    (Stands folder (after state commands outcome.done))
    (λ stop. StandsAfterStop stop folder state commands outcome.done)
