-- The outcome of a run, and what each stop tells.
use Rattle.std.specs.Prelude.{◌≡◌, ℕ, ◌≤◌, Bool, if◌then◌else◌, List, Option, None, Some, MatchOption}
use Rattle.ts_store.specs.declared.stop.Stop.{Stop}
use Rattle.ts_store.specs.declared.stop.Stop.TheVariants.{Usage, Damaged, DiskFault, InputFault, OutputFault, InputLimit, Memory}
use Rattle.ts_cli.specs.declared.outcome.Outcome.{Outcome}
use Rattle.ts_cli.specs.Asked.{AreRun}

abbrev pub stop_status : Stop → ℕ
stop_status Usage = 2
stop_status (Damaged name) = 3
stop_status DiskFault = 4
stop_status InputFault = 5
stop_status OutputFault = 6
stop_status Memory = 7
stop_status InputLimit = 8

-- so many commands were done and one of them was refused or none, and no stop came
abbrev pub ended_outcome : ℕ → Bool → Outcome
ended_outcome done refused = record { status = (if refused then 1 else 0); done = done; stop = None }

-- a stop came behind so many commands
abbrev pub stopped_outcome : ℕ → Stop → Outcome
stopped_outcome done stop = record { status = stop_status stop; done = done; stop = Some stop }

-- The status is 0 or 1 where there is no stop, else the stop's. A single command is counted where there is no stop.
pub record HasStatus (words : List (List ℕ)) (outcome : Outcome) : Type 0 where
  pub status : MatchOption outcome.stop (outcome.status ≤ 1) (λ stop. outcome.status ≡ stop_status stop)
  pub single : (AreRun words → ⊥) → MatchOption outcome.stop (outcome.done ≡ 1) (λ stop. outcome.done ≡ 0)

-- the stops that come before the folder is opened, where the words are a command
abbrev pub IsReadingStop : Stop → Type 0
IsReadingStop Usage = Unit {0}
IsReadingStop InputFault = Unit {0}
IsReadingStop InputLimit = Unit {0}
IsReadingStop (Damaged name) = ⊥
IsReadingStop DiskFault = ⊥
IsReadingStop OutputFault = ⊥
IsReadingStop Memory = ⊥

-- the outcomes that come only after the input was read to its end: a script is read to its end where there is no stop, the body of a
-- command before the folder is opened
abbrev pub IsAfterReading : List (List ℕ) → Option Stop → Type 0
IsAfterReading words None = Unit {0}
IsAfterReading words (Some (Damaged name)) = AreRun words → ⊥
IsAfterReading words (Some DiskFault) = AreRun words → ⊥
IsAfterReading words (Some OutputFault) = AreRun words → ⊥
IsAfterReading words (Some Usage) = ⊥
IsAfterReading words (Some InputFault) = ⊥
IsAfterReading words (Some InputLimit) = ⊥
IsAfterReading words (Some Memory) = ⊥
