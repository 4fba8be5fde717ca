-- What each stop of a run comes from.
use Rattle.std.specs.Prelude.{◌≡◌, ◌⊎◌, ℕ, ◌^◌, ◌≤◌, Bool, true, false, IsTrue, List, drop, length, Option, None, Some}
use Rattle.ts_site.specs.Faults.{CountsFault}
use Rattle.ts_site.specs.Folder.{Folder}
use Rattle.ts_site.specs.Outside.{IsHonest}
use Rattle.ts_script.specs.Heads.{HaveTerms}
use Rattle.ts_store.specs.declared.stop.Stop.{Stop}
use Rattle.ts_store.specs.declared.stop.Stop.TheVariants.{Usage, Damaged, DiskFault, InputFault, OutputFault, InputLimit, Memory}
use Rattle.ts_store.specs.FolderSays.{IsFirstDamaged}
use Rattle.ts_store.specs.Stops.{is_disk_fault, is_output_fault}
use Rattle.ts_cli.specs.Asked.{AreNoWords, AreRun, Asking, ReadInput}
use Rattle.ts_cli.specs.Change.{Change}
use Rattle.ts_cli.specs.Outcomes.{IsAfterReading}

-- usage exactly where the words are no command and not `run`, but for want of memory for the terms that they name behind a REF
abbrev pub UsageCause : List (List ℕ) → Option Stop → Type 0
UsageCause words stop = (stop ≡ Some Usage → AreNoWords words) × (AreNoWords words → (stop ≡ Some Usage) ⊎ ((stop ≡ Some Memory) × HaveTerms words))

-- whether there is a stop that passes the test
abbrev pub is_stop_and : (Stop → Bool) → Option Stop → Bool
is_stop_and test None = false
is_stop_and test (Some stop) = test stop

abbrev pub is_input_fault : Stop → Bool
is_input_fault InputFault = true
is_input_fault _ = false

-- a run that came to no answer of its folder: one of a script opened it before it read anything
abbrev pub IsBeforeOpening : List (List ℕ) → Option Stop → Type 0
IsBeforeOpening words (Some DiskFault) = Unit {0}
IsBeforeOpening words (Some Memory) = Unit {0}
IsBeforeOpening words (Some Usage) = AreRun words → ⊥
IsBeforeOpening words (Some InputFault) = AreRun words → ⊥
IsBeforeOpening words (Some InputLimit) = AreRun words → ⊥
IsBeforeOpening words (Some (Damaged name)) = ⊥
IsBeforeOpening words (Some OutputFault) = ⊥
IsBeforeOpening words None = ⊥

-- a damaged file is named exactly where it is the first one, unless another stop came before the folder was open
abbrev pub DamagedCause : List (List ℕ) → Folder → Option Stop → Type 0
DamagedCause words folder stop =
    (name : List ℕ) → (stop ≡ Some (Damaged name) → IsFirstDamaged folder name) × (IsFirstDamaged folder name → (stop ≡ Some (Damaged name)) ⊎ IsBeforeOpening words stop)

-- 2^40 bytes were taken
abbrev pub IsOverLimit : List ℕ → List ℕ → Type 0
IsOverLimit left left_after = (2 ^ 40 ≤ length left) × (left_after ≡ drop (2 ^ 40) left)

-- The limit stops only an input that is read. Where the input is told it is over the limit then, and one that is over the limit is not
-- read to its end.
abbrev pub LimitCause : Asking → List ℕ → Option Stop → Type 0
LimitCause a left_after stop =
    (stop ≡ Some InputLimit → ReadInput a.words × (IsTrue a.tells → IsOverLimit a.left left_after))
    × (ReadInput a.words → IsTrue a.tells → 2 ^ 40 ≤ length a.left → IsAfterReading a.words stop → ⊥)

-- The cause of each stop but want of memory. What is asked is known with what is left of the input after, and the outside and the
-- faults of the source before and after.
pub record HasCause (s : Change) (a : Asking) (left_after : List ℕ) (faults faults_after : ℕ) (stop : Option Stop) : Type 0 where
  pub usage : UsageCause a.words stop
  pub disk : CountsFault (is_stop_and is_disk_fault stop) s.before.disk_faults s.after.disk_faults
  pub output : CountsFault (is_stop_and is_output_fault stop) s.before.say_faults s.after.say_faults
  pub input : CountsFault (is_stop_and is_input_fault stop) faults faults_after
  pub damaged : IsHonest s.after → DamagedCause a.words s.before.folder stop
  pub limit : LimitCause a left_after stop
