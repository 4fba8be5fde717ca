-- What a crash leaves of a step, of a change of one file that is told, and of the opening.
use Rattle.std.specs.Prelude.{◌≡◌, ◌⊎◌, ◌≤◌, ℕ, List, ◌++◌, take, length, false, OnOk, MatchResult, Result, Ok, Err}
use Rattle.ts_replace.specs.CrashSafe.{LeavesFolder, LeavesEither, ReplacesCrash}
use Rattle.ts_replace.specs.Replaced.{replaced}
use Rattle.ts_site.specs.Crash.{CrashState, EachImage, settled}
use Rattle.ts_site.specs.Folder.{Folder}
use Rattle.ts_site.specs.Moments.{Moment, GoesOn, IsChangedOrNot}
use Rattle.ts_site.specs.Outside.{Outside, AddsNoImage, IsHonest, OnlyReads, moments_of}
use Rattle.ts_store.specs.declared.stop.Kind.{Kind}
use Rattle.ts_store.specs.declared.stop.Stop.{Stop}
use Rattle.ts_store.specs.declared.stop.Stop.TheVariants.{DiskFault}
use Rattle.ts_store.specs.State.{State}
use Rattle.ts_store.specs.Stepped.{Stepped}

-- The folder is that of the state, and a crash leaves that folder, whatever it leaves of the temporary file.
pub record IsSettledAt (Is : Folder → State → Type 0) (state : State) (outside : Outside) : Type 0 where
  pub is : Is outside.folder state
  pub leaves : LeavesFolder outside.folder outside.crash

-- By a moment of a step some front of the reply was told. A crash there leaves a folder of the state before the step or of the one
-- after it, and of the latter once the whole reply was told.
pub record IsStepMoment (Is : Folder → State → Type 0) (before : State) (stepped : Stepped) (told : List ℕ) (moment : Moment) : Type 0 where
  pub count : ℕ
  pub front : moment.told ≡ told ++ take count stepped.told
  pub either : EachImage (λ image. Is image before ⊎ Is image stepped.state) moment.crash
  pub whole : length stepped.told ≤ count → EachImage (λ image. Is image stepped.state) moment.crash

-- Each moment of a step is like that, and after Ok a crash leaves the folder that reads.
pub record IsSafe (Is : Folder → State → Type 0) (before : State) (stepped : Stepped) (result : Result Kind Stop) (old new : Outside) : Type 0 where
  pub moments : GoesOn (IsStepMoment Is before stepped old.told) (moments_of old) (moments_of new)
  pub ok : OnOk result (LeavesFolder new.folder new.crash)

-- By a moment of a change of one file, which a text tells, some front of the text was told. A crash there leaves the old folder or
-- the changed one, and the latter once anything was told.
pub record IsChangeMoment (name bytes text : List ℕ) (old : Outside) (moment : Moment) : Type 0 where
  pub count : ℕ
  pub front : moment.told ≡ old.told ++ take count text
  pub either : LeavesEither name bytes old.folder moment.crash
  pub begun : 1 ≤ count → LeavesFolder (replaced old.folder name bytes) moment.crash

-- Each moment of such a change is like that, and after Ok a crash leaves the changed folder, which reads.
pub record ChangesSafely (result : Result Kind Stop) (name bytes text : List ℕ) (old new : Outside) : Type 0 where
  pub moments : GoesOn (IsChangeMoment name bytes text old) (moments_of old) (moments_of new)
  pub ok : OnOk result (LeavesFolder (replaced old.folder name bytes) new.crash)

-- how the change of one file went that a step made: it failed where the step tells a fault of the disk
abbrev pub change_result : Result Kind Stop → Result (Unit {0}) Stop
change_result (Err DiskFault) = Err DiskFault
change_result _ = Ok tt

-- What a crash leaves is exactly what it left before the step, or what the change of one file makes of that. So nothing was done on
-- the disk after that, nor after a fault of it.
abbrev pub LeavesCrash : Result Kind Stop → CrashState → CrashState → Type 0
LeavesCrash result old new = (new ≡ old) ⊎ ((name bytes : List ℕ) × ReplacesCrash (change_result result) name bytes old new)

-- Where a crash leaves the folder that reads, one at any moment leaves that, or that with a change of one file, whatever it leaves of the
-- temporary file.
abbrev pub ChangesOneFile : Outside → Outside → Type 0
ChangesOneFile old new =
    IsHonest new → LeavesFolder old.folder old.crash
    → (name : List ℕ) × (bytes : List ℕ) × GoesOn (λ moment. LeavesEither name bytes old.folder moment.crash) (moments_of old) (moments_of new)

-- All was settled in the middle: until then a crash leaves what one before might have left, and from then on just what reads.
pub record SettlesAll (old new : Outside) : Type 0 where
  pub middle : Outside
  pub settles : middle.crash ≡ settled old.folder
  pub before : OnlyReads false old middle
  pub since : AddsNoImage middle new

-- Once the folder is read, all was settled. At a fault of the disk that, or the call that settles failed, and settled or not.
abbrev pub StopsSettled : Stop → Outside → Outside → Type 0
StopsSettled DiskFault old new = IsHonest new → IsChangedOrNot (settled old.folder) old.crash new.crash ⊎ SettlesAll old new
StopsSettled _ old new = IsHonest new → SettlesAll old new

abbrev pub LeavesSettled : {T : Type 0} → Result T Stop → Outside → Outside → Type 0
LeavesSettled result old new = MatchResult result (λ _. IsHonest new → SettlesAll old new) (λ stop. StopsSettled stop old new)
