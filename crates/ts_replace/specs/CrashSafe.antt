-- What a crash leaves of a folder in which one file is changed whole.
use Rattle.std.specs.Prelude.{◌≡◌, ◌≢◌, ◌⊎◌, ℕ, List, Option, Some, OnOk, Result, MatchResult}
use Rattle.std.specs.FinMap.{get}
use Rattle.ts_site.specs.Crash.{CrashState, EachImage, written, synced, renamed, names_settled}
use Rattle.ts_site.specs.Folder.{Folder}
use Rattle.ts_site.specs.Moments.{GoesOn, IsChangedOrNot}
use Rattle.ts_site.specs.Outside.{Outside, moments_of}
use Rattle.ts_replace.specs.Replaced.{new_tmp, replaced}

-- the temporary file holds the bytes, settled
abbrev pub staged : List ℕ → CrashState → CrashState
staged bytes state = synced new_tmp (written new_tmp (Some bytes) state)

-- the temporary file was moved to the name, for certain
abbrev pub placed : List ℕ → CrashState → CrashState
placed name state = names_settled (renamed new_tmp name state)

-- nothing was done, or the temporary file was written and not settled
abbrev pub IsUnstaged : CrashState → CrashState → Type 0
IsUnstaged old new = (new ≡ old) ⊎ ((content : Option (List ℕ)) × (new ≡ written new_tmp content old))

-- What a crash leaves after `stage`, `place` and `replace`. A last call that settles may have settled and fail all the same.
abbrev pub StagesCrash : {E : Type 0} → Result (Unit {0}) E → List ℕ → CrashState → CrashState → Type 0
StagesCrash result bytes old new = MatchResult result (λ _. new ≡ staged bytes old) (λ _. IsUnstaged old new ⊎ (new ≡ staged bytes old))

abbrev pub PlacesCrash : {E : Type 0} → Result (Unit {0}) E → List ℕ → CrashState → CrashState → Type 0
PlacesCrash result name old new = MatchResult result (λ _. new ≡ placed name old) (λ _. IsChangedOrNot (renamed new_tmp name old) old new ⊎ (new ≡ placed name old))

abbrev pub ReplacesCrash : {E : Type 0} → Result (Unit {0}) E → List ℕ → List ℕ → CrashState → CrashState → Type 0
ReplacesCrash result name bytes old new =
    MatchResult result
    (λ _. new ≡ placed name (staged bytes old))
    (λ _. IsUnstaged old new ⊎ IsChangedOrNot (renamed new_tmp name (staged bytes old)) (staged bytes old) new ⊎ (new ≡ placed name (staged bytes old)))

-- the folders are the same but for the temporary file
abbrev pub AgreesBut : List ℕ → Folder → Folder → Type 0
AgreesBut name one other = (file : List ℕ) → file ≢ name → get other file ≡ get one file

-- a crash leaves this folder, whatever it leaves of the temporary file
abbrev pub LeavesFolder : Folder → CrashState → Type 0
LeavesFolder folder state = EachImage (AgreesBut new_tmp folder) state

-- a crash leaves these bytes in the temporary file
abbrev pub LeavesStaged : List ℕ → CrashState → Type 0
LeavesStaged bytes state = EachImage (λ image. get image new_tmp ≡ Some bytes) state

-- a crash leaves the old folder, or the old folder with the new bytes under the name
abbrev pub LeavesEither : List ℕ → List ℕ → Folder → CrashState → Type 0
LeavesEither name bytes old state = EachImage (λ image. AgreesBut new_tmp old image ⊎ AgreesBut new_tmp (replaced old name bytes) image) state

-- At each moment of the call a crash leaves the old folder. After Ok it leaves the bytes in the temporary file.
pub record StagesSafely {E : Type 0} (result : Result (Unit {0}) E) (bytes : List ℕ) (old new : Outside) : Type 0 where
  pub at_each : GoesOn (λ moment. LeavesFolder old.folder moment.crash × (moment.told ≡ old.told)) (moments_of old) (moments_of new)
  pub after : LeavesFolder old.folder new.crash
  pub ok : OnOk result (LeavesStaged bytes new.crash)

-- At each moment of the call a crash leaves the old folder or the new one. After Ok it leaves the new one.
pub record ReplacesSafely {E : Type 0} (result : Result (Unit {0}) E) (name bytes : List ℕ) (old new : Outside) : Type 0 where
  pub at_each : GoesOn (λ moment. LeavesEither name bytes old.folder moment.crash × (moment.told ≡ old.told)) (moments_of old) (moments_of new)
  pub after : LeavesEither name bytes old.folder new.crash
  pub ok : OnOk result (LeavesFolder (replaced old.folder name bytes) new.crash)
