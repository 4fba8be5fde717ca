-- What a site tells of the outside, and what a call leaves of it.
use Rattle.std.specs.Prelude.{◌≡◌, Bool, ℕ, List, ◌∷◌, IsTrue, Result}
use Rattle.ts_site.specs.Crash.{CrashState, AddsNone}
use Rattle.ts_site.specs.Faults.{CountsFault}
use Rattle.ts_site.specs.Folder.{Folder, Extends}
use Rattle.ts_site.specs.Moments.{Moment, GoesOn, Changes, IsChangedOrNot}

-- The bytes said so far, the counts of faults, and whether the last call failed, which always hold. Where the site is honest, also the
-- folder as it reads, what a crash leaves at this moment, and what it left at each moment before, the latest first.
pub record Outside : Type 0 where
  pub is_honest : Bool
  pub folder : Folder
  pub disk_faults : ℕ
  pub told : List ℕ
  pub say_faults : ℕ
  pub failed_last : Bool
  pub crash : CrashState
  pub past : List Moment

-- the site is honest still: what it tells of its folder and of crashes has held in each call so far
abbrev pub IsHonest : Outside → Type 0
IsHonest outside = IsTrue outside.is_honest

-- what is told after a call was told before it
abbrev pub Falls : Outside → Outside → Type 0
Falls old new = IsHonest new → IsHonest old

-- all moments so far, this one first
abbrev pub moments_of : Outside → List Moment
moments_of outside = record { crash = outside.crash; told = outside.told } ∷ outside.past

-- the disk is as it was, and its faults
pub record IsSameDisk (old new : Outside) : Type 0 where
  pub same_folder : new.folder ≡ old.folder
  pub same_faults : new.disk_faults ≡ old.disk_faults

-- the output is as it was
pub record IsSameOutput (old new : Outside) : Type 0 where
  pub same_told : new.told ≡ old.told
  pub same_faults : new.say_faults ≡ old.say_faults

-- nothing is said at any moment
pub record StaysSilent (old new : Outside) : Type 0 where
  pub telling : Falls old new
  pub moments : GoesOn (λ moment. moment.told ≡ old.told) (moments_of old) (moments_of new)

-- nothing is said, and a crash at any moment leaves only what one before might have left
pub record AddsNoImage (old new : Outside) : Type 0 where
  pub telling : Falls old new
  pub now : IsHonest new → AddsNone new.crash old.crash
  pub silent : GoesOn (λ moment. moment.told ≡ old.told) (moments_of old) (moments_of new)
  pub moments : IsHonest new
      → GoesOn (λ moment. AddsNone moment.crash old.crash × (moment.told ≡ old.told)) (moments_of old) (moments_of new)

-- a crash at any moment leaves what one before does, and what was said grows
pub record SaysOn (old new : Outside) : Type 0 where
  pub telling : Falls old new
  pub now : IsHonest new → new.crash ≡ old.crash
  pub grows : Extends old.told new.told
  pub said : GoesOn (λ moment. Extends old.told moment.told × Extends moment.told new.told) (moments_of old) (moments_of new)
  pub moments : IsHonest new
      → GoesOn (λ moment. (moment.crash ≡ old.crash) × Extends old.told moment.told × Extends moment.told new.told) (moments_of old) (moments_of new)

-- a crash leaves what it did
abbrev pub KeepsCrash : Outside → Outside → Type 0
KeepsCrash old new = IsHonest new → new.crash ≡ old.crash

-- after a call that settles: after a failure it did or not
abbrev pub SettlesCrash : {E : Type 0} → Result (Unit {0}) E → CrashState → Outside → Outside → Type 0
SettlesCrash result settled old new = IsHonest new → Changes result settled old.crash new.crash

-- After a call that changes files or names. At each moment of it the change came about or not, and nothing is said.
pub record ChangesCrash {E : Type 0} (result : Result (Unit {0}) E) (changed : CrashState) (old new : Outside) : Type 0 where
  pub now : IsHonest new → Changes result changed old.crash new.crash
  pub moments : IsHonest new
      → GoesOn (λ moment. IsChangedOrNot changed old.crash moment.crash × (moment.told ≡ old.told)) (moments_of old) (moments_of new)

-- Calls that work on the disk alone: a fault is counted and no call came after it, and the output is as it was. What they do to the
-- folder is said beside it.
pub record OnlyDisk (is_fault : Bool) (old new : Outside) : Type 0 where
  pub telling : Falls old new
  pub counts : CountsFault is_fault old.disk_faults new.disk_faults
  pub last : IsTrue is_fault → IsTrue new.failed_last
  pub output : IsSameOutput old new
  pub images : StaysSilent old new

-- calls that only read: also the folder is as it was, where it is told
pub record OnlyReads (is_fault : Bool) (old new : Outside) : Type 0 where
  pub telling : Falls old new
  pub folder : IsHonest new → new.folder ≡ old.folder
  pub counts : CountsFault is_fault old.disk_faults new.disk_faults
  pub last : IsTrue is_fault → IsTrue new.failed_last
  pub output : IsSameOutput old new
  pub images : AddsNoImage old new

-- Calls that only say: a fault is counted and no call came after it, and the disk is as it was. What they say is told beside it.
pub record OnlySays (is_fault : Bool) (old new : Outside) : Type 0 where
  pub telling : Falls old new
  pub counts : CountsFault is_fault old.say_faults new.say_faults
  pub last : IsTrue is_fault → IsTrue new.failed_last
  pub disk : IsSameDisk old new
  pub images : SaysOn old new
