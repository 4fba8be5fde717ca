-- What a call of a site in memory leaves, also where it fails by plan.
use Rattle.std.proofs.Common.{◌≡◌, ◌⊎◌, ◌≤◌, ◌+◌, ◌-◌, ◌/◌, ◌^◌, min, Bool, true, false, ℕ, List, [], ◌∷◌, ◌++◌, length, take, take_all, IsTrue, Option, None, Some, Result, Ok, Err, MatchResult, refl, sym, ap, subst, ◌∙◌, inl, inr, arith, append-nil}
use Rattle.std.specs.Prelude.{is_err, IsOkAnd, IfOk, IfErr, MatchBool, MatchOption}
use Rattle.std.specs.FinMap.{get, insert}
use Rattle.std.proofs.lemmas.List.Elements.{All-cons, All-nil}
use Rattle.ts_site.specs.declared.disk.Failed.{Failed}
use Rattle.ts_site.specs.declared.disk.ListFail.{ListFail}
use Rattle.ts_site.specs.declared.disk.ListFail.TheVariants as list_fail
use Rattle.ts_site.specs.declared.plan.FaultKind.{FaultKind}
use Rattle.ts_site.specs.declared.plan.FaultKind.TheVariants.{Nothing, Happened, Half}
use Rattle.ts_site.specs.Crash.{CrashState, AddsNone, written}
use Rattle.ts_site.specs.Folder.{Folder, IsAnyAt, IsEither, Writes, Renames, Extends, appended, appended_file}
use Rattle.ts_site.specs.Faults.{CountsFault, is_err_and, is_list_fault}
use Rattle.ts_site.specs.Left.{first_half}
use Rattle.ts_site.specs.Moments.{Moment, GoesOn, IsChangedOrNot, Changes}
use Rattle.ts_site.specs.Outside.{moments_of, IsSameOutput, OnlyDisk, OnlyReads, KeepsCrash, ChangesCrash, SettlesCrash, SaysOn, OnlySays}
use Rattle.ts_site.specs.Recorder.{MemoryState, has_room, one_more, present, changed, said, used, refused, disk_fault, say_fault, after_append, MakesDiskCall, MakesSayCall, spoiled, spoiled_say}
use Rattle.ts_site.specs.MemorySite.{DoesDiskCall, DoesSayCall, FailsByPlan, left_by, seen, state_after_reading, after_create, after_settling}
use Rattle.ts_site.specs.Output.{Says}
use Rattle.ts_site.proofs.CrashLemmas.{adds_none, adds_none_same}
use Rattle.ts_site.proofs.FolderLemmas.{get-insert_same}
use Rattle.ts_site.proofs.ListingLemmas.{remove_absent}
use Rattle.ts_site.proofs.MemoryLemmas.{insert_found}

-- what holds of a call with room and of one without holds of the call
module _ {P Q R : Type 0} (with_room : P → R) (without_room : Q → R) where
  either : (b : Bool) → MatchBool b P Q → R
  either true h = with_room h
  either false h = without_room h

fault : {T : Type 0} (r : Result T Failed) (old new : ℕ) → r ≡ Err (record {}) → new ≡ min (old + 1) (2 ^ 64 - 1) → old ≤ 2 ^ 64 - 1 → CountsFault (is_err r) old new
fault r old new failed is fits = rw failed (omega arith, omega arith)

no_fault : {T : Type 0} (r : Result T Failed) (x : T) (old new : ℕ) → r ≡ Ok x → new ≡ old → CountsFault (is_err r) old new
no_fault r x old new ok is = rw ok is

matched_ok : {E : Type 0} (r : Result (Unit {0}) E) (P Q : Type 0) → r ≡ Ok tt → P → MatchResult r (λ _. P) (λ _. Q)
matched_ok r P Q ok p = rw ok p

failed_so : {E : Type 0} (r : Result (Unit {0}) E) (x : E) (P Q : Type 0) → r ≡ Err x → Q → MatchResult r (λ _. P) (λ _. Q)
failed_so r x P Q err q = rw err q

-- the same of the folder, the output and what a crash leaves, whatever room there is and however many faults of the disk
pub record SameView (one other : MemoryState) : Type 0 where
  pub folder : other.folder ≡ one.folder
  pub told : other.told ≡ one.told
  pub say_faults : other.say_faults ≡ one.say_faults
  pub crash : other.crash ≡ one.crash
  pub past : other.past ≡ one.past

view_of : (one other : MemoryState) → other ≡ one → SameView one other
view_of one other same = record {
  folder = ap (λ s. s.folder) same;
  told = ap (λ s. s.told) same;
  say_faults = ap (λ s. s.say_faults) same;
  crash = ap (λ s. s.crash) same;
  past = ap (λ s. s.past) same;
}

view_more : (first second third : MemoryState) → SameView first second → SameView second third → SameView first third
view_more first second third one other = record {
  folder = other.folder ∙ one.folder;
  told = other.told ∙ one.told;
  say_faults = other.say_faults ∙ one.say_faults;
  crash = other.crash ∙ one.crash;
  past = other.past ∙ one.past;
}

-- room and faults of the disk are no part of it
used_view : (bytes : ℕ) (state : MemoryState) → SameView state (used bytes state)
used_view bytes state = record { folder = refl; told = refl; say_faults = refl; crash = refl; past = refl }

fault_view : (state : MemoryState) → SameView state (disk_fault state)
fault_view state = record { folder = refl; told = refl; say_faults = refl; crash = refl; past = refl }

refused_view : (state : MemoryState) → SameView state (refused state)
refused_view state = record { folder = refl; told = refl; say_faults = refl; crash = refl; past = refl }

after_used : (bytes : ℕ) (state new : MemoryState) → new ≡ used bytes state → SameView state new
after_used bytes state new is = view_more state (used bytes state) new (used_view bytes state) (view_of (used bytes state) new is)

after_fault : (state new : MemoryState) → new ≡ disk_fault state → SameView state new
after_fault state new is = view_more state (disk_fault state) new (fault_view state) (view_of (disk_fault state) new is)

after_used_fault : (bytes : ℕ) (state new : MemoryState) → new ≡ disk_fault (used bytes state) → SameView state new
after_used_fault bytes state new is = view_more state (used bytes state) new (used_view bytes state) (after_fault (used bytes state) new is)

after_refused : (state new : MemoryState) → new ≡ disk_fault (refused state) → SameView state new
after_refused state new is = view_more state (refused state) new (refused_view state) (after_fault (refused state) new is)

-- what a call that failed left
abbrev IsOneOf : MemoryState → MemoryState → MemoryState → MemoryState → Type 0
IsOneOf all half old left = (left ≡ all) ⊎ (left ≡ half) ⊎ (left ≡ old)

left_is : (how : FaultKind) (all half old : MemoryState) → IsOneOf all half old (left_by how all half old)
left_is Nothing all half old = inr (inr refl)
left_is Happened all half old = inl refl
left_is Half all half old = inr (inl refl)

-- whether all was done, or the call failed, and what it came to
abbrev Viewed : Result (Unit {0}) Failed → MemoryState → MemoryState → MemoryState → MemoryState → Type 0
Viewed result all half old new =
    ((result ≡ Ok tt) × SameView all new) ⊎ ((result ≡ Err (record {})) × (left : MemoryState) × IsOneOf all half old left × SameView left new)

not_ok : {T : Type 0} (r : Result T Failed) (x : T) → r ≡ Ok x → is_err r ≡ true → ⊥
not_ok r x ok err = let wrong : false ≡ true = sym (ap is_err ok) ∙ err in cc

-- how a call on the disk ended
pub record Ended (result : Result (Unit {0}) Failed) (all half old new : MemoryState) : Type 0 where
  pub counts : old.disk_faults ≤ 2 ^ 64 - 1 → all.disk_faults ≡ old.disk_faults → half.disk_faults ≡ old.disk_faults → CountsFault (is_err result) old.disk_faults new.disk_faults
  pub view : Viewed result all half old new

count_left : (left all half old : MemoryState) → IsOneOf all half old left → all.disk_faults ≡ old.disk_faults → half.disk_faults ≡ old.disk_faults → left.disk_faults ≡ old.disk_faults
count_left left all half old (inl same) a h = ap (λ s. s.disk_faults) same ∙ a
count_left left all half old (inr (inl same)) a h = ap (λ s. s.disk_faults) same ∙ h
count_left left all half old (inr (inr same)) a h = ap (λ s. s.disk_faults) same

faulted : (left old new : MemoryState) (count : ℕ) → count ≡ one_more left.disk_faults → left.disk_faults ≡ old.disk_faults → count ≡ min (old.disk_faults + 1) (2 ^ 64 - 1)
faulted left old new count is same = is ∙ ap one_more same

ended_ok : (r : Result (Unit {0}) Failed) (bytes : ℕ) (all half old new : MemoryState) → r ≡ Ok tt → new ≡ used bytes all → Ended r all half old new
ended_ok r bytes all half old new ok is = record {
  counts = λ fits a h. no_fault r tt old.disk_faults new.disk_faults ok (ap (λ s. s.disk_faults) is ∙ a);
  view = inl (ok, after_used bytes all new is);
}

ended_err : (r : Result (Unit {0}) Failed) (bytes : ℕ) (left all half old new : MemoryState) → IsOneOf all half old left → r ≡ Err (record {}) → new ≡ disk_fault (used bytes left) → Ended r all half old new
ended_err r bytes left all half old new one failed is = record {
  counts = λ fits a h. fault r old.disk_faults new.disk_faults failed (faulted left old new new.disk_faults (ap (λ s. s.disk_faults) is) (count_left left all half old one a h)) fits;
  view = inr (failed, left, one, after_used_fault bytes left new is);
}

ended_refused : (r : Result (Unit {0}) Failed) (all half old new : MemoryState) → r ≡ Err (record {}) → new ≡ disk_fault (refused old) → Ended r all half old new
ended_refused r all half old new failed is = record {
  counts = λ fits a h. fault r old.disk_faults new.disk_faults failed (ap (λ s. s.disk_faults) is) fits;
  view = inr (failed, old, inr (inr refl), after_refused old new is);
}

pub call_ended : (plan : Option FaultKind) (r : Result (Unit {0}) Failed) (bytes : ℕ) (all half old new : MemoryState) → DoesDiskCall plan r bytes all half old new → Ended r all half old new
call_ended None r bytes all half old new h = either
    (λ h. ended_ok r bytes all half old new h.0 h.1) (λ h. ended_refused r all half old new h.0 h.1) (has_room old bytes) h
call_ended (Some how) r bytes all half old new h = either
    (λ e. ended_err r bytes (left_by how all half old) all half old new (left_is how all half old) h.0 e)
    (λ e. ended_refused r all half old new h.0 e) (has_room old bytes) h.1

-- moments that went on
pub steps_to : (P : Moment → Type 0) (folder : Folder) (crash : CrashState) (old : MemoryState) → P (record { crash = crash; told = old.told })
    → GoesOn P (moments_of (seen false old)) (moments_of (seen false (changed folder crash old)))
steps_to P folder crash old p = (record { crash = crash; told = old.told } ∷ [], refl, All-cons P (record { crash = crash; told = old.told }) [] p (All-nil P))

pub stays : (P : Moment → Type 0) (moments : List Moment) → GoesOn P moments moments
stays P moments = ([], refl, All-nil P)

seen_same : (one other : MemoryState) → SameView one other → moments_of (seen false other) ≡ moments_of (seen false one)
seen_same one other same = λ i. record { crash = same.crash i; told = same.told i } ∷ same.past i

goes_to : (P : Moment → Type 0) (moments : List Moment) (one other : MemoryState) → SameView one other → GoesOn P moments (moments_of (seen false one)) → GoesOn P moments (moments_of (seen false other))
goes_to P moments one other same goes = subst (GoesOn P moments) (sym (seen_same one other same)) goes

-- what holds of all that a call may have come to holds of what it came to
one_so : (P : MemoryState → Type 0) (all half old left : MemoryState) → IsOneOf all half old left → P all → P half → P old → P left
one_so P all half old left (inl is) a h o = subst P (sym is) a
one_so P all half old left (inr (inl is)) a h o = subst P (sym is) h
one_so P all half old left (inr (inr is)) a h o = subst P (sym is) o

-- a fact of a state that its view alone decides
abbrev OfView : (MemoryState → Type 0) → Type 0
OfView P = (one other : MemoryState) → SameView one other → P one → P other

view_so : (P : MemoryState → Type 0) (r : Result (Unit {0}) Failed) (all half old new : MemoryState) → Viewed r all half old new → OfView P → P all → P half → P old → P new
view_so P r all half old new (inl v) moves a h o = moves all new v.1 a
view_so P r all half old new (inr v) moves a h o = moves v.1 new v.3 (one_so P all half old v.1 v.2 a h o)

pub ended_so : (P : MemoryState → Type 0) (r : Result (Unit {0}) Failed) (all half old new : MemoryState) → Ended r all half old new → OfView P → P all → P half → P old → P new
ended_so P r all half old new ended moves a h o = view_so P r all half old new ended.view moves a h o

-- at Ok all was done, and after a failure something
view_match : (P Q : MemoryState → Type 0) (r : Result (Unit {0}) Failed) (all half old new : MemoryState) → Viewed r all half old new → OfView P → OfView Q
    → P all → Q all → Q half → Q old → MatchResult r (λ _. P new) (λ _. Q new)
view_match P Q r all half old new (inl v) moves_p moves_q done a h o = matched_ok r (P new) (Q new) v.0 (moves_p all new v.1 done)
view_match P Q r all half old new (inr v) moves_p moves_q done a h o =
    failed_so r (record {}) (P new) (Q new) v.0 (moves_q v.1 new v.3 (one_so Q all half old v.1 v.2 a h o))

pub ended_match : (P Q : MemoryState → Type 0) (r : Result (Unit {0}) Failed) (all half old new : MemoryState) → Ended r all half old new → OfView P → OfView Q
    → P all → Q all → Q half → Q old → MatchResult r (λ _. P new) (λ _. Q new)
ended_match P Q r all half old new ended moves_p moves_q done a h o = view_match P Q r all half old new ended.view moves_p moves_q done a h o

-- the moments that a call passed
abbrev pub Went : (Moment → Type 0) → MemoryState → MemoryState → Type 0
Went P old new = GoesOn P (moments_of (seen false old)) (moments_of (seen false new))

pub ended_moments : (P : Moment → Type 0) (r : Result (Unit {0}) Failed) (all half old new : MemoryState) → Ended r all half old new
    → Went P old all → Went P old half → Went P old new
ended_moments P r all half old new ended a h =
    ended_so (Went P old) r all half old new ended (goes_to P (moments_of (seen false old))) a h (stays P (moments_of (seen false old)))

-- the output is as it was
pub record SameOutput (old state : MemoryState) : Type 0 where
  pub told : state.told ≡ old.told
  pub faults : state.say_faults ≡ old.say_faults
  pub disk : state.disk_faults ≡ old.disk_faults

pub same_output : (folder : Folder) (crash : CrashState) (old : MemoryState) → SameOutput old (changed folder crash old)
same_output folder crash old = record { told = refl; faults = refl; disk = refl }

pub old_output : (old : MemoryState) → SameOutput old old
old_output old = record { told = refl; faults = refl; disk = refl }

pub ended_output : (was is : Bool) (r : Result (Unit {0}) Failed) (all half old new : MemoryState) → Ended r all half old new → SameOutput old all → SameOutput old half → IsSameOutput (seen was old) (seen is new)
ended_output was is r all half old new ended a h = record {
  same_told = ended_so (λ (s : MemoryState). s.told ≡ old.told) r all half old new ended (λ one other same is. same.told ∙ is) a.told h.told refl;
  same_faults = ended_so (λ (s : MemoryState). s.say_faults ≡ old.say_faults) r all half old new ended (λ one other same is. same.say_faults ∙ is) a.faults h.faults refl;
}

-- the last call failed where the flag says so
flagged : (fault is : Bool) → is ≡ fault → IsTrue fault → IsTrue is
flagged fault is same failed = same ∙ failed

-- a call that works on the disk alone
pub ended_disk : (was is : Bool) (r : Result (Unit {0}) Failed) (all half old new : MemoryState) → Ended r all half old new → old.disk_faults ≤ 2 ^ 64 - 1 → SameOutput old all → SameOutput old half
    → Went (λ moment. moment.told ≡ old.told) old all → Went (λ moment. moment.told ≡ old.told) old half
    → is ≡ is_err r → OnlyDisk (is_err r) (seen was old) (seen is new)
ended_disk was is r all half old new ended fits a h goes_a goes_h last = record {
  telling = λ honest. honest;
  counts = ended.counts fits a.disk h.disk;
  last = flagged (is_err r) is last;
  output = ended_output was is r all half old new ended a h;
  images = record { telling = λ honest. honest; moments = ended_moments (λ moment. moment.told ≡ old.told) r all half old new ended goes_a goes_h };
}

same_at : (m : Folder) (k : List ℕ) (found : Option (List ℕ)) → get m k ≡ found → IsAnyAt k m m
same_at m k None is = inl (sym (remove_absent m k is))
same_at m k (Some bytes) is = inr (bytes, sym (insert_found m k bytes is))

-- an unchanged folder
pub unchanged_at : (m : Folder) (k : List ℕ) → IsAnyAt k m m
unchanged_at m k = same_at m k (get m k) refl

more_at : (m : Folder) (k more : List ℕ) (found : Option (List ℕ)) → get m k ≡ found → IsAnyAt k m (appended_file m k more found)
more_at m k more None is = unchanged_at m k
more_at m k more (Some bytes) is = inr (bytes ++ more, refl)

-- a folder in which a file went on
pub appended_at : (m : Folder) (k more : List ℕ) → IsAnyAt k m (appended m k more)
appended_at m k more = more_at m k more (get m k) refl

appended_nothing : (m : Folder) (k : List ℕ) (found : Option (List ℕ)) → get m k ≡ found → appended_file m k [] found ≡ m
appended_nothing m k None is = refl
appended_nothing m k (Some bytes) is = ap (insert m k) (append-nil bytes) ∙ insert_found m k bytes is

pub ended_writes : (r : Result (Unit {0}) Failed) (name : List ℕ) (all half old new : MemoryState) → Ended r all half old new
    → IsAnyAt name old.folder all.folder → IsAnyAt name old.folder half.folder → Writes r name all.folder old.folder new.folder
ended_writes r name all half old new ended all_at half_at =
    ended_match (λ (s : MemoryState). s.folder ≡ all.folder) (λ (s : MemoryState). IsAnyAt name old.folder s.folder) r all half old new ended
    (λ one other same is. same.folder ∙ is) (λ one other same is. subst (IsAnyAt name old.folder) (sym same.folder) is) refl all_at half_at (unchanged_at old.folder name)

pub ended_renames : (r : Result (Unit {0}) Failed) (all old new : MemoryState) → Ended r all old old new → Renames r all.folder old.folder new.folder
ended_renames r all old new ended =
    ended_match (λ (s : MemoryState). s.folder ≡ all.folder) (λ (s : MemoryState). IsEither all.folder old.folder s.folder) r all old old new ended
    (λ one other same is. same.folder ∙ is) (λ one other same is. subst (IsEither all.folder old.folder) (sym same.folder) is) refl (inl refl) (inr refl) (inr refl)

-- what a crash leaves of a file that was written, which has this content where it was
abbrev IsWrittenSo : List ℕ → CrashState → MemoryState → Type 0
IsWrittenSo name crash s = IsChangedOrNot (written name (get s.folder name) crash) crash s.crash

written_so : (name : List ℕ) (crash : CrashState) (one other : MemoryState) → SameView one other → IsWrittenSo name crash one → IsWrittenSo name crash other
written_so name crash one other same (inl is) = inl (same.crash ∙ is ∙ ap (λ folder. written name (get folder name) crash) (sym same.folder))
written_so name crash one other same (inr is) = inr (same.crash ∙ is)

pub ended_changes_file : (r : Result (Unit {0}) Failed) (name : List ℕ) (all half old new : MemoryState) → Ended r all half old new
    → all.crash ≡ written name (get all.folder name) old.crash → IsWrittenSo name old.crash half → Changes r (written name (get new.folder name) old.crash) old.crash new.crash
ended_changes_file r name all half old new ended is half_is =
    ended_match (λ (s : MemoryState). s.crash ≡ written name (get s.folder name) old.crash) (IsWrittenSo name old.crash) r all half old new ended
    (λ one other same is. same.crash ∙ is ∙ ap (λ folder. written name (get folder name) old.crash) (sym same.folder)) (written_so name old.crash) is (inl is) half_is (inr refl)

-- the moments of a call that writes a file
abbrev PassedFile : List ℕ → MemoryState → MemoryState → Type 0
PassedFile name old s = Went (λ moment. IsChangedOrNot (written name (get s.folder name) old.crash) old.crash moment.crash × (moment.told ≡ old.told)) old s

passed_file : (name : List ℕ) (old : MemoryState) → OfView (PassedFile name old)
passed_file name old one other same went =
    subst (λ (folder : Folder). Went (λ moment. IsChangedOrNot (written name (get folder name) old.crash) old.crash moment.crash × (moment.told ≡ old.told)) old other) (sym same.folder)
    (goes_to (λ moment. IsChangedOrNot (written name (get one.folder name) old.crash) old.crash moment.crash × (moment.told ≡ old.told)) (moments_of (seen false old)) one other same went)

-- the state that a file with this content in the folder comes to
abbrev pub with_written : List ℕ → Folder → MemoryState → MemoryState
with_written name folder old = changed folder (written name (get folder name) old.crash) old

passes_written : (name : List ℕ) (folder : Folder) (old : MemoryState) → PassedFile name old (with_written name folder old)
passes_written name folder old =
    steps_to (λ moment. IsChangedOrNot (written name (get folder name) old.crash) old.crash moment.crash × (moment.told ≡ old.told)) folder (written name (get folder name) old.crash) old (inl refl, refl)

passes_none : (name : List ℕ) (old : MemoryState) → PassedFile name old old
passes_none name old = stays (λ moment. IsChangedOrNot (written name (get old.folder name) old.crash) old.crash moment.crash × (moment.told ≡ old.told)) (moments_of (seen false old))

-- a call that writes a file, of which nothing, half or all was done
pub file_crash : (was is : Bool) (r : Result (Unit {0}) Failed) (name : List ℕ) (folder : Folder) (half old new : MemoryState) → Ended r (with_written name folder old) half old new
    → IsWrittenSo name old.crash half → PassedFile name old half → ChangesCrash r (written name (get new.folder name) old.crash) (seen was old) (seen is new)
file_crash was is r name folder half old new ended half_is half_passed = record {
  now = λ _. ended_changes_file r name (with_written name folder old) half old new ended refl half_is;
  moments = λ _. ended_so (PassedFile name old) r (with_written name folder old) half old new ended (passed_file name old) (passes_written name folder old) half_passed (passes_none name old);
}

silent_written : (folder : Folder) (crash : CrashState) (old : MemoryState) → Went (λ moment. moment.told ≡ old.told) old (changed folder crash old)
silent_written folder crash old = steps_to (λ moment. moment.told ≡ old.told) folder crash old refl

silent_none : (old : MemoryState) → Went (λ moment. moment.told ≡ old.told) old old
silent_none old = stays (λ moment. moment.told ≡ old.told) (moments_of (seen false old))

-- the calls of a disk, each with all that it has to tell
pub create_told : (was is : Bool) (plan : Option FaultKind) (r : Result (Unit {0}) Failed) (name : List ℕ) (old new : MemoryState) → old.disk_faults ≤ 2 ^ 64 - 1 → is ≡ is_err r
    → DoesDiskCall plan r 0 (after_create name old) old old new
    → Writes r name (insert old.folder name []) old.folder new.folder × ChangesCrash r (written name (get new.folder name) old.crash) (seen was old) (seen is new) × OnlyDisk (is_err r) (seen was old) (seen is new)
create_told was is plan r name old new fits last does =
    let folder = insert old.folder name [] in
    let same : after_create name old ≡ with_written name folder old = ap (λ content. changed folder (written name content old.crash) old) (sym (get-insert_same old.folder name [])) in
    let ended = subst (λ (all : MemoryState). Ended r all old old new) same (call_ended plan r 0 (after_create name old) old old new does) in (
      ended_writes r name (with_written name folder old) old old new ended (inr ([], refl)) (unchanged_at old.folder name),
      file_crash was is r name folder old old new ended (inr refl) (passes_none name old),
      ended_disk was is r (with_written name folder old) old old new ended fits (same_output folder (written name (get folder name) old.crash) old) (old_output old) (silent_written folder (written name (get folder name) old.crash) old) (silent_none old) last,
    )

pub append_told : (was is : Bool) (plan : Option FaultKind) (r : Result (Unit {0}) Failed) (bytes : ℕ) (name more : List ℕ) (old new : MemoryState) → old.disk_faults ≤ 2 ^ 64 - 1 → is ≡ is_err r
    → DoesDiskCall plan r bytes (after_append name more old) (after_append name (first_half more) old) old new
    → Writes r name (appended old.folder name more) old.folder new.folder × ChangesCrash r (written name (get new.folder name) old.crash) (seen was old) (seen is new) × OnlyDisk (is_err r) (seen was old) (seen is new)
append_told was is plan r bytes name more old new fits last does =
    let all = appended old.folder name more in
    let half = appended old.folder name (first_half more) in
    let ended = call_ended plan r bytes (after_append name more old) (after_append name (first_half more) old) old new does in (
      ended_writes r name (with_written name all old) (with_written name half old) old new ended (appended_at old.folder name more) (appended_at old.folder name (first_half more)),
      file_crash was is r name all (with_written name half old) old new ended (inl refl) (passes_written name half old),
      ended_disk was is r (with_written name all old) (with_written name half old) old new ended fits (same_output all (written name (get all name) old.crash) old) (same_output half (written name (get half name) old.crash) old)
          (silent_written all (written name (get all name) old.crash) old) (silent_written half (written name (get half name) old.crash) old) last,
    )

-- a call that changes names
pub names_told : (was is : Bool) (plan : Option FaultKind) (r : Result (Unit {0}) Failed) (folder : Folder) (crash : CrashState) (old new : MemoryState) → old.disk_faults ≤ 2 ^ 64 - 1 → is ≡ is_err r
    → DoesDiskCall plan r 0 (changed folder crash old) old old new
    → Renames r folder old.folder new.folder × ChangesCrash r crash (seen was old) (seen is new) × OnlyDisk (is_err r) (seen was old) (seen is new)
names_told was is plan r folder crash old new fits last does =
    let ended = call_ended plan r 0 (changed folder crash old) old old new does in (
      ended_renames r (changed folder crash old) old new ended,
      record {
        now = λ _. ended_match (λ (s : MemoryState). s.crash ≡ crash) (λ (s : MemoryState). IsChangedOrNot crash old.crash s.crash) r (changed folder crash old) old old new ended
            (λ one other same is. same.crash ∙ is) (λ one other same is. subst (IsChangedOrNot crash old.crash) (sym same.crash) is) refl (inl refl) (inr refl) (inr refl);
        moments = λ _. ended_moments (λ moment. IsChangedOrNot crash old.crash moment.crash × (moment.told ≡ old.told)) r (changed folder crash old) old old new ended
            (steps_to (λ moment. IsChangedOrNot crash old.crash moment.crash × (moment.told ≡ old.told)) folder crash old (inl refl, refl))
            (stays (λ moment. IsChangedOrNot crash old.crash moment.crash × (moment.told ≡ old.told)) (moments_of (seen false old)));
      },
      ended_disk was is r (changed folder crash old) old old new ended fits (same_output folder crash old) (old_output old) (silent_written folder crash old) (silent_none old) last,
    )

-- a call that settles
pub settling_told : (was is : Bool) (plan : Option FaultKind) (r : Result (Unit {0}) Failed) (crash : CrashState) (old new : MemoryState) → old.disk_faults ≤ 2 ^ 64 - 1 → is ≡ is_err r
    → AddsNone crash old.crash → DoesDiskCall plan r 0 (after_settling crash old) old old new
    → SettlesCrash r crash (seen was old) (seen is new) × OnlyReads (is_err r) (seen was old) (seen is new)
settling_told was is plan r crash old new fits last adds does =
    let all = after_settling crash old in
    let ended = call_ended plan r 0 all old old new does in (
      λ _. ended_match (λ (s : MemoryState). s.crash ≡ crash) (λ (s : MemoryState). IsChangedOrNot crash old.crash s.crash) r all old old new ended
          (λ one other same is. same.crash ∙ is) (λ one other same is. subst (IsChangedOrNot crash old.crash) (sym same.crash) is) refl (inl refl) (inr refl) (inr refl),
      record {
        telling = λ honest. honest;
        folder = λ _. ended_so (λ (s : MemoryState). s.folder ≡ old.folder) r all old old new ended (λ one other same is. same.folder ∙ is) refl refl refl;
        counts = ended.counts fits refl refl;
        last = flagged (is_err r) is last;
        output = ended_output was is r all old old new ended (same_output old.folder crash old) (old_output old);
        images = record {
          telling = λ honest. honest;
          now = λ _. ended_so (λ (s : MemoryState). AddsNone s.crash old.crash) r all old old new ended
              (λ one other same is. subst (λ (c : CrashState). AddsNone c old.crash) (sym same.crash) is) adds (adds_none old.crash) (adds_none old.crash);
          silent = ended_moments (λ moment. moment.told ≡ old.told) r all old old new ended (silent_written old.folder crash old) (silent_none old);
          moments = λ _. ended_moments (λ moment. AddsNone moment.crash old.crash × (moment.told ≡ old.told)) r all old old new ended
              (steps_to (λ moment. AddsNone moment.crash old.crash × (moment.told ≡ old.told)) old.folder crash old (adds, refl))
              (stays (λ moment. AddsNone moment.crash old.crash × (moment.told ≡ old.told)) (moments_of (seen false old)));
        };
      },
    )

say_counts : (plan : Option FaultKind) (r : Result (Unit {0}) Failed) (piece : List ℕ) (old new : MemoryState) → old.say_faults ≤ 2 ^ 64 - 1
    → DoesSayCall plan r piece old new → CountsFault (is_err r) old.say_faults new.say_faults
say_counts None r piece old new fits h = either
    (λ h. no_fault r tt old.say_faults new.say_faults h.0 (ap (λ s. s.say_faults) h.1))
    (λ h. fault r old.say_faults new.say_faults h.0 (ap (λ s. s.say_faults) h.1) fits) (has_room old (length piece)) h
say_counts (Some how) r piece old new fits h =
    fault r old.say_faults new.say_faults h.0 (either (λ e. ap (λ s. s.say_faults) e) (λ e. ap (λ s. s.say_faults) e) (has_room old (length piece)) h.1) fits

say_leaves_disk : (plan : Option FaultKind) (r : Result (Unit {0}) Failed) (piece : List ℕ) (old new : MemoryState) → DoesSayCall plan r piece old new
    → (new.folder ≡ old.folder) × (new.disk_faults ≡ old.disk_faults)
say_leaves_disk None r piece old new h = either
    (λ h. (ap (λ s. s.folder) h.1, ap (λ s. s.disk_faults) h.1)) (λ h. (ap (λ s. s.folder) h.1, ap (λ s. s.disk_faults) h.1)) (has_room old (length piece)) h
say_leaves_disk (Some how) r piece old new h = either
    (λ e. (ap (λ s. s.folder) e, ap (λ s. s.disk_faults) e)) (λ e. (ap (λ s. s.folder) e, ap (λ s. s.disk_faults) e)) (has_room old (length piece)) h.1

said_so : {E : Type 0} (r : Result (Unit {0}) E) (piece old new : List ℕ) → r ≡ Ok tt → new ≡ old ++ piece → Says r piece old new
said_so r piece old new ok is = rw ok is

said_front : {E : Type 0} (r : Result (Unit {0}) E) (x : E) (piece old new : List ℕ) (n : ℕ) → r ≡ Err x → new ≡ old ++ take n piece → Says r piece old new
said_front r x piece old new n err is = rw err (n, is)

nothing_more : (old piece new : List ℕ) → new ≡ old → new ≡ old ++ take 0 piece
nothing_more old piece new is = is ∙ sym (append-nil old)

-- what a fault leaves of a piece is a front of it
front_left : (how : FaultKind) (piece : List ℕ) → (n : ℕ) × (left_by how piece (first_half piece) [] ≡ take n piece)
front_left Nothing piece = (0, refl)
front_left Happened piece = (length piece, sym (take_all (length piece) piece (omega arith)))
front_left Half piece = (length piece / 2, refl)

pub say_says : (plan : Option FaultKind) (r : Result (Unit {0}) Failed) (piece : List ℕ) (old new : MemoryState) → DoesSayCall plan r piece old new → Says r piece old.told new.told
say_says None r piece old new h = either
    (λ h. said_so r piece old.told new.told h.0 (ap (λ s. s.told) h.1))
    (λ h. said_front r _ piece old.told new.told 0 h.0 (nothing_more old.told piece new.told (ap (λ s. s.told) h.1))) (has_room old (length piece)) h
say_says (Some how) r piece old new h =
    let left = front_left how piece in
    either
    (λ e. said_front r _ piece old.told new.told left.0 h.0 (ap (λ s. s.told) e ∙ ap (λ front. old.told ++ front) left.1))
    (λ e. said_front r _ piece old.told new.told 0 h.0 (nothing_more old.told piece new.told (ap (λ s. s.told) e))) (has_room old (length piece)) h.1

-- what was said goes on
abbrev SaysOnTo : Bool → Bool → MemoryState → MemoryState → Type 0
SaysOnTo was is old new = SaysOn (seen was old) (seen is new)

said_on : (was is : Bool) (old new : MemoryState) (front : List ℕ) → new.crash ≡ old.crash → new.told ≡ old.told ++ front → new.past ≡ present old ∷ old.past → SaysOnTo was is old new
said_on was is old new front crash told past =
    let grown : Extends old.told new.told = (front, told) in
    let whole : Extends new.told new.told = ([], sym (append-nil new.told)) in
    let went = ap (λ (moments : List Moment). record { crash = new.crash; told = new.told } ∷ moments) past in
    record {
      telling = λ honest. honest;
      now = λ _. crash;
      grows = grown;
      said = (
        record { crash = new.crash; told = new.told } ∷ [],
        went,
        All-cons (λ moment. Extends old.told moment.told × Extends moment.told new.told) (record { crash = new.crash; told = new.told }) []
            (grown, whole) (All-nil (λ moment. Extends old.told moment.told × Extends moment.told new.told)),
      );
      moments = λ _. (
        record { crash = new.crash; told = new.told } ∷ [],
        went,
        All-cons (λ moment. (moment.crash ≡ old.crash) × Extends old.told moment.told × Extends moment.told new.told) (record { crash = new.crash; told = new.told }) []
            (crash, grown, whole) (All-nil (λ moment. (moment.crash ≡ old.crash) × Extends old.told moment.told × Extends moment.told new.told)),
      );
    }

said_nothing : (was is : Bool) (old new : MemoryState) → new.crash ≡ old.crash → new.told ≡ old.told → new.past ≡ old.past → SaysOnTo was is old new
said_nothing was is old new crash told past = record {
  telling = λ honest. honest;
  now = λ _. crash;
  grows = ([], told ∙ sym (append-nil old.told));
  said = ([], (λ i. record { crash = crash i; told = told i } ∷ past i), All-nil (λ moment. Extends old.told moment.told × Extends moment.told new.told));
  moments = λ _. (
    [],
    (λ i. record { crash = crash i; told = told i } ∷ past i),
    All-nil (λ moment. (moment.crash ≡ old.crash) × Extends old.told moment.told × Extends moment.told new.told),
  );
}

said_all : (was is : Bool) (piece : List ℕ) (bytes : ℕ) (old new : MemoryState) → new ≡ used bytes (said piece old) → SaysOnTo was is old new
said_all was is piece bytes old new so = said_on was is old new piece (ap (λ s. s.crash) so) (ap (λ s. s.told) so) (ap (λ s. s.past) so)

said_some : (was is : Bool) (piece : List ℕ) (bytes : ℕ) (old new : MemoryState) → new ≡ say_fault (used bytes (said piece old)) → SaysOnTo was is old new
said_some was is piece bytes old new so = said_on was is old new piece (ap (λ s. s.crash) so) (ap (λ s. s.told) so) (ap (λ s. s.past) so)

said_refused : (was is : Bool) (old new : MemoryState) → new ≡ say_fault (refused old) → SaysOnTo was is old new
said_refused was is old new so = said_nothing was is old new (ap (λ s. s.crash) so) (ap (λ s. s.told) so) (ap (λ s. s.past) so)

say_says_on : (was is : Bool) (plan : Option FaultKind) (r : Result (Unit {0}) Failed) (piece : List ℕ) (old new : MemoryState) → DoesSayCall plan r piece old new → SaysOnTo was is old new
say_says_on was is None r piece old new h = either (λ h. said_all was is piece (length piece) old new h.1) (λ h. said_refused was is old new h.1) (has_room old (length piece)) h
say_says_on was is (Some how) r piece old new h = either
    (λ e. said_some was is (left_by how piece (first_half piece) []) (length piece) old new e) (λ e. said_refused was is old new e) (has_room old (length piece)) h.1

-- a call that says
pub say_told : (was is : Bool) (plan : Option FaultKind) (r : Result (Unit {0}) Failed) (piece : List ℕ) (old new : MemoryState) → old.say_faults ≤ 2 ^ 64 - 1 → is ≡ is_err r
    → DoesSayCall plan r piece old new → OnlySays (is_err r) (seen was old) (seen is new)
say_told was is plan r piece old new fits last does =
    let kept = say_leaves_disk plan r piece old new does in
    record {
      telling = λ honest. honest;
      counts = say_counts plan r piece old new fits does;
      last = flagged (is_err r) is last;
      disk = record { same_folder = kept.0; same_faults = kept.1 };
      images = say_says_on was is plan r piece old new does;
    }

-- a call that reads leaves all but a count
reading_view : (plan : Option FaultKind) (old new : MemoryState) → new ≡ state_after_reading plan old → SameView old new
reading_view None old new is = view_of old new is
reading_view (Some how) old new is = after_fault old new is

pub reading_told : (was is : Bool) (plan : Option FaultKind) (is_fault : Bool) (old new : MemoryState) → new ≡ state_after_reading plan old → CountsFault is_fault old.disk_faults new.disk_faults → is ≡ is_fault
    → KeepsCrash (seen was old) (seen is new) × OnlyReads is_fault (seen was old) (seen is new)
reading_told was is plan is_fault old new so counts last =
    let same = reading_view plan old new so in (
      λ _. same.crash,
      record {
        telling = λ honest. honest;
        folder = λ _. same.folder;
        counts = counts;
        last = flagged is_fault is last;
        output = record { same_told = same.told; same_faults = same.say_faults };
        images = record {
          telling = λ honest. honest;
          now = λ _. adds_none_same old.crash new.crash same.crash;
          silent = goes_to (λ moment. moment.told ≡ old.told) (moments_of (seen false old)) old new same (silent_none old);
          moments = λ _. goes_to (λ moment. AddsNone moment.crash old.crash × (moment.told ≡ old.told)) (moments_of (seen false old)) old new same
              (stays (λ moment. AddsNone moment.crash old.crash × (moment.told ≡ old.told)) (moments_of (seen false old)));
        };
      },
    )

counts_when_ok : {T : Type 0} (P : T → Type 0) (r : Result T Failed) (old new : ℕ) → IsOkAnd r P → new ≡ old → CountsFault (is_err r) old new
counts_when_ok P (Ok x) old new h is = is
counts_when_ok P (Err e) old new h is = absurd h

-- it answers Ok, and a fault exactly where one is planned
pub reading_counts : {T : Type 0} (P : T → Type 0) (Q : Type 0) (plan : Option FaultKind) (r : Result T Failed) (old new : MemoryState) → old.disk_faults ≤ 2 ^ 64 - 1
    → MatchOption plan (IsOkAnd r P) (λ _. (r ≡ Err (record {})) × Q) → new ≡ state_after_reading plan old → CountsFault (is_err r) old.disk_faults new.disk_faults
reading_counts P Q None r old new fits h is = counts_when_ok P r old.disk_faults new.disk_faults h (ap (λ s. s.disk_faults) is)
reading_counts P Q (Some how) r old new fits h is = fault r old.disk_faults new.disk_faults h.0 (ap (λ s. s.disk_faults) is) fits

if_ok : {T E : Type 0} (P : T → Type 0) (r : Result T E) → IsOkAnd r P → IfOk r P
if_ok P (Ok x) h = h
if_ok P (Err e) h = absurd h

-- what it answers where it answers Ok
pub reading_gives : {T : Type 0} (P : T → Type 0) (Q : Type 0) (plan : Option FaultKind) (r : Result T Failed) → MatchOption plan (IsOkAnd r P) (λ _. (r ≡ Err (record {})) × Q) → IfOk r P
reading_gives P Q None r h = if_ok P r h
reading_gives P Q (Some how) r h = rw h.0 tt

-- the same of a call that answers one value
pub size_counts : {T : Type 0} (x : T) (plan : Option FaultKind) (r : Result T Failed) (old new : MemoryState) → old.disk_faults ≤ 2 ^ 64 - 1
    → MatchOption plan (r ≡ Ok x) (λ _. r ≡ Err (record {})) → new ≡ state_after_reading plan old → CountsFault (is_err r) old.disk_faults new.disk_faults
size_counts x None r old new fits h is = no_fault r x old.disk_faults new.disk_faults h (ap (λ s. s.disk_faults) is)
size_counts x (Some how) r old new fits h is = fault r old.disk_faults new.disk_faults h (ap (λ s. s.disk_faults) is) fits

pub size_gives : {T : Type 0} (x : T) (plan : Option FaultKind) (r : Result T Failed) → MatchOption plan (r ≡ Ok x) (λ _. r ≡ Err (record {})) → IfOk r (λ y. y ≡ x)
size_gives x None r h = rw h refl
size_gives x (Some how) r h = rw h tt

memory_counts : {T : Type 0} (r : Result T ListFail) (old new : ℕ) → IfErr r (λ e. e ≡ list_fail.Memory) → new ≡ old → CountsFault (is_err_and is_list_fault r) old new
memory_counts (Ok x) old new h is = is
memory_counts (Err e) old new h is = subst (λ fail. CountsFault (is_list_fault fail) old new) (sym h) is

list_fault : {T : Type 0} (r : Result T ListFail) (old new : ℕ) → r ≡ Err list_fail.Failed → new ≡ min (old + 1) (2 ^ 64 - 1) → old ≤ 2 ^ 64 - 1 → CountsFault (is_err_and is_list_fault r) old new
list_fault r old new failed is fits = rw failed (omega arith, omega arith)

-- a listing fails by plan, or for want of memory
pub list_counts : {T : Type 0} (Q : Type 0) (plan : Option FaultKind) (r : Result T ListFail) (old new : MemoryState) → old.disk_faults ≤ 2 ^ 64 - 1
    → MatchOption plan (IfErr r (λ e. e ≡ list_fail.Memory)) (λ _. (r ≡ Err list_fail.Failed) × Q) → new ≡ state_after_reading plan old → CountsFault (is_err_and is_list_fault r) old.disk_faults new.disk_faults
list_counts Q None r old new fits h is = memory_counts r old.disk_faults new.disk_faults h (ap (λ s. s.disk_faults) is)
list_counts Q (Some how) r old new fits h is = list_fault r old.disk_faults new.disk_faults h.0 (ap (λ s. s.disk_faults) is) fits

-- the state after a call that was made or not, and then failed by plan
after_spoiling : (b : Bool) (made : Result (Unit {0}) Failed) (count : MemoryState → MemoryState) (happened refused after middle new : MemoryState)
    → MatchBool b ((made ≡ Ok tt) × (middle ≡ happened)) ((made ≡ Err (record {})) × (middle ≡ refused))
    → (made ≡ Ok tt → new ≡ count middle) → (made ≡ Err (record {}) → new ≡ middle) → count happened ≡ after
    → MatchBool b (new ≡ after) (new ≡ refused)
after_spoiling true made count happened refused after middle new h ok err is = ok h.0 ∙ ap count h.1 ∙ is
after_spoiling false made count happened refused after middle new h ok err is = err h.0 ∙ h.1

pub disk_call_spoiled : (how : FaultKind) (made r : Result (Unit {0}) Failed) (bytes : ℕ) (left old middle new : MemoryState)
    → MakesDiskCall made bytes left old middle → r ≡ Err (record {}) → new ≡ spoiled made middle → FailsByPlan r bytes left old new
disk_call_spoiled how made r bytes left old middle new makes failed is = (
  failed,
  after_spoiling (has_room old bytes) made disk_fault (used bytes left) (disk_fault (refused old)) (disk_fault (used bytes left)) middle new makes
      (λ m. is ∙ ap (λ r. spoiled r middle) m) (λ m. is ∙ ap (λ r. spoiled r middle) m) refl,
)

pub say_call_spoiled : (how : FaultKind) (made r : Result (Unit {0}) Failed) (piece kept : List ℕ) (old middle new : MemoryState)
    → kept ≡ left_by how piece (first_half piece) [] → MakesSayCall made (length piece) kept old middle → r ≡ Err (record {}) → new ≡ spoiled_say made middle
    → DoesSayCall (Some how) r piece old new
say_call_spoiled how made r piece kept old middle new left makes failed is = (
  failed,
  after_spoiling (has_room old (length piece)) made say_fault (used (length piece) (said kept old)) (say_fault (refused old)) _ middle new makes
      (λ m. is ∙ ap (λ r. spoiled_say r middle) m) (λ m. is ∙ ap (λ r. spoiled_say r middle) m)
      (ap (λ (front : List ℕ). say_fault (used (length piece) (said front old))) left),
)

-- the bytes of a piece that are kept
pub kept_bytes : (how : FaultKind) (piece : List ℕ) (kept : ℕ) → kept ≡ left_by how (length piece) (length piece / 2) 0
    → take kept piece ≡ left_by how piece (first_half piece) []
kept_bytes Nothing piece kept is = ap (λ n. take n piece) is
kept_bytes Happened piece kept is = ap (λ n. take n piece) is ∙ take_all (length piece) piece (omega arith)
kept_bytes Half piece kept is = ap (λ n. take n piece) is
