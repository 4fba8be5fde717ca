-- What the calls of a change of a file leave of crashes.
use Rattle.std.proofs.Common.{◌≡◌, ◌⊎◌, List, ℕ, Option, Some, Result, Ok, Err, sym, ap, subst, ◌∙◌, inl, inr}
use Rattle.std.specs.Prelude.{IsErr, OnOk}
use Rattle.std.specs.FinMap.{get, insert, remove}
use Rattle.ts_site.specs.Crash.{CrashState, EachImage, AddsNone, written, synced, renamed, names_settled}
use Rattle.ts_site.specs.Folder.{Folder}
use Rattle.ts_site.specs.Moments.{Moment, GoesOn, IsChangedOrNot, Changes}
use Rattle.ts_site.specs.Outside.{Outside, IsHonest, ChangesCrash, SettlesCrash, moments_of}
use Rattle.ts_site.proofs.FolderLemmas.{get-insert_same, remove-insert}
use Rattle.ts_site.proofs.GoesLemmas.{goes_weaker, goes_more}
use Rattle.ts_replace.specs.Replaced.{new_tmp, replaced}
use Rattle.ts_replace.specs.CrashSafe.{AgreesBut, IsUnstaged, LeavesFolder, LeavesStaged, LeavesEither, StagesCrash, PlacesCrash, ReplacesCrash, ReplacesSafely, staged, placed}
use Rattle.ts_replace.proofs.CrashLemmas.{written-twice, quiet_if, written_leaves, staged_holds, staged_if, renamed_leaves, placed_leaves, leaves_same, either_same, either_old, staged_agrees}

-- an answer that is an error is no Ok
pub ok_of_err : {T E : Type 0} (r : Result T E) (P : Type 0) → IsErr r → OnOk r P
ok_of_err (Ok value) P h = cc
ok_of_err (Err error) P h = tt

-- a write under a name that is that of the temporary file
pub named_change : {E : Type 0} (r : Result (Unit {0}) E) (name : List ℕ) (old new : Outside) → name ≡ new_tmp
    → ChangesCrash r (written name (get new.folder name) old.crash) old new → ChangesCrash r (written new_tmp (get new.folder new_tmp) old.crash) old new
named_change r name old new same change = subst (λ (n : List ℕ). ChangesCrash r (written n (get new.folder n) old.crash) old new) same change

-- nothing was done, or the file was written
pub unstaged_once : (old new : CrashState) (content : Option (List ℕ)) → IsChangedOrNot (written new_tmp content old) old new → IsUnstaged old new
unstaged_once old new content (inl is) = inr (content, is)
unstaged_once old new content (inr is) = inl is

pub unstaged_twice : (old between new : CrashState) (first content : Option (List ℕ)) → between ≡ written new_tmp first old → IsChangedOrNot (written new_tmp content between) between new → IsUnstaged old new
unstaged_twice old between new first content one (inl is) = inr (content, is ∙ ap (written new_tmp content) one ∙ written-twice new_tmp first content old)
unstaged_twice old between new first content one (inr is) = inr (first, is ∙ one)

-- the file was written whole
pub written_whole : (old between new : CrashState) (first content : Option (List ℕ)) (bytes : List ℕ) → between ≡ written new_tmp first old → new ≡ written new_tmp content between → content ≡ Some bytes
    → new ≡ written new_tmp (Some bytes) old
written_whole old between new first content bytes one is reads =
    is ∙ ap (written new_tmp content) one ∙ written-twice new_tmp first content old ∙ ap (λ (c : Option (List ℕ)). written new_tmp c old) reads

pub stages : {E : Type 0} (r : Result (Unit {0}) E) (bytes : List ℕ) (old between new : CrashState) → between ≡ written new_tmp (Some bytes) old → Changes r (synced new_tmp between) between new → StagesCrash r bytes old new
stages (Ok done) bytes old between new is settles = settles ∙ ap (synced new_tmp) is
stages (Err failed) bytes old between new is (inl settles) = inr (settles ∙ ap (synced new_tmp) is)
stages (Err failed) bytes old between new is (inr settles) = inl (inr (Some bytes, settles ∙ is))

-- at each moment a crash leaves the old folder
abbrev pub IsOld : Outside → Moment → Type 0
IsOld old moment = LeavesFolder old.folder moment.crash × (moment.told ≡ old.told)

pub unstaged_leaves : (folder : Folder) (old new : CrashState) → LeavesFolder folder old → IsUnstaged old new → LeavesFolder folder new
unstaged_leaves folder old new leaves (inl is) = subst (LeavesFolder folder) (sym is) leaves
unstaged_leaves folder old new leaves (inr (content, is)) = subst (LeavesFolder folder) (sym is) (written_leaves new_tmp content folder old (quiet_if new_tmp folder old leaves))

pub goes_unstaged : (first old new : Outside) (changed : CrashState) → LeavesFolder first.folder first.crash → old.told ≡ first.told
    → ((state : CrashState) → IsChangedOrNot changed old.crash state → IsUnstaged first.crash state)
    → GoesOn (λ moment. IsChangedOrNot changed old.crash moment.crash × (moment.told ≡ old.told)) (moments_of old) (moments_of new)
    → GoesOn (IsOld first) (moments_of old) (moments_of new)
goes_unstaged first old new changed leaves told unstaged goes =
    goes_weaker (λ moment. IsChangedOrNot changed old.crash moment.crash × (moment.told ≡ old.told)) (IsOld first) (moments_of old) (moments_of new)
    (λ moment is. (unstaged_leaves first.folder first.crash moment.crash leaves (unstaged moment.crash is.0), is.1 ∙ told)) goes

-- what holds of each image holds where none is added
pub still_each : (P : Folder → Type 0) (old new : CrashState) → EachImage P old → AddsNone new old → EachImage P new
still_each P old new each adds = λ image is. each image (adds image is)

pub goes_settling : (P : Folder → Type 0) (told : List ℕ) (old new : Outside) → EachImage P old.crash → old.told ≡ told
    → GoesOn (λ moment. AddsNone moment.crash old.crash × (moment.told ≡ old.told)) (moments_of old) (moments_of new)
    → GoesOn (λ moment. EachImage P moment.crash × (moment.told ≡ told)) (moments_of old) (moments_of new)
goes_settling P told old new each same goes =
    goes_weaker (λ moment. AddsNone moment.crash old.crash × (moment.told ≡ old.told)) (λ moment. EachImage P moment.crash × (moment.told ≡ told)) (moments_of old) (moments_of new)
    (λ moment is. (still_each P old.crash moment.crash each is.0, is.1 ∙ same)) goes

pub staged_ok : {E : Type 0} (r : Result (Unit {0}) E) (bytes : List ℕ) (folder : Folder) (old new : CrashState) → LeavesFolder folder old → StagesCrash r bytes old new → OnOk r (LeavesStaged bytes new)
staged_ok (Ok done) bytes folder old new leaves is = subst (LeavesStaged bytes) (sym is) (staged_holds bytes folder old (quiet_if new_tmp folder old leaves))
staged_ok (Err failed) bytes folder old new leaves is = tt

-- the rename and what settles it
pub places : {E : Type 0} (r : Result (Unit {0}) E) (name : List ℕ) (old between new : CrashState) → between ≡ renamed new_tmp name old → Changes r (names_settled between) between new → PlacesCrash r name old new
places (Ok done) name old between new is settles = settles ∙ ap names_settled is
places (Err failed) name old between new is (inl settles) = inr (settles ∙ ap names_settled is)
places (Err failed) name old between new is (inr settles) = inl (inl (settles ∙ is))

-- at each moment a crash leaves the old folder or the new one
abbrev pub IsEither : List ℕ → List ℕ → Outside → Moment → Type 0
IsEither name bytes old moment = LeavesEither name bytes old.folder moment.crash × (moment.told ≡ old.told)

pub moved_or_not : (name bytes : List ℕ) (folder : Folder) (old new : CrashState) → LeavesFolder folder old → LeavesStaged bytes old → IsChangedOrNot (renamed new_tmp name old) old new → LeavesEither name bytes folder new
moved_or_not name bytes folder old new leaves holds (inl is) = subst (LeavesEither name bytes folder) (sym is) (renamed_leaves bytes name folder old (staged_if bytes folder old leaves holds))
moved_or_not name bytes folder old new leaves holds (inr is) = subst (LeavesEither name bytes folder) (sym is) (either_old name bytes folder old leaves)

pub goes_moved : (name bytes : List ℕ) (old new : Outside) → LeavesFolder old.folder old.crash → LeavesStaged bytes old.crash
    → GoesOn (λ moment. IsChangedOrNot (renamed new_tmp name old.crash) old.crash moment.crash × (moment.told ≡ old.told)) (moments_of old) (moments_of new)
    → GoesOn (IsEither name bytes old) (moments_of old) (moments_of new)
goes_moved name bytes old new leaves holds goes =
    goes_weaker (λ moment. IsChangedOrNot (renamed new_tmp name old.crash) old.crash moment.crash × (moment.told ≡ old.told)) (IsEither name bytes old) (moments_of old) (moments_of new)
    (λ moment is. (moved_or_not name bytes old.folder old.crash moment.crash leaves holds is.0, is.1)) goes

pub placed_ok : {E : Type 0} (r : Result (Unit {0}) E) (name bytes : List ℕ) (folder : Folder) (old new : CrashState) → LeavesFolder folder old → LeavesStaged bytes old → PlacesCrash r name old new
    → OnOk r (LeavesFolder (replaced folder name bytes) new)
placed_ok (Ok done) name bytes folder old new leaves holds is = subst (LeavesFolder (replaced folder name bytes)) (sym is) (placed_leaves bytes name folder old (staged_if bytes folder old leaves holds))
placed_ok (Err failed) name bytes folder old new leaves holds is = tt

-- both parts of a change
pub replaces : {E : Type 0} (r : Result (Unit {0}) E) (name bytes : List ℕ) (old between new : CrashState) → between ≡ staged bytes old → PlacesCrash r name between new → ReplacesCrash r name bytes old new
replaces (Ok done) name bytes old between new is places = places ∙ ap (placed name) is
replaces (Err failed) name bytes old between new is (inl (inl places)) = inr (inl (inl (places ∙ ap (renamed new_tmp name) is)))
replaces (Err failed) name bytes old between new is (inl (inr places)) = inr (inl (inr (places ∙ is)))
replaces (Err failed) name bytes old between new is (inr places) = inr (inr (places ∙ ap (placed name) is))

-- the first part failed
pub unplaced : (name bytes : List ℕ) (old new : CrashState) → IsUnstaged old new ⊎ (new ≡ staged bytes old)
    → IsUnstaged old new ⊎ IsChangedOrNot (renamed new_tmp name (staged bytes old)) (staged bytes old) new ⊎ (new ≡ placed name (staged bytes old))
unplaced name bytes old new (inl is) = inl is
unplaced name bytes old new (inr is) = inr (inl (inr is))

ok_same : {E : Type 0} (r : Result (Unit {0}) E) (P Q : Type 0) → (P → Q) → OnOk r P → OnOk r Q
ok_same (Ok done) P Q so h = so h
ok_same (Err failed) P Q so h = tt

pub replaces_unstaged : {E : Type 0} (r : Result (Unit {0}) E) (name bytes : List ℕ) (old new : Outside) → LeavesFolder old.folder new.crash → GoesOn (IsOld old) (moments_of old) (moments_of new) → IsErr r
    → ReplacesSafely r name bytes old new
replaces_unstaged r name bytes old new leaves goes err = record {
  at_each = goes_weaker (IsOld old) (IsEither name bytes old) (moments_of old) (moments_of new) (λ moment is. (either_old name bytes old.folder moment.crash is.0, is.1)) goes;
  after = either_old name bytes old.folder new.crash leaves;
  ok = ok_of_err r (LeavesFolder (replaced old.folder name bytes) new.crash) err;
}

pub replaces_staged : {E : Type 0} (r : Result (Unit {0}) E) (name bytes : List ℕ) (old between new : Outside) → between.folder ≡ insert old.folder new_tmp bytes → between.told ≡ old.told
    → GoesOn (IsOld old) (moments_of old) (moments_of between) → ReplacesSafely r name bytes between new → ReplacesSafely r name bytes old new
replaces_staged r name bytes old between new is told goes safely =
    let agrees : AgreesBut new_tmp old.folder between.folder = staged_agrees old.folder between.folder bytes is in
    let same : replaced between.folder name bytes ≡ replaced old.folder name bytes = ap (λ (f : Folder). insert (remove f new_tmp) name bytes) is ∙ ap (λ (f : Folder). insert f name bytes) (remove-insert old.folder new_tmp bytes) in
    record {
      at_each = goes_more (IsEither name bytes old) (moments_of old) (moments_of between) (moments_of new)
          (goes_weaker (IsOld old) (IsEither name bytes old) (moments_of old) (moments_of between) (λ moment is. (either_old name bytes old.folder moment.crash is.0, is.1)) goes)
          (goes_weaker (IsEither name bytes between) (IsEither name bytes old) (moments_of between) (moments_of new)
          (λ moment is. (either_same name bytes old.folder between.folder moment.crash agrees is.0, is.1 ∙ told)) safely.at_each);
      after = either_same name bytes old.folder between.folder new.crash agrees safely.after;
      ok = ok_same r (LeavesFolder (replaced between.folder name bytes) new.crash) (LeavesFolder (replaced old.folder name bytes) new.crash)
          (λ leaves. subst (λ (f : Folder). LeavesFolder f new.crash) same leaves) safely.ok;
    }

-- a folder with the temporary file, for what comes next
pub leaves_staged_folder : (folder other : Folder) (bytes : List ℕ) (state : CrashState) → other ≡ insert folder new_tmp bytes → LeavesFolder folder state → LeavesFolder other state
leaves_staged_folder folder other bytes state is leaves =
    leaves_same other folder state (λ file apart. sym (staged_agrees folder other bytes is file apart)) leaves

-- what reads after a file was written whole, under the name of the temporary file
pub reads_whole : (old new : Folder) (name bytes : List ℕ) → name ≡ new_tmp → new ≡ insert old name bytes → get new new_tmp ≡ Some bytes
reads_whole old new name bytes same is = ap (λ (f : Folder). get f new_tmp) (is ∙ ap (λ (n : List ℕ). insert old n bytes) same) ∙ get-insert_same old new_tmp bytes

pub settles_named : {E : Type 0} (r : Result (Unit {0}) E) (name : List ℕ) (old new : Outside) → name ≡ new_tmp → SettlesCrash r (synced name old.crash) old new → IsHonest new
    → Changes r (synced new_tmp old.crash) old.crash new.crash
settles_named r name old new same settles told = subst (λ (n : List ℕ). Changes r (synced n old.crash) old.crash new.crash) same (settles told)

pub named_rename : {E : Type 0} (r : Result (Unit {0}) E) (from name : List ℕ) (old new : Outside) → from ≡ new_tmp → ChangesCrash r (renamed from name old.crash) old new → ChangesCrash r (renamed new_tmp name old.crash) old new
named_rename r from name old new same change = subst (λ (n : List ℕ). ChangesCrash r (renamed n name old.crash) old new) same change
