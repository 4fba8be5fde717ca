-- What a crash leaves of a step, of a change of one file that is told, and of the opening.
use Rattle.std.proofs.Common.{◌≡◌, ◌⊎◌, ℕ, ◌<◌, ◌≤◌, Bool, true, false, true≢false, List, [], ◌++◌, length, take, Option, None, IsTrue, Result, Ok, Err, is_err, inl, inr, sym, ap, ◌∙◌, subst, arith, append-nil, append_assoc, length-append}
use Rattle.std.specs.Prelude.{MatchOption, IfErr, OnOk}
use Rattle.std.proofs.lemmas.List.{append_cancel_left, length-take, take-append-le, take-take, take_all}
use Rattle.std.specs.Option.{is_some}
use Rattle.std.specs.FinMap.{get}
use Rattle.ts_replace.specs.CrashSafe.{AgreesBut, LeavesFolder, LeavesEither, ReplacesCrash, ReplacesSafely}
use Rattle.ts_replace.specs.Names.{layer_name, rollup_name, label_file_name}
use Rattle.ts_replace.specs.Replaced.{new_tmp, replaced}
use Rattle.ts_site.specs.Crash.{CrashState, AddsNone, EachImage, IsImage, is_loose, settled}
use Rattle.ts_site.specs.Folder.{Extends, Folder}
use Rattle.ts_site.specs.Moments.{Moment, IsChangedOrNot}
use Rattle.ts_site.specs.Outside.{Outside, IsHonest, AddsNoImage, OnlyReads, OnlySays, moments_of}
use Rattle.ts_site.proofs.CrashLemmas.{only_one}
use Rattle.ts_site.proofs.GoesLemmas.{goes_more, goes_none, goes_weaker}
use Rattle.ts_store.specs.declared.stop.Stop.{Stop}
use Rattle.ts_store.specs.declared.stop.Stop.TheVariants.{Usage, Damaged, DiskFault, InputFault, OutputFault, InputLimit, Memory}
use Rattle.ts_store.specs.declared.stop.Kind.{Kind}
use Rattle.ts_store.specs.Does.{Answers}
use Rattle.ts_store.specs.FolderSays.{FolderSays, IsFileOf, IsLabelFileOf}
use Rattle.ts_store.specs.Leaves.{LeavesTold}
use Rattle.ts_store.specs.Publishes.{LeavesReplaced}
use Rattle.ts_store.specs.Safe.{ChangesOneFile, ChangesSafely, IsChangeMoment, IsSafe, IsSettledAt, IsStepMoment, LeavesSettled, SettlesAll, StopsSettled, change_result}
use Rattle.ts_store.specs.Stands.{AreCounted, Stands}
use Rattle.ts_store.specs.State.{State}
use Rattle.ts_store.specs.Stepped.{Stepped}
use Rattle.ts_store.proofs.NameLaws.{layer_is_not_new, rollup_is_not_new, label_is_not_new}

-- ---- the temporary file says nothing

pub agrees_says : (folder image : Folder) (state : State) → AgreesBut new_tmp folder image → FolderSays folder state → FolderSays image state
agrees_says folder image state agrees says = record {
  kept = says.kept;
  named = says.named;
  layers = λ k is. subst (λ (file : Option (List ℕ)). MatchOption file (get state.history k ≡ None) (IsFileOf state.history k)) (sym (agrees (layer_name k) (layer_is_not_new k))) (says.layers k is);
  rollups = λ k is. ap is_some (agrees (rollup_name k) (rollup_is_not_new k)) ∙ says.rollups k is;
  labels = λ name is.
      subst (λ (file : Option (List ℕ)). MatchOption file (get state.labels name ≡ None) (IsLabelFileOf state.labels name)) (sym (agrees (label_file_name name) (label_is_not_new name))) (says.labels name is);
}

pub agrees_stands : (folder image : Folder) (state : State) → AgreesBut new_tmp folder image → Stands folder state → Stands image state
agrees_stands folder image state agrees stands = record { says = agrees_says folder image state agrees stands.says; counted = stands.counted }

-- ---- what was told by a moment

pub on_ok : {T E A : Type 0} (result : Result T E) → A → OnOk result A
on_ok (Ok value) a = a
on_ok (Err error) a = tt

pub told_front : (result : Result Kind Stop) (text old new : List ℕ) → LeavesTold result text old new → (n : ℕ) × (new ≡ old ++ take n text)
told_front (Ok kind) text old new told = (length text, told ∙ ap (λ (l : List ℕ). old ++ l) (sym (take_all (length text) text (omega arith))))
told_front (Err OutputFault) text old new told = told
told_front (Err Memory) text old new (n, short, lines, told) = (n, told)
told_front (Err Usage) text old new told = (0, told ∙ sym (append-nil old))
told_front (Err (Damaged name)) text old new told = (0, told ∙ sym (append-nil old))
told_front (Err DiskFault) text old new told = (0, told ∙ sym (append-nil old))
told_front (Err InputFault) text old new told = (0, told ∙ sym (append-nil old))
told_front (Err InputLimit) text old new told = (0, told ∙ sym (append-nil old))

front_of : (n : ℕ) (text front rest : List ℕ) → front ++ rest ≡ take n text → front ≡ take (length front) text
front_of n text front rest e =
    let within : length front ≤ n = omega (arith, length-append front rest, ap length e, length-take n text) in
    sym (take_all (length front) front (omega arith)) ∙ sym (take-append-le (length front) front rest (omega arith)) ∙ ap (take (length front)) e ∙ take-take (length front) n text within

module _ (result : Result Kind Stop) (text old new : List ℕ) (told : LeavesTold result text old new) where
  -- what was told between is a front of the reply
  pub said_front : (middle : List ℕ) → Extends old middle → Extends middle new → (n : ℕ) × (middle ≡ old ++ take n text)
  said_front middle (one, from) (two, to) =
      let (n, whole) = told_front result text old new told in
      let both : old ++ (one ++ two) ≡ old ++ take n text = sym (append_assoc old one two) ∙ ap (λ (l : List ℕ). l ++ two) (sym from) ∙ sym to ∙ whole in
      (length one, from ∙ ap (λ (l : List ℕ). old ++ l) (front_of n text one two (append_cancel_left old (one ++ two) (take n text) both)))

-- ---- a step that only says

leaves_still : (folder folder_after : Folder) (crash crash_after : CrashState) → folder_after ≡ folder → crash_after ≡ crash → LeavesFolder folder crash → LeavesFolder folder_after crash_after
leaves_still folder folder_after crash crash_after same still leaves =
    subst (λ (f : Folder). LeavesFolder f crash_after) (sym same) (subst (λ (c : CrashState). LeavesFolder folder c) (sym still) leaves)

module _ (before after : State) (text : List ℕ) (refused : Bool) (result : Result Kind Stop) (old new : Outside) (answers : Answers text refused result old new)
    (becomes : (image : Folder) → FolderSays image before → FolderSays image after) (honest : IsHonest new) (at : IsSettledAt FolderSays before old) where
  abbrev stepped : Stepped
  stepped = record { state = after; told = text; refused = refused }

  said_moment : (moment : Moment) → (moment.crash ≡ old.crash) × Extends old.told moment.told × Extends moment.told new.told → IsStepMoment FolderSays before stepped old.told moment
  said_moment moment (same, from, to) =
      let (count, front) = said_front result text old.told new.told answers.told moment.told from to in
      let says : EachImage (λ image. FolderSays image before) moment.crash =
      λ image is. agrees_says old.folder image before (at.leaves image (subst (λ (c : CrashState). IsImage c image) same is)) at.is in
      record {
        count = count;
        front = front;
        either = λ image is. inl (says image is);
        whole = λ _ image is. becomes image (says image is);
      }

  pub safe_said : IsSafe FolderSays before stepped result old new
  safe_said = record {
    moments =
        goes_weaker (λ moment. (moment.crash ≡ old.crash) × Extends old.told moment.told × Extends moment.told new.told) (IsStepMoment FolderSays before stepped old.told)
        (moments_of old) (moments_of new) said_moment (answers.says.images.moments honest);
    ok = on_ok result (leaves_still old.folder new.folder old.crash new.crash answers.says.disk.same_folder (answers.says.images.now honest) at.leaves);
  }

-- ---- a step that does nothing

pub safe_nothing : (before : State) (stepped : Stepped) (stop : Stop) (outside : Outside) → IsSafe FolderSays before stepped (Err stop) outside outside
safe_nothing before stepped stop outside = record {
  moments = goes_none (IsStepMoment FolderSays before stepped outside.told) (moments_of outside);
  ok = tt;
}

-- ---- a step that changes a file

module _ (before next : State) (name bytes text : List ℕ) (result : Result Kind Stop) (old new : Outside) (longer : 0 < length text)
    (becomes : FolderSays old.folder before → FolderSays (replaced old.folder name bytes) next) (folder : LeavesReplaced result name bytes old.folder new.folder)
    (changes : ChangesSafely result name bytes text old new) (at : IsSettledAt FolderSays before old) where
  abbrev makes : Stepped
  makes = record { state = next; told = text; refused = false }

  change_moment : (moment : Moment) → IsChangeMoment name bytes text old moment → IsStepMoment FolderSays before makes old.told moment
  change_moment moment is = record {
    count = is.count;
    front = is.front;
    either = λ image here. by_side image (is.either image here);
    whole = λ all image here. agrees_says (replaced old.folder name bytes) image next (is.begun (omega (arith, longer, all)) image here) (becomes at.is);
  }
    where
      by_side : (image : Folder) → AgreesBut new_tmp old.folder image ⊎ AgreesBut new_tmp (replaced old.folder name bytes) image → FolderSays image before ⊎ FolderSays image next
      by_side image (inl same) = inl (agrees_says old.folder image before same at.is)
      by_side image (inr changed) = inr (agrees_says (replaced old.folder name bytes) image next changed (becomes at.is))

  ok_change : (r : Result Kind Stop) → LeavesReplaced r name bytes old.folder new.folder → OnOk r (LeavesFolder (replaced old.folder name bytes) new.crash) → OnOk r (LeavesFolder new.folder new.crash)
  ok_change (Ok kind) put leaves = subst (λ (f : Folder). LeavesFolder f new.crash) (sym put) leaves
  ok_change (Err stop) put leaves = tt

  pub safe_change : IsSafe FolderSays before makes result old new
  safe_change = record {
    moments = goes_weaker (IsChangeMoment name bytes text old) (IsStepMoment FolderSays before makes old.told) (moments_of old) (moments_of new) change_moment changes.moments;
    ok = ok_change result folder changes.ok;
  }

-- ---- a change of a file that is told

module _ (name bytes text : List ℕ) (old middle : Outside) {E : Type 0} (given : Result (Unit {0}) E) (safely : ReplacesSafely given name bytes old middle) where
  replaced_moment : (moment : Moment) → LeavesEither name bytes old.folder moment.crash × (moment.told ≡ old.told) → IsChangeMoment name bytes text old moment
  replaced_moment moment (either, same) = record {
    count = 0;
    front = same ∙ sym (append-nil old.told);
    either = either;
    begun = λ begun. absurd (omega (arith, begun));
  }

  pub change_failed : (stop : Stop) → ChangesSafely (Err stop) name bytes text old middle
  change_failed stop = record {
    moments =
        goes_weaker (λ moment. LeavesEither name bytes old.folder moment.crash × (moment.told ≡ old.told)) (IsChangeMoment name bytes text old) (moments_of old) (moments_of middle) replaced_moment safely.at_each;
    ok = tt;
  }

  module _ (done : is_err given ≡ false) (silent : middle.told ≡ old.told) (result : Result Kind Stop) (new : Outside) (answers : Answers text false result middle new) (honest : IsHonest new) where
    settled_then : LeavesFolder (replaced old.folder name bytes) middle.crash
    settled_then = by_result given done safely.ok
      where
        by_result : (r : Result (Unit {0}) E) → is_err r ≡ false → OnOk r (LeavesFolder (replaced old.folder name bytes) middle.crash) → LeavesFolder (replaced old.folder name bytes) middle.crash
        by_result (Ok value) fine leaves = leaves
        by_result (Err error) fine leaves = absurd (true≢false fine)

    told_moment : (moment : Moment) → (moment.crash ≡ middle.crash) × Extends middle.told moment.told × Extends moment.told new.told → IsChangeMoment name bytes text old moment
    told_moment moment (same, from, to) =
        let (count, front) = said_front result text middle.told new.told answers.told moment.told from to in
        let leaves : LeavesFolder (replaced old.folder name bytes) moment.crash = subst (λ (c : CrashState). LeavesFolder (replaced old.folder name bytes) c) (sym same) settled_then in
        record {
          count = count;
          front = front ∙ ap (λ (l : List ℕ). l ++ take count text) silent;
          either = λ image is. inr (leaves image is);
          begun = λ _. leaves;
        }

    pub change_told : ChangesSafely result name bytes text old new
    change_told = record {
      moments =
          goes_more (IsChangeMoment name bytes text old) (moments_of old) (moments_of middle) (moments_of new)
          (goes_weaker (λ moment. LeavesEither name bytes old.folder moment.crash × (moment.told ≡ old.told)) (IsChangeMoment name bytes text old) (moments_of old) (moments_of middle) replaced_moment safely.at_each)
          (goes_weaker (λ moment. (moment.crash ≡ middle.crash) × Extends middle.told moment.told × Extends moment.told new.told) (IsChangeMoment name bytes text old) (moments_of middle) (moments_of new) told_moment
          (answers.says.images.moments honest));
      ok = on_ok result (subst (λ (c : CrashState). LeavesFolder (replaced old.folder name bytes) c) (sym (answers.says.images.now honest)) settled_then);
    }

-- ---- a folder that stands for the state

module _ (before : State) (stepped : Stepped) (result : Result Kind Stop) (old new : Outside) (counted : AreCounted before.history) (counted_then : AreCounted stepped.state.history) where
  stands_moment : (moment : Moment) → IsStepMoment FolderSays before stepped old.told moment → IsStepMoment Stands before stepped old.told moment
  stands_moment moment is = record {
    count = is.count;
    front = is.front;
    either = λ image here. by_side image (is.either image here);
    whole = λ all image here. record { says = is.whole all image here; counted = counted_then };
  }
    where
      by_side : (image : Folder) → FolderSays image before ⊎ FolderSays image stepped.state → Stands image before ⊎ Stands image stepped.state
      by_side image (inl says) = inl (record { says = says; counted = counted })
      by_side image (inr says) = inr (record { says = says; counted = counted_then })

  pub safe_stands : IsSafe FolderSays before stepped result old new → IsSafe Stands before stepped result old new
  safe_stands safe = record {
    moments = goes_weaker (IsStepMoment FolderSays before stepped old.told) (IsStepMoment Stands before stepped old.told) (moments_of old) (moments_of new) stands_moment safe.moments;
    ok = safe.ok;
  }

-- ---- the opening

-- a crash of a settled folder leaves that folder
pub settled_leaves : (folder : Folder) → LeavesFolder folder (settled folder)
settled_leaves folder image (names, stands, each) file apart = by_side (each file)
  where
    by_side : IsTrue (is_loose (settled folder) file) ⊎ (get image file ≡ get names file) → get image file ≡ get folder file
    by_side (inl loose) = absurd (true≢false (sym loose))
    by_side (inr same) = same ∙ ap (λ (f : Folder). get f file) (only_one folder names stands)

pub settled_only : (folder : Folder) (crash : CrashState) → AddsNone crash (settled folder) → LeavesFolder folder crash
settled_only folder crash adds = λ image is. settled_leaves folder image (adds image is)

-- a folder that was settled reads as it did
pub settled_reads : (old middle : Outside) → OnlyReads false old middle → (IsHonest middle → middle.crash ≡ settled old.folder) → IsHonest middle → middle.crash ≡ settled middle.folder
settled_reads old middle reads settles honest =
    settles honest ∙ ap settled (sym (reads.folder honest))

-- a folder that was settled, and then only read
module _ (old middle new : Outside) (before : OnlyReads false old middle) (settles : IsHonest middle → middle.crash ≡ settled old.folder) (since : AddsNoImage middle new) where
  settles_all : IsHonest new → SettlesAll old new
  settles_all told = record { middle = middle; settles = settles (since.telling told); before = before; since = since }

  stops_settled : (stop : Stop) → StopsSettled stop old new
  stops_settled DiskFault = λ told. inr (settles_all told)
  stops_settled Usage = settles_all
  stops_settled (Damaged name) = settles_all
  stops_settled InputFault = settles_all
  stops_settled OutputFault = settles_all
  stops_settled InputLimit = settles_all
  stops_settled Memory = settles_all

  pub opening_settles : {T : Type 0} (result : Result T Stop) → LeavesSettled result old new
  opening_settles (Ok opened) = settles_all
  opening_settles (Err stop) = stops_settled stop

-- a barrier that failed, and settled or not
pub opening_fails : (stop : Stop) (old new : Outside) → stop ≡ DiskFault → (IsHonest new → IsChangedOrNot (settled old.folder) old.crash new.crash) → StopsSettled stop old new
opening_fails stop old new is same = subst (λ (s : Stop). StopsSettled s old new) (sym is) (λ told. inl (same told))

-- ---- what a crash leaves of a change of one file that is told

module _ {E : Type 0} (name bytes : List ℕ) (given : Result (Unit {0}) E) where
  pub crash_failed : (old new : CrashState) → is_err given ≡ true → ReplacesCrash given name bytes old new → ReplacesCrash {E = Stop} (Err DiskFault) name bytes old new
  crash_failed old new failed leaves = by_result given failed leaves
    where
      by_result : (r : Result (Unit {0}) E) → is_err r ≡ true → ReplacesCrash r name bytes old new → ReplacesCrash {E = Stop} (Err DiskFault) name bytes old new
      by_result (Ok value) failed leaves = absurd (true≢false (sym failed))
      by_result (Err error) failed leaves = leaves

  crash_done : (old middle new : CrashState) → is_err given ≡ false → ReplacesCrash given name bytes old middle → new ≡ middle → ReplacesCrash {E = Stop} (Ok tt) name bytes old new
  crash_done old middle new done leaves same = by_result given done leaves
    where
      by_result : (r : Result (Unit {0}) E) → is_err r ≡ false → ReplacesCrash r name bytes old middle → ReplacesCrash {E = Stop} (Ok tt) name bytes old new
      by_result (Ok value) done leaves = same ∙ leaves
      by_result (Err error) done leaves = absurd (true≢false done)

  pub crash_told : (old middle new : CrashState) → is_err given ≡ false → ReplacesCrash given name bytes old middle → new ≡ middle → (result : Result Kind Stop) → IfErr result (λ stop. stop ≡ OutputFault)
      → ReplacesCrash (change_result result) name bytes old new
  crash_told old middle new done leaves same (Ok kind) why = crash_done old middle new done leaves same
  crash_told old middle new done leaves same (Err stop) why =
      subst (λ (s : Stop). ReplacesCrash (change_result (Err s)) name bytes old new) (sym why) (crash_done old middle new done leaves same)

-- ---- one file

pub one_file_said : (fault : Bool) (old new : Outside) → OnlySays fault old new → ChangesOneFile old new
one_file_said fault old new says honest leaves = (
  new_tmp,
  [],
  goes_weaker (λ moment. (moment.crash ≡ old.crash) × Extends old.told moment.told × Extends moment.told new.told) (λ moment. LeavesEither new_tmp [] old.folder moment.crash) (moments_of old) (moments_of new)
      (λ moment still image is. inl (leaves image (subst (λ (c : CrashState). IsImage c image) still.0 is))) (says.images.moments honest),
)

pub one_file_changed : (name bytes text : List ℕ) (result : Result Kind Stop) (old new : Outside) → (IsHonest new → LeavesFolder old.folder old.crash → ChangesSafely result name bytes text old new) → ChangesOneFile old new
one_file_changed name bytes text result old new safely honest leaves = (
  name,
  bytes,
  goes_weaker (IsChangeMoment name bytes text old) (λ moment. LeavesEither name bytes old.folder moment.crash) (moments_of old) (moments_of new) (λ moment is. is.either) (safely honest leaves).moments,
)
