-- What making or moving a label does.
use Rattle.std.proofs.Common.{◌≡◌, ◌≢◌, ◌⊎◌, ℕ, Bool, true, false, List, Option, Some, None, IfOk, IfErr, IfSome, IsTrue, Result, Ok, Err, MatchResult, inl, inr, refl, sym, ap, ◌∙◌, subst, true≢false}
use Rattle.std.specs.Prelude.{MatchOption}
use Rattle.std.specs.Option.{is_some}
use Rattle.std.specs.FinMap.{contains_key, get, insert, remove}
use Rattle.ts_labels.specs.LabelFile.{label_text}
use Rattle.ts_labels.specs.Labels.{Labels}
use Rattle.ts_labels.specs.Moves.{made_label, moved_label}
use Rattle.ts_labels.specs.declared.label.Label.{Label}
use Rattle.ts_labels.specs.declared.label_error.LabelError.{LabelError}
use Rattle.ts_model.specs.History.{IsWellKept}
use Rattle.ts_model.specs.Names.{IsLabelName}
use Rattle.ts_plain.specs.declared.write.PlainLayer.{PlainLayer}
use Rattle.ts_plain.specs.History.{history_of}
use Rattle.ts_replace.specs.Names.{layer_name, rollup_name, label_file_name}
use Rattle.ts_replace.specs.Replaced.{new_tmp, replaced}
use Rattle.ts_site.specs.Faults.{CountsFault, is_err_and}
use Rattle.ts_site.specs.Folder.{Folder}
use Rattle.ts_replace.specs.CrashSafe.{LeavesFolder as CrashLeaves, ReplacesCrash}
use Rattle.ts_site.specs.Outside.{Falls, IsHonest, Outside}
use Rattle.ts_store.specs.Safe.{ChangesSafely, change_result}
use Rattle.ts_script.specs.declared.reply.Reply.TheVariants.{LabelIs}
use Rattle.ts_store.proofs.PrefixLaws.{reply_is_longer}
use Rattle.ts_store.proofs.SafeLaws.{one_file_changed, safe_change}
use Rattle.ts_site.proofs.FolderLemmas.{get-insert_same, get-insert_other, get-remove_other, is_same, is_same-itself, same_name}
use Rattle.ts_script.specs.Replies.{refusal_text}
use Rattle.ts_script.specs.declared.command.LayerRef.{LayerRef}
use Rattle.ts_script.specs.declared.command.Command.TheVariants.{LabelNew, LabelSet}
use Rattle.ts_script.specs.declared.reply.Refusal.TheVariants.{NoLabel}
use Rattle.ts_store.specs.declared.stop.Stop.{Stop}
use Rattle.ts_store.specs.declared.stop.Stop.TheVariants.{DiskFault, OutputFault}
use Rattle.ts_store.specs.declared.stop.Kind.{Kind}
use Rattle.ts_store.specs.declared.stop.Kind.TheVariants.{Done}
use Rattle.ts_store.specs.Cursors.{Cursors}
use Rattle.ts_store.specs.Does.{Answers, Does}
use Rattle.ts_store.specs.FolderSays.{FolderSays, IsFileOf}
use Rattle.ts_store.specs.Leaves.{Follows, LeavesTold}
use Rattle.ts_store.specs.Named.{AreLabelsOf, IsLabelOf}
use Rattle.ts_store.specs.Publishes.{LeavesReplaced}
use Rattle.ts_store.specs.Puts.{label_line, puts, refusal_of, with_label}
use Rattle.ts_store.specs.Resolve.{find_label, find_target}
use Rattle.ts_store.specs.State.{State}
use Rattle.ts_store.specs.Step.{step_of}
use Rattle.ts_store.specs.Stepped.{at_found}
use Rattle.ts_store.specs.Stops.{is_disk_fault, is_output_fault, is_site_fault, kind_of}
use Rattle.ts_store.specs.Store.{IsSound, state_of}
use Rattle.ts_store.proofs.AnswerLaws.{does_answer, does_found, does_refused, output_alone}
use Rattle.ts_store.proofs.ChangeLaws.{folder_after, says_after, stop_after}
use Rattle.ts_store.proofs.LabelLaws.{found_some, get_put-other, get_put-same, made_is, made_new, made_other, moved_is, moved_other, named_put}
use Rattle.ts_store.proofs.NameLaws.{label_file_name-tells, layer_is_not_new, rollup_is_not_label, rollup_is_not_new, label_is_not_layer, label_is_not_new}

-- ---- the folder

module _ (before : State) (name : List ℕ) (label : Label) (is : IsLabelOf before.history name label) (folder : Folder) (says : FolderSays folder before) where
  abbrev changed : Folder
  changed = replaced folder (label_file_name name) (label_text label)

  other_file : (file : List ℕ) → file ≢ label_file_name name → file ≢ new_tmp → get changed file ≡ get folder file
  other_file file a b = get-insert_other (remove folder new_tmp) (label_file_name name) (label_text label) file a ∙ get-remove_other folder new_tmp file b

  -- what the file of a name has to be, by what stands there
  abbrev Tells : List ℕ → Option Label → Option (List ℕ) → Type 0
  Tells other found at = MatchOption at (found ≡ None) (λ bytes. (l : Label) × (found ≡ Some l) × (bytes ≡ label_text l))

  labels_after : (other : List ℕ) (b : Bool) → IsLabelName other → is_same other name ≡ b → Tells other (get (insert before.labels name label) other) (get changed (label_file_name other))
  labels_after other true named e =
      let same : other ≡ name = same_name other name e in
      subst (λ (n : List ℕ). Tells n (get (insert before.labels name label) n) (get changed (label_file_name n))) (sym same)
      (subst (Tells name (get (insert before.labels name label) name)) (sym (get-insert_same (remove folder new_tmp) (label_file_name name) (label_text label)))
      (label, get_put-same before.labels name label, refl))
  labels_after other false named e =
      let found : get (insert before.labels name label) other ≡ get before.labels other = get_put-other before.labels name label other e in
      let bytes : get changed (label_file_name other) ≡ get folder (label_file_name other) =
      other_file (label_file_name other) (λ same. true≢false (sym (ap (λ (n : List ℕ). is_same n name) (label_file_name-tells other name same) ∙ is_same-itself name) ∙ e)) (label_is_not_new other) in
      subst (λ (o : Option Label). Tells other o (get changed (label_file_name other))) (sym found) (subst (Tells other (get before.labels other)) (sym bytes) (says.labels other named))

  -- a folder that tells a state tells it with the label, once its file stands
  says_label : FolderSays changed (with_label before name label)
  says_label = record {
    kept = says.kept;
    named = named_put before.history before.labels name label says.named is;
    layers = λ k number.
        subst (λ (file : Option (List ℕ)). MatchOption file (get before.history k ≡ None) (IsFileOf before.history k))
        (sym (other_file (layer_name k) (λ e. label_is_not_layer name k (sym e)) (layer_is_not_new k))) (says.layers k number);
    rollups = λ k number. ap is_some (other_file (rollup_name k) (rollup_is_not_label k name) (rollup_is_not_new k)) ∙ says.rollups k number;
    labels = λ other named. labels_after other (is_same other name) named refl;
  }

-- ---- the step

module _ (before : State) (name : List ℕ) (label : Label) (is : IsLabelOf before.history name label) (other : get before.labels name ≡ Some label → ⊥) (after : State) (result : Result Kind Stop) (old new : Outside)
    (kept : IfOk result (λ kind. (kind ≡ Done) × (after ≡ with_label before name label)))
    (told : LeavesTold result (label_line name label) old.told new.told)
    (folder : IsHonest new → LeavesReplaced result (label_file_name name) (label_text label) old.folder new.folder)
    (why : IfErr result (λ stop. (stop ≡ DiskFault) ⊎ (stop ≡ OutputFault)))
    (disk : CountsFault (is_err_and is_disk_fault result) old.disk_faults new.disk_faults)
    (say : CountsFault (is_err_and is_output_fault result) old.say_faults new.say_faults)
    (failing : IsTrue (is_err_and is_site_fault result) → IsTrue new.failed_last)
    (telling : Falls old new)
    (crash : IsHonest new → ReplacesCrash (change_result result) (label_file_name name) (label_text label) old.crash new.crash)
    (safe : IsHonest new → CrashLeaves old.folder old.crash → ChangesSafely result (label_file_name name) (label_text label) (label_line name label) old new) where
  abbrev next : State
  next = with_label before name label

  state_after : (r : Result Kind Stop) → IfOk r (λ kind. (kind ≡ Done) × (after ≡ next)) → IfOk r (λ kind. (after ≡ next) × (kind ≡ kind_of false))
  state_after (Ok kind) h = (h.1, h.0)
  state_after (Err stop) h = tt

  follows : new.folder ≡ replaced old.folder (label_file_name name) (label_text label) → Follows before next old.folder new.folder
  follows put = inr (inr (record { name = name; label = label; differs = other; history = refl; labels = refl; folder = put }))

  says_put : FolderSays old.folder before → new.folder ≡ replaced old.folder (label_file_name name) (label_text label) → FolderSays new.folder next
  says_put says put = subst (λ (f : Folder). FolderSays f next) (sym put) (says_label before name label is old.folder says)

  pub does_put : Does before (puts before name (Ok label)) result after old new
  does_put = record {
    state = state_after result kept;
    told = told;
    folder = λ tells. folder_after before next (label_file_name name) (label_text label) old.folder new.folder follows result why (folder tells);
    tells_state = λ tells says. says_after before next (label_file_name name) (label_text label) old.folder new.folder says (says_put says) result why (folder tells);
    refused = λ no. absurd (true≢false (sym no));
    why = stop_after result why;
    disk = disk;
    say = say;
    last = failing;
    telling = telling;
    crash = λ honest. inr (label_file_name name, label_text label, crash honest);
    one_file = one_file_changed (label_file_name name) (label_text label) (label_line name label) result old new safe;
    safe = λ honest at.
        safe_change before next (label_file_name name) (label_text label) (label_line name label) result old new (reply_is_longer (LabelIs name label.version label.layer))
        (λ says. says_label before name label is old.folder says) (folder honest) (safe honest at.leaves) at;
  }

-- ---- the labels in memory

-- what making or moving a label leaves of the labels, by how it was answered
abbrev pub PutOrNot : Result Kind Stop → List ℕ → Label → Labels → Labels → Type 0
PutOrNot result name label labels after = MatchResult result (λ kind. (kind ≡ Done) × (after ≡ insert labels name label)) (λ _. (after ≡ insert labels name label) ⊎ (after ≡ labels))

module _ (layers : List PlainLayer) (labels : Labels) (cursors : Cursors) (last : Option ℕ) (state : State) (view_is : state_of layers labels cursors last ≡ state) (sound : IsSound layers labels last) (name : List ℕ) (label : Label) (after : Labels) where
  sound_put : IsLabelOf (history_of layers) name label → after ≡ insert labels name label → IsSound layers after last
  sound_put is put = record {
    history = sound.history;
    named = subst (AreLabelsOf (history_of layers)) (sym put) (named_put (history_of layers) labels name label sound.named is);
    newest = sound.newest;
  }

  sound_either : (result : Result Kind Stop) → IsLabelOf (history_of layers) name label → PutOrNot result name label labels after → IsSound layers after last
  sound_either (Ok kind) is h = sound_put is h.1
  sound_either (Err stop) is (inl put) = sound_put is put
  sound_either (Err stop) is (inr same) = subst (λ (ls : Labels). IsSound layers ls last) (sym same) sound

  pub sound_after : (result : Result Kind Stop) → IsLabelOf state.history name label → PutOrNot result name label labels after → IsSound layers after last
  sound_after result is put = sound_either result (subst (λ (s : State). IsLabelOf s.history name label) (sym view_is) is) put

  kept_inside : (result : Result Kind Stop) → PutOrNot result name label labels after → IfOk result (λ kind. (kind ≡ Done) × (state_of layers after cursors last ≡ with_label (state_of layers labels cursors last) name label))
  kept_inside (Ok kind) h = (h.0, λ i. state_of layers (h.1 i) cursors last)
  kept_inside (Err stop) h = tt

  pub kept_after : (result : Result Kind Stop) → PutOrNot result name label labels after → IfOk result (λ kind. (kind ≡ Done) × (state_of layers after cursors last ≡ with_label state name label))
  kept_after result put = subst (λ (s : State). IfOk result (λ kind. (kind ≡ Done) × (state_of layers after cursors last ≡ with_label s name label))) view_is (kept_inside result put)

-- ---- a label that is not made

pub does_not_make : (state : State) (name : List ℕ) (error : LabelError) (result : Result Kind Stop) (old new : Outside) → made_label (get state.labels name) ≡ Err error → IfErr result (λ stop. stop ≡ OutputFault)
    → Answers (refusal_text (refusal_of name error)) true result old new → Does state (step_of state (LabelNew name)) result state old new
does_not_make state name error result old new is why answers =
    subst (λ (r : Result Label LabelError). Does state (puts state name r) result state old new) (sym is) (does_refused state (refusal_of name error) result old new why answers)

-- ---- a label that is made

module _ (layers : List PlainLayer) (labels : Labels) (cursors : Cursors) (last : Option ℕ) (state : State) (view_is : state_of layers labels cursors last ≡ state) (sound : IsSound layers labels last) (name : List ℕ) (named : IsLabelName name)
    (label : Label) (made : made_label (get labels name) ≡ Ok label) (after : Labels) (result : Result Kind Stop) (put : PutOrNot result name label labels after) where
  made_label_is : IsLabelOf state.history name label
  made_label_is = subst (IsLabelOf state.history name) (made_new (get labels name) label made) (made_is state.history name named)

  pub sound_made : IsSound layers after last
  sound_made = sound_after layers labels cursors last state view_is sound name label after result made_label_is put

  pub does_made : (old new : Outside)
      → LeavesTold result (label_line name label) old.told new.told
      → (IsHonest new → LeavesReplaced result (label_file_name name) (label_text label) old.folder new.folder)
      → IfErr result (λ stop. (stop ≡ DiskFault) ⊎ (stop ≡ OutputFault))
      → CountsFault (is_err_and is_disk_fault result) old.disk_faults new.disk_faults → CountsFault (is_err_and is_output_fault result) old.say_faults new.say_faults → (IsTrue (is_err_and is_site_fault result) → IsTrue new.failed_last) → Falls old new
      → (IsHonest new → ReplacesCrash (change_result result) (label_file_name name) (label_text label) old.crash new.crash)
      → (IsHonest new → CrashLeaves old.folder old.crash → ChangesSafely result (label_file_name name) (label_text label) (label_line name label) old new)
      → Does state (step_of state (LabelNew name)) result (state_of layers after cursors last) old new
  does_made old new told folder why disk say failing telling crash safe =
      subst (λ (r : Result Label LabelError). Does state (puts state name r) result (state_of layers after cursors last) old new)
      (sym (ap (λ (s : State). made_label (get s.labels name)) (sym view_is) ∙ made))
      (does_put state name label made_label_is (λ f. made_other (get labels name) label made (ap (λ (s : State). get s.labels name) view_is ∙ f)) (state_of layers after cursors last) result old new (kept_after layers labels cursors last state view_is sound name label after result put) told folder why disk say failing telling crash safe)

-- ---- a label that is moved

module _ (layers : List PlainLayer) (labels : Labels) (cursors : Cursors) (last : Option ℕ) (state : State) (view_is : state_of layers labels cursors last ≡ state) (sound : IsSound layers labels last) (name : List ℕ) (version : ℕ) (to : Option LayerRef)
    (known : Label) (layer : Option ℕ) (found : find_label state name ≡ Ok known) (target : find_target state to ≡ Ok layer) where
  moved_from : (r : Result Label LabelError) → moved_label (get labels name) version layer ≡ r → moved_label (Some known) version layer ≡ r
  moved_from r e =
      let is : get labels name ≡ Some known = ap (λ (s : State). get s.labels name) view_is ∙ found_some (NoLabel name) (get state.labels name) known found in
      ap (λ (o : Option Label). moved_label o version layer) (sym is) ∙ e

  step_moved : (r : Result Label LabelError) (result : Result Kind Stop) (after : State) (old new : Outside) → moved_label (get labels name) version layer ≡ r → Does state (puts state name r) result after old new
      → Does state (step_of state (LabelSet name version to)) result after old new
  step_moved r result after old new e done =
      does_found result old new state (find_label state name) (λ label. at_found state (find_target state to) (λ l. puts state name (moved_label (Some label) version l))) after known found
      (does_found result old new state (find_target state to) (λ l. puts state name (moved_label (Some known) version l)) after layer target
      (subst (λ (x : Result Label LabelError). Does state (puts state name x) result after old new) (sym (moved_from r e)) done))

  pub does_not_move : (error : LabelError) (result : Result Kind Stop) (old new : Outside) → moved_label (get labels name) version layer ≡ Err error → IfErr result (λ stop. stop ≡ OutputFault)
      → Answers (refusal_text (refusal_of name error)) true result old new → Does state (step_of state (LabelSet name version to)) result state old new
  does_not_move error result old new e why answers =
      step_moved (Err error) result state old new e (does_answer state (refusal_text (refusal_of name error)) true result old new (output_alone result why) answers)

  module _ (is : IsLabelOf state.history name known) (stands : IfSome layer (λ k. IsTrue (contains_key state.history k))) (label : Label) (moved : moved_label (get labels name) version layer ≡ Ok label)
      (after : Labels) (result : Result Kind Stop) (put : PutOrNot result name label labels after) where
    moved_label_is : IsLabelOf state.history name label
    moved_label_is = moved_is state.history (subst (λ (s : State). IsWellKept s.history) view_is sound.history.well_kept) name known is version layer stands label (moved_from (Ok label) moved)

    other_moved : get state.labels name ≡ Some label → ⊥
    other_moved f =
        let is_known : get state.labels name ≡ Some known = found_some (NoLabel name) (get state.labels name) known found in
        let same : known ≡ label = cc in
        moved_other known version layer label (moved_from (Ok label) moved) same

    pub sound_moved : IsSound layers after last
    sound_moved = sound_after layers labels cursors last state view_is sound name label after result moved_label_is put

    pub does_move : (old new : Outside)
        → LeavesTold result (label_line name label) old.told new.told
        → (IsHonest new → LeavesReplaced result (label_file_name name) (label_text label) old.folder new.folder)
        → IfErr result (λ stop. (stop ≡ DiskFault) ⊎ (stop ≡ OutputFault))
        → CountsFault (is_err_and is_disk_fault result) old.disk_faults new.disk_faults → CountsFault (is_err_and is_output_fault result) old.say_faults new.say_faults → (IsTrue (is_err_and is_site_fault result) → IsTrue new.failed_last) → Falls old new
        → (IsHonest new → ReplacesCrash (change_result result) (label_file_name name) (label_text label) old.crash new.crash)
        → (IsHonest new → CrashLeaves old.folder old.crash → ChangesSafely result (label_file_name name) (label_text label) (label_line name label) old new)
        → Does state (step_of state (LabelSet name version to)) result (state_of layers after cursors last) old new
    does_move old new told folder why disk say failing telling crash safe =
        step_moved (Ok label) result (state_of layers after cursors last) old new moved
        (does_put state name label moved_label_is other_moved (state_of layers after cursors last) result old new (kept_after layers labels cursors last state view_is sound name label after result put) told folder why disk say failing telling crash safe)
