-- What making a layer does: where it is refused, where memory runs out, and where its file is given to the folder.
use Rattle.std.proofs.Common.{◌≡◌, ◌≢◌, ◌⊎◌, ℕ, ◌<◌, ◌≤◌, ◌^◌, Bool, true, false, ◌&&◌, cond, codes, nat_lt, List, [], ◌∷◌, ◌++◌, length, Option, Some, None, MatchOption, IfOk, IfErr, IfSome, IsTrue, Result, Ok, Err, MatchResult, inl, inr, refl, sym, ap, ◌∙◌, subst, true≢false, arith, append-nil, length-append}
use Rattle.std.proofs.lemmas.Bool.{le-ltb, lt-ltb}
use Rattle.std.specs.Bool.{if◌then◌else◌}
use Rattle.std.specs.Option.{is_some}
use Rattle.std.specs.Ordering.{nat_cmp, eq_by_cmp, is_eq}
use Rattle.std.specs.Cmp.{nat_cmp_total, Equal-is, tied_itself}
use Rattle.std.specs.FinMap.{get, remove, contains_key, get-insert, nat_cmp-IsAntisymmetric}
use Rattle.ts_labels.specs.Labels.{Labels}
use Rattle.ts_model.specs.History.{History, LayerRecord, IsWellKept}
use Rattle.ts_model.specs.LayerText.{layer_text}
use Rattle.ts_model.specs.Order.{triple_cmp, triple_cmp_total, triple_cmp-IsAntisymmetric}
use Rattle.ts_model.specs.Sets.{members, from_list}
use Rattle.ts_model.proofs.SetAlgebra.{members-from_rising}
use Rattle.ts_plain.specs.declared.write.PlainLayer.{PlainLayer}
use Rattle.ts_plain.specs.History.{AreHistory, history_of, record_of}
use Rattle.ts_plain.specs.PlainFile.{plain_file}
use Rattle.ts_replace.specs.Names.{IsLayerNumber, layer_name, rollup_name, label_file_name}
use Rattle.ts_replace.specs.Replaced.{new_tmp, replaced}
use Rattle.ts_script.specs.Replies.{line, reply_text, refusal_text}
use Rattle.ts_script.specs.declared.reply.Reply.TheVariants as reply
use Rattle.ts_script.specs.declared.reply.Refusal.TheVariants as refusal
use Rattle.ts_site.specs.Faults.{CountsFault, is_err_and}
use Rattle.ts_site.specs.Folder.{Folder}
use Rattle.ts_replace.specs.CrashSafe.{LeavesFolder as CrashLeaves, ReplacesCrash}
use Rattle.ts_site.specs.Outside.{Falls, IsHonest, Outside}
use Rattle.ts_site.proofs.GoesLemmas.{says_none}
use Rattle.ts_store.specs.Safe.{ChangesSafely, change_result}
use Rattle.ts_store.proofs.SafeLaws.{one_file_changed, one_file_said, safe_change, safe_nothing}
use Rattle.ts_site.proofs.FolderLemmas.{get-insert_same, get-insert_other, get-remove_other}
use Rattle.ts_store.specs.declared.stop.Stop.{Stop}
use Rattle.ts_store.specs.declared.stop.Stop.TheVariants.{DiskFault, OutputFault, Memory}
use Rattle.ts_store.specs.declared.stop.Kind.{Kind}
use Rattle.ts_store.specs.declared.stop.Kind.TheVariants.{Done}
use Rattle.ts_store.specs.Cursors.{Cursors}
use Rattle.ts_store.specs.Does.{Answers, Does}
use Rattle.ts_store.specs.FolderSays.{FolderSays, IsFileOf, IsLabelFileOf, IsLayerFile}
use Rattle.ts_store.specs.Leaves.{Follows, LeavesTold}
use Rattle.ts_store.specs.Named.{AreLabelsOf}
use Rattle.ts_store.specs.Publishes.{AddsLayerTo, KeepsLayers, LeavesReplaced}
use Rattle.ts_store.specs.State.{State}
use Rattle.ts_store.specs.Makes.{has_room, is_counted_at, makes, next_number, with_layer, with_newest}
use Rattle.ts_store.specs.Stepped.{Stepped, does, refuses}
use Rattle.ts_store.specs.Stops.{is_disk_fault, is_output_fault, is_site_fault, kind_of}
use Rattle.ts_store.specs.Store.{IsNextLayer, IsSound, state_of}
use Rattle.ts_store.proofs.AnswerLaws.{does_answer, output_alone}
use Rattle.ts_store.proofs.ChangeLaws.{folder_after, says_after, stop_after}
use Rattle.ts_store.proofs.LabelLaws.{named_grown}
use Rattle.ts_store.proofs.NameLaws.{layer_name-tells, layer_is_not_new, rollup_is_not_layer, rollup_is_not_new, label_is_not_layer, label_is_not_new}
use Rattle.ts_store.proofs.NextLaws.{history_of-next}

-- ---- where memory runs out

-- nothing is done and nothing said
pub does_nothing : (before : State) (stepped : Stepped) (after : State) (outside : Outside) → 0 < length stepped.told → Does before stepped (Err Memory) after outside outside
does_nothing before stepped after outside longer = record {
  state = tt;
  told = (0, longer, inl refl, sym (append-nil outside.told));
  folder = λ _. refl;
  tells_state = λ _ says. says;
  refused = λ _. says_none outside;
  why = tt;
  disk = refl;
  say = refl;
  last = λ fault. absurd (true≢false (sym fault));
  telling = λ honest. honest;
  crash = λ honest. inl refl;
  one_file = one_file_said false outside outside (says_none outside);
  safe = λ _ _. safe_nothing before stepped Memory outside;
}

longer_line : (text : List ℕ) → 0 < length (line text)
longer_line text = omega (arith, length-append text (10 ∷ []))

-- ---- where a layer is refused or made

abbrev made_or_full : State → LayerRecord → Bool → Stepped
made_or_full state layer room =
    if room
    then does (with_newest state layer) (reply_text (reply.Layer (next_number state.history)))
    else refuses state refusal.Full

pub makes_tells : (state : State) (layer : LayerRecord) → 0 < length (makes state layer).told
makes_tells state layer = either (has_room state.history layer)
  where
    either : (room : Bool) → 0 < length (made_or_full state layer room).told
    either true = longer_line (codes "layer " ++ layer_text (next_number state.history))
    either false = longer_line (codes "refused " ++ codes "full")

-- there is no room under a number that can't be had
pub makes_full : (state : State) (layer : LayerRecord) → 2 ^ 32 ≤ next_number state.history → makes state layer ≡ refuses state refusal.Full
makes_full state layer over =
    let none : nat_lt (next_number state.history) (2 ^ 32) ≡ false = le-ltb (next_number state.history) (2 ^ 32) over in
    ap (λ b. made_or_full state layer (b && is_counted_at (with_layer state.history layer) (next_number state.history))) none

and_false : (b : Bool) → (b && false) ≡ false
and_false true = refl
and_false false = refl

module _ (state : State) (layer : LayerRecord) (number : ℕ) (is : number ≡ next_number state.history) where
  counted_is : (b : Bool) → is_counted_at (with_layer state.history layer) number ≡ b → is_counted_at (with_layer state.history layer) (next_number state.history) ≡ b
  counted_is b counted = ap (is_counted_at (with_layer state.history layer)) (sym is) ∙ counted

  -- nor where a term or a predicate has no number
  pub makes_uncounted : is_counted_at (with_layer state.history layer) number ≡ false → makes state layer ≡ refuses state refusal.Full
  makes_uncounted counted =
      ap (λ b. made_or_full state layer (nat_lt (next_number state.history) (2 ^ 32) && b)) (counted_is false counted)
      ∙ ap (made_or_full state layer) (and_false (nat_lt (next_number state.history) (2 ^ 32)))

  pub makes_counted : number < 2 ^ 32 → is_counted_at (with_layer state.history layer) number ≡ true → makes state layer ≡ made_or_full state layer true
  makes_counted fits counted =
      let below : nat_lt (next_number state.history) (2 ^ 32) ≡ true = lt-ltb (next_number state.history) (2 ^ 32) (subst (λ n. n < 2 ^ 32) is fits) in
      ap (λ b. made_or_full state layer (b && is_counted_at (with_layer state.history layer) (next_number state.history))) below
      ∙ ap (made_or_full state layer) (counted_is true counted)

-- a refusal for want of room
pub does_full : (state : State) (stepped : Stepped) (result : Result Kind Stop) (old new : Outside) → stepped ≡ refuses state refusal.Full
    → IfErr result (λ stop. stop ≡ OutputFault) → Answers (refusal_text refusal.Full) true result old new → Does state stepped result state old new
does_full state stepped result old new is why answers =
    subst (λ (s : Stepped). Does state s result state old new) (sym is) (does_answer state (refusal_text refusal.Full) true result old new (output_alone result why) answers)

-- ---- the folder

module _ (state : State) (layer : LayerRecord) (cursors : Cursors) (last : Option ℕ) (file : List ℕ) (number : IsLayerNumber (next_number state.history)) (is_file : IsLayerFile (next_number state.history) layer file)
    (kept : IsWellKept (with_layer state.history layer)) where
  abbrev n : ℕ
  n = next_number state.history

  abbrev after : History
  after = with_layer state.history layer

  get-after : (k : ℕ) → get after k ≡ cond (eq_by_cmp nat_cmp k n) (Some layer) (get state.history k)
  get-after k = get-insert nat_cmp_total state.history n layer k

  itself : eq_by_cmp nat_cmp n n ≡ true
  itself = ap is_eq (tied_itself nat_cmp_total n)

  pub get-made : get after n ≡ Some layer
  get-made = get-after n ∙ ap (λ b. cond b (Some layer) (get state.history n)) itself

  pub file_of_made : IsFileOf after n file
  file_of_made = (layer, get-made, is_file)

  module _ (folder : Folder) (says : FolderSays folder state) where
    abbrev changed : Folder
    changed = replaced folder (layer_name n) file

    other_file : (name : List ℕ) → name ≢ layer_name n → name ≢ new_tmp → get changed name ≡ get folder name
    other_file name a b = get-insert_other (remove folder new_tmp) (layer_name n) file name a ∙ get-remove_other folder new_tmp name b

    -- what the file under the name of layer k has to be, by what stands there
    abbrev Tells : ℕ → Option LayerRecord → Option (List ℕ) → Type 0
    Tells k found at = MatchOption at (found ≡ None) (λ bytes. (l : LayerRecord) × (found ≡ Some l) × IsLayerFile k l bytes)

    layers_after : (k : ℕ) (b : Bool) → IsLayerNumber k → eq_by_cmp nat_cmp k n ≡ b → Tells k (get after k) (get changed (layer_name k))
    layers_after k true is e =
        let same : k ≡ n = nat_cmp-IsAntisymmetric k n ((Equal-is (nat_cmp k n)).0 e) in
        subst (λ m. Tells m (get after m) (get changed (layer_name m))) (sym same)
        (subst (Tells n (get after n)) (sym (get-insert_same (remove folder new_tmp) (layer_name n) file)) file_of_made)
    layers_after k false is e =
        let found : get after k ≡ get state.history k = get-after k ∙ ap (λ b. cond b (Some layer) (get state.history k)) e in
        let bytes : get changed (layer_name k) ≡ get folder (layer_name k) =
        other_file (layer_name k) (λ same. true≢false (sym (ap (λ m. eq_by_cmp nat_cmp m n) (layer_name-tells k n is number same) ∙ itself) ∙ e)) (layer_is_not_new k) in
        subst (λ o. Tells k o (get changed (layer_name k))) (sym found) (subst (Tells k (get state.history k)) (sym bytes) (says.layers k is))

    -- a folder that tells a state tells it with the new layer, once its file stands
    pub says_made : FolderSays changed (record { history = after; labels = state.labels; cursors = cursors; last = last })
    says_made = record {
      kept = kept;
      named = named_grown state.history n layer state.labels says.named;
      layers = λ k is. layers_after k (eq_by_cmp nat_cmp k n) is refl;
      rollups = λ k is. ap is_some (other_file (rollup_name k) (rollup_is_not_layer k n) (rollup_is_not_new k)) ∙ says.rollups k is;
      labels = λ name is.
          subst (λ (file : Option (List ℕ)). MatchOption file (get state.labels name ≡ None) (IsLabelFileOf state.labels name))
          (sym (other_file (label_file_name name) (label_is_not_layer name n) (label_is_not_new name))) (says.labels name is);
    }

-- ---- where a layer is published

module _ (layers : List PlainLayer) (labels : Labels) (cursors : Cursors) (last : Option ℕ) (history : AreHistory layers) (layer : PlainLayer) (next : IsNextLayer (history_of layers) layer) (file : List ℕ)
    (counted : is_counted_at (with_layer (history_of layers) (record_of layer)) layer.number ≡ true)
    (is_file : file ≡ plain_file layer.number layer.parent layer.additions.items layer.removals.items) (longer : AreHistory (layers ++ layer ∷ [])) where
  abbrev before : State
  before = state_of layers labels cursors last

  abbrev next_state : State
  next_state = with_newest before (record_of layer)

  number_is : IsLayerNumber (next_number (history_of layers))
  number_is = subst IsLayerNumber next.number (next.rules.numbered, next.fits)

  is_layer_file : IsLayerFile (next_number (history_of layers)) (record_of layer) file
  is_layer_file =
      let additions : members (from_list {R = triple_cmp} layer.additions.items) ≡ layer.additions.items = members-from_rising triple_cmp triple_cmp_total triple_cmp-IsAntisymmetric layer.additions.items next.rules.additions_rise in
      let removals : members (from_list {R = triple_cmp} layer.removals.items) ≡ layer.removals.items = members-from_rising triple_cmp triple_cmp_total triple_cmp-IsAntisymmetric layer.removals.items next.rules.removals_rise in
      is_file ∙ (λ i. plain_file (next.number i) layer.parent (sym additions i) (sym removals i))

  well_kept : IsWellKept (with_layer (history_of layers) (record_of layer))
  well_kept = subst IsWellKept (history_of-next layers history layer next) longer.well_kept

  -- the layers in memory
  module _ (layers_after : List PlainLayer) (last_after : Option ℕ) where
    abbrev Adds : Type 0
    Adds = AddsLayerTo layer layers layers_after last_after

    abbrev Keeps : Type 0
    Keeps = KeepsLayers layers last layers_after last_after

    abbrev After : Result Kind Stop → Type 0
    After result = MatchResult result (λ kind. (kind ≡ Done) × Adds) (λ _. Adds ⊎ Keeps)

    history_added : Adds → history_of layers_after ≡ with_layer (history_of layers) (record_of layer)
    history_added adds = ap history_of adds.0 ∙ history_of-next layers history layer next

    last_added : Adds → last_after ≡ Some (next_number (history_of layers))
    last_added adds = adds.1 ∙ ap Some next.number

    sound_added : IsSound layers labels last → Adds → IsSound layers_after labels last_after
    sound_added sound adds = record {
      history = subst AreHistory (sym adds.0) longer;
      named =
          subst (λ (h : History). AreLabelsOf h labels) (sym (history_added adds)) (named_grown (history_of layers) (next_number (history_of layers)) (record_of layer) labels sound.named);
      newest =
          let n = next_number (history_of layers) in
          let stands : contains_key (history_of layers_after) n ≡ true = ap (λ h. contains_key h n) (history_added adds) ∙ ap is_some (get-made before (record_of layer) cursors last file number_is is_layer_file well_kept) in
          subst (λ (o : Option ℕ). IfSome o (λ n. IsTrue (contains_key (history_of layers_after) n))) (sym (last_added adds)) stands;
    }

    sound_kept : IsSound layers labels last → Keeps → IsSound layers_after labels last_after
    sound_kept sound keeps = subst (IsSound layers_after labels) (sym keeps.1) (subst (λ ls. IsSound ls labels last) (sym keeps.0) sound)

    pub sound_after : (result : Result Kind Stop) → IsSound layers labels last → After result → IsSound layers_after labels last_after
    sound_after (Ok kind) sound h = sound_added sound h.1
    sound_after (Err stop) sound (inl adds) = sound_added sound adds
    sound_after (Err stop) sound (inr keeps) = sound_kept sound keeps

    state_after : (result : Result Kind Stop) → After result → IfOk result (λ kind. (state_of layers_after labels cursors last_after ≡ next_state) × (kind ≡ kind_of false))
    state_after (Ok kind) h = ((λ i. record { history = history_added h.1 i; labels = labels; cursors = cursors; last = last_added h.1 i }), h.0)
    state_after (Err stop) h = tt

  -- the folder
  module _ (old new : Folder) where
    abbrev name : List ℕ
    name = layer_name layer.number

    put_next : new ≡ replaced old name file → new ≡ replaced old (layer_name (next_number (history_of layers))) file
    put_next put = put ∙ ap (λ n. replaced old (layer_name n) file) next.number

    follows : new ≡ replaced old name file → Follows before next_state old new
    follows put = inr (inl (record {
      layer = record_of layer;
      history = refl;
      labels = refl;
      file = file;
      is_file = file_of_made before (record_of layer) cursors last file number_is is_layer_file well_kept;
      folder = put_next put;
    }))

    says_put : FolderSays old before → new ≡ replaced old name file → FolderSays new next_state
    says_put says put =
        subst (λ (f : Folder). FolderSays f next_state) (sym (put_next put)) (says_made before (record_of layer) cursors (Some (next_number (history_of layers))) file number_is is_layer_file well_kept old says)

  module _ (layers_after : List PlainLayer) (last_after : Option ℕ) (result : Result Kind Stop) (old new : Outside)
      (kept : MatchResult result (λ kind. (kind ≡ Done) × AddsLayerTo layer layers layers_after last_after) (λ _. AddsLayerTo layer layers layers_after last_after ⊎ KeepsLayers layers last layers_after last_after))
      (told : LeavesTold result (reply_text (reply.Layer layer.number)) old.told new.told)
      (folder : IsHonest new → LeavesReplaced result (layer_name layer.number) file old.folder new.folder)
      (why : IfErr result (λ stop. (stop ≡ DiskFault) ⊎ (stop ≡ OutputFault)))
      (disk : CountsFault (is_err_and is_disk_fault result) old.disk_faults new.disk_faults)
      (say : CountsFault (is_err_and is_output_fault result) old.say_faults new.say_faults)
      (failing : IsTrue (is_err_and is_site_fault result) → IsTrue new.failed_last)
      (telling : Falls old new)
      (crash : IsHonest new → ReplacesCrash (change_result result) (layer_name layer.number) file old.crash new.crash)
      (safe : IsHonest new → CrashLeaves old.folder old.crash → ChangesSafely result (layer_name layer.number) file (reply_text (reply.Layer layer.number)) old new) where
    -- the reply tells the number that the layer has
    safe_numbered : IsHonest new → CrashLeaves old.folder old.crash → ChangesSafely result (layer_name layer.number) file (reply_text (reply.Layer (next_number (history_of layers)))) old new
    safe_numbered honest leaves = subst (λ n. ChangesSafely result (layer_name layer.number) file (reply_text (reply.Layer n)) old new) next.number (safe honest leaves)

    does_make : Does before (made_or_full before (record_of layer) true) result (state_of layers_after labels cursors last_after) old new
    does_make = record {
      state = state_after layers_after last_after result kept;
      told = subst (λ n. LeavesTold result (reply_text (reply.Layer n)) old.told new.told) next.number told;
      folder = λ tells. folder_after before next_state (layer_name layer.number) file old.folder new.folder (follows old.folder new.folder) result why (folder tells);
      tells_state = λ tells says. says_after before next_state (layer_name layer.number) file old.folder new.folder says (says_put old.folder new.folder says) result why (folder tells);
      refused = λ no. absurd (true≢false (sym no));
      why = stop_after result why;
      disk = disk;
      say = say;
      last = failing;
      telling = telling;
      crash = λ honest. inr (layer_name layer.number, file, crash honest);
      one_file = one_file_changed (layer_name layer.number) file (reply_text (reply.Layer layer.number)) result old new safe;
      safe = λ honest at.
          safe_change before next_state (layer_name layer.number) file (reply_text (reply.Layer (next_number (history_of layers)))) result old new
          (longer_line (codes "layer " ++ layer_text (next_number (history_of layers)))) (λ says. says_put old.folder (replaced old.folder (layer_name layer.number) file) says refl)
          (folder honest) (safe_numbered honest at.leaves) at;
    }

    pub does_publish : Does before (makes before (record_of layer)) result (state_of layers_after labels cursors last_after) old new
    does_publish = subst (λ (s : Stepped). Does before s result (state_of layers_after labels cursors last_after) old new) (sym (makes_counted before (record_of layer) layer.number next.number next.fits counted)) does_make
