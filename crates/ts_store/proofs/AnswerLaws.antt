-- What a command does that changes nothing.
use Rattle.std.proofs.Common.{◌≡◌, Bool, true, List, ℕ, IsTrue, Result, Ok, Err, IfOk, IfErr, inl, refl, sym, subst, ◌∙◌}
use Rattle.ts_site.specs.Faults.{CountsFault, is_err_and}
use Rattle.ts_site.specs.Folder.{Folder}
use Rattle.ts_site.specs.Outside.{Outside}
use Rattle.ts_script.specs.Replies.{refusal_text}
use Rattle.ts_script.specs.declared.reply.Refusal.{Refusal}
use Rattle.ts_store.specs.declared.stop.Stop.{Stop}
use Rattle.ts_store.specs.declared.stop.Stop.TheVariants.{Usage, Damaged, DiskFault, InputFault, OutputFault, InputLimit, Memory}
use Rattle.ts_store.specs.declared.stop.Kind.{Kind}
use Rattle.ts_store.specs.Cursors.{Cursors}
use Rattle.ts_store.specs.Does.{Answers, Does, IsQueryStop}
use Rattle.ts_store.specs.Fetches.{with_cursors}
use Rattle.ts_store.specs.FolderSays.{FolderSays}
use Rattle.ts_store.specs.Leaves.{LeavesFolder, LeavesState}
use Rattle.ts_store.specs.State.{State}
use Rattle.ts_store.specs.Stepped.{Stepped, at_found, does, refuses}
use Rattle.ts_store.specs.Stops.{IsStepStop, is_disk_fault, is_output_fault, is_site_fault, kind_of}
use Rattle.ts_store.proofs.SafeLaws.{one_file_said, safe_said}

-- ---- the output's failures are query stops

pub output_alone : (result : Result Kind Stop) → IfErr result (λ stop. stop ≡ OutputFault) → IfErr result IsQueryStop
output_alone (Ok kind) h = tt
output_alone (Err stop) h = subst IsQueryStop (sym h) tt

pub no_memory : (result : Result Kind Stop) → IfErr result (λ stop. stop ≡ OutputFault) → IfErr result (λ stop. stop ≡ Memory → ⊥)
no_memory (Ok kind) h = tt
no_memory (Err stop) h = λ e. let same : OutputFault ≡ Memory = sym h ∙ e in cc

pub not_memory : (result : Result Kind Stop) → IfErr result (λ stop. stop ≡ OutputFault) → result ≡ Err Memory → ⊥
not_memory (Ok kind) h e = cc
not_memory (Err stop) h e = let same : stop ≡ Memory = cc in let other : OutputFault ≡ Memory = sym h ∙ same in cc

-- ---- a step that changes no more than the cursors

module _ (state : State) (cursors : Cursors) (text : List ℕ) (refused : Bool) (after : State) (old new : Outside) where
  abbrev next : State
  next = with_cursors state cursors

  answered : (result : Result Kind Stop) → IfOk result (λ _. after ≡ next) → IfOk result (λ kind. kind ≡ kind_of refused) → IfOk result (λ kind. (after ≡ next) × (kind ≡ kind_of refused))
  answered (Ok kind) is h = (is, h)
  answered (Err stop) is h = tt

  same_folder : (result : Result Kind Stop) → IfErr result IsQueryStop → new.folder ≡ old.folder → LeavesFolder result state next old.folder new.folder
  same_folder (Ok kind) why e = inl (record { history = refl; labels = refl; folder = e })
  same_folder (Err OutputFault) why e = inl (record { history = refl; labels = refl; folder = e })
  same_folder (Err Memory) why e = e
  same_folder (Err Usage) why e = absurd why
  same_folder (Err (Damaged name)) why e = absurd why
  same_folder (Err DiskFault) why e = absurd why
  same_folder (Err InputFault) why e = absurd why
  same_folder (Err InputLimit) why e = absurd why

  -- the cursors stand in no file
  says_next : FolderSays new.folder state → FolderSays new.folder next
  says_next says = record { kept = says.kept; named = says.named; layers = says.layers; rollups = says.rollups; labels = says.labels }

  image_next : (image : Folder) → FolderSays image state → FolderSays image next
  image_next image says = record { kept = says.kept; named = says.named; layers = says.layers; rollups = says.rollups; labels = says.labels }

  same_state : (result : Result Kind Stop) → IfErr result IsQueryStop → FolderSays new.folder state → LeavesState (FolderSays new.folder) result state next
  same_state (Ok kind) why says = says_next says
  same_state (Err OutputFault) why says = says_next says
  same_state (Err Memory) why says = says
  same_state (Err Usage) why says = absurd why
  same_state (Err (Damaged name)) why says = absurd why
  same_state (Err DiskFault) why says = absurd why
  same_state (Err InputFault) why says = absurd why
  same_state (Err InputLimit) why says = absurd why

  step_stop : (result : Result Kind Stop) → IfErr result IsQueryStop → IfErr result IsStepStop
  step_stop (Ok kind) why = tt
  step_stop (Err OutputFault) why = tt
  step_stop (Err Memory) why = tt
  step_stop (Err Usage) why = absurd why
  step_stop (Err (Damaged name)) why = absurd why
  step_stop (Err DiskFault) why = absurd why
  step_stop (Err InputFault) why = absurd why
  step_stop (Err InputLimit) why = absurd why

  no_disk_fault : (result : Result Kind Stop) → IfErr result IsQueryStop → new.disk_faults ≡ old.disk_faults → CountsFault (is_err_and is_disk_fault result) old.disk_faults new.disk_faults
  no_disk_fault (Ok kind) why e = e
  no_disk_fault (Err OutputFault) why e = e
  no_disk_fault (Err Memory) why e = e
  no_disk_fault (Err Usage) why e = absurd why
  no_disk_fault (Err (Damaged name)) why e = absurd why
  no_disk_fault (Err DiskFault) why e = absurd why
  no_disk_fault (Err InputFault) why e = absurd why
  no_disk_fault (Err InputLimit) why e = absurd why

  -- the only fault of such a step is one of the output
  query_last : (result : Result Kind Stop) → IfErr result IsQueryStop → (IsTrue (is_err_and is_output_fault result) → IsTrue new.failed_last)
      → IsTrue (is_err_and is_site_fault result) → IsTrue new.failed_last
  query_last (Ok kind) why last fault = last fault
  query_last (Err OutputFault) why last fault = last fault
  query_last (Err Memory) why last fault = last fault
  query_last (Err Usage) why last fault = absurd why
  query_last (Err (Damaged name)) why last fault = absurd why
  query_last (Err DiskFault) why last fault = absurd why
  query_last (Err InputFault) why last fault = absurd why
  query_last (Err InputLimit) why last fault = absurd why

  pub does_beside : (result : Result Kind Stop) → IfErr result IsQueryStop → IfOk result (λ _. after ≡ next) → Answers text refused result old new
      → Does state (record { state = next; told = text; refused = refused }) result after old new
  does_beside result why is answers = record {
    state = answered result is answers.kind;
    told = answers.told;
    folder = λ told. same_folder result why answers.says.disk.same_folder;
    tells_state = λ told says. same_state result why (subst (λ (f : Folder). FolderSays f state) (sym answers.says.disk.same_folder) says);
    refused = λ _. answers.says;
    why = step_stop result why;
    disk = no_disk_fault result why answers.says.disk.same_faults;
    say = answers.says.counts;
    last = query_last result why answers.says.last;
    telling = answers.says.telling;
    crash = λ honest. inl (answers.says.images.now honest);
    one_file = one_file_said (is_err_and is_output_fault result) old new answers.says;
    safe = λ honest at. safe_said state next text refused result old new answers (λ image says. image_next image says) honest at;
  }

unchanged : (state : State) (result : Result Kind Stop) → IfOk result (λ _. state ≡ state)
unchanged state (Ok kind) = refl
unchanged state (Err stop) = tt

-- a step that changes nothing
pub does_answer : (state : State) (text : List ℕ) (refused : Bool) (result : Result Kind Stop) (old new : Outside) → IfErr result IsQueryStop → Answers text refused result old new
    → Does state (record { state = state; told = text; refused = refused }) result state old new
does_answer state text refused result old new why answers = does_beside state state.cursors text refused state old new result why (unchanged state result) answers

-- a refusal
pub does_refused : (state : State) (given : Refusal) (result : Result Kind Stop) (old new : Outside) → IfErr result (λ stop. stop ≡ OutputFault) → Answers (refusal_text given) true result old new
    → Does state (refuses state given) result state old new
does_refused state given result old new why answers = does_answer state (refusal_text given) true result old new (output_alone result why) answers

-- ---- a step over what is looked up

-- a step that is given, whose state is the one before it
pub does_still : (state : State) (stepped : Stepped) (result : Result Kind Stop) (old new : Outside) → stepped.state ≡ state → IfErr result IsQueryStop → Answers stepped.told stepped.refused result old new
    → Does state stepped result state old new
does_still state stepped result old new same why answers =
    subst (λ (s : State). Does state (record { state = s; told = stepped.told; refused = stepped.refused }) result state old new) (sym same) (does_answer state stepped.told stepped.refused result old new why answers)

-- what asks something changes nothing
pub asks_still : {A : Type 0} (state : State) (found : Result A Refusal) (reply_of : A → List ℕ) → (at_found state found (λ a. does state (reply_of a))).state ≡ state
asks_still state (Ok a) reply_of = refl
asks_still state (Err given) reply_of = refl

-- over what is found, and where nothing is
module _ {A : Type 0} (result : Result Kind Stop) (old new : Outside) (state : State) (found : Result A Refusal) (step : A → Stepped) where
  pub answers_found : (a : A) → found ≡ Ok a → Answers (step a).told (step a).refused result old new → Answers (at_found state found step).told (at_found state found step).refused result old new
  answers_found a is h = subst (λ (r : Result A Refusal). Answers (at_found state r step).told (at_found state r step).refused result old new) (sym is) h

  pub answers_missing : (given : Refusal) → found ≡ Err given → Answers (refusal_text given) true result old new → Answers (at_found state found step).told (at_found state found step).refused result old new
  answers_missing given is h = subst (λ (r : Result A Refusal). Answers (at_found state r step).told (at_found state r step).refused result old new) (sym is) h

  module _ (after : State) where
    pub does_found : (a : A) → found ≡ Ok a → Does state (step a) result after old new → Does state (at_found state found step) result after old new
    does_found a is h = subst (λ (r : Result A Refusal). Does state (at_found state r step) result after old new) (sym is) h

    pub does_missing : (given : Refusal) → found ≡ Err given → Does state (refuses state given) result after old new → Does state (at_found state found step) result after old new
    does_missing given is h = subst (λ (r : Result A Refusal). Does state (at_found state r step) result after old new) (sym is) h
