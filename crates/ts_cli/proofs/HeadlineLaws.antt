-- The headline from how a run ends: a folder tells one state, and words and an input are one list of commands.
use Rattle.std.proofs.Common.{◌≡◌, ◌⊎◌, ℕ, ◌+◌, ◌≤◌, List, [], ◌∷◌, ◌++◌, length, take, cond, IsTrue, Option, None, Some, Err, inl, inr, sym, ap, ◌∙◌, subst, arith, append-nil, append_assoc, length-append}
use Rattle.std.specs.Prelude.{MatchOption}
use Rattle.ts_site.specs.Folder.{Folder}
use Rattle.ts_site.specs.Outside.{Outside}
use Rattle.ts_script.specs.Lines.{lines_of}
use Rattle.ts_script.specs.Commands.{IsCommand}
use Rattle.ts_script.specs.declared.command.Command.{Command}
use Rattle.ts_script.proofs.CommandLaws.{same_command}
use Rattle.ts_script.proofs.RunWords.{run_is_none}
use Rattle.ts_script.proofs.ScriptLaws.{script_once}
use Rattle.ts_store.specs.declared.stop.Stop.{Stop}
use Rattle.ts_store.specs.declared.stop.Stop.TheVariants.{Usage, Damaged, DiskFault, InputFault, OutputFault, InputLimit, Memory}
use Rattle.ts_store.specs.FolderSays.{FolderSays, IsFirstDamaged}
use Rattle.ts_store.specs.Leaves.{LeavesState, LeavesTold}
use Rattle.ts_store.specs.Stands.{Stands}
use Rattle.ts_store.specs.State.{IsFresh, State}
use Rattle.ts_store.specs.Step.{step_of}
use Rattle.ts_store.specs.Steps.{after, answers, answer_at, any_refused}
use Rattle.ts_store.proofs.OneHistory.{same_history, same_labels, not_damaged, same_damaged}
use Rattle.ts_cli.specs.Asked.{AreCommands, AreGiven, AreRun, Asking}
use Rattle.ts_cli.specs.Causes.{DamagedCause, IsBeforeOpening}
use Rattle.ts_cli.specs.Change.{Change, change_of}
use Rattle.ts_cli.specs.Ends.{AreDone, ComesTo, Ends, EndsAfter, IsEarly}
use Rattle.ts_cli.specs.Headline.{StandsAfter, StandsAfterStop, TellsReplies}
use Rattle.ts_cli.specs.Outcomes.{stop_status}
use Rattle.ts_cli.specs.declared.outcome.Outcome.{Outcome}
use Rattle.ts_cli.proofs.CommandsLemmas.{after_front, after_next, after_none, answer_next, answers_front, answers_none, first_of}
use Rattle.ts_cli.proofs.StepsLemmas.{done_stands, done_told}

-- ---- one list of commands

pub run_is_no_command : (words : List (List ℕ)) (before : ℕ) (lines : List (List ℕ)) (asked : Command) → AreRun words → IsCommand words before lines asked → ⊥
run_is_no_command words before lines asked run is = run_is_none before lines asked (subst (λ (ws : List (List ℕ)). IsCommand ws before lines asked) run is)

module _ (a : Asking) (told_input : IsTrue a.tells) (commands : List Command) (are : AreCommands a.words a.left commands) where
  -- the commands that were given are the first ones that are asked for
  pub given_first : (given : List Command) → AreGiven a given → (more : List Command) × (commands ≡ given ++ more)
  given_first given of = by_words of are
    where
      by_words : AreGiven a given → AreCommands a.words a.left commands → (more : List Command) × (commands ≡ given ++ more)
      by_words (inl (run, of_script)) (inl (also, script)) =
          let (next, rest, firsts) = of_script.first told_input in
          first_of 0 (lines_of a.left) given next rest firsts commands script
      by_words (inl (run, of_script)) (inr (asked, is, only)) = absurd (run_is_no_command a.words 0 (lines_of a.left) asked run is)
      by_words (inr (asked, (lines, is, from), only)) (inl (run, script)) = absurd (run_is_no_command a.words 0 lines asked run is)
      by_words (inr (asked, (lines, is, from), only)) (inr (wanted, wants, also)) =
          let here : IsCommand a.words 0 (lines_of a.left) asked = subst (λ (ls : List (List ℕ)). IsCommand a.words 0 ls asked) (from told_input) is in
          let same : asked ≡ wanted = same_command a.words 0 (lines_of a.left) asked wanted here wants in
          ([], also ∙ (λ i. sym same i ∷ []) ∙ sym only ∙ sym (append-nil given))

  -- all that are asked for are these
  pub all_same : (others : List Command) → AreCommands a.words a.left others → commands ≡ others
  all_same others also = by_words are also
    where
      by_words : AreCommands a.words a.left commands → AreCommands a.words a.left others → commands ≡ others
      by_words (inl (run, script)) (inl (too, other)) = script_once 0 (lines_of a.left) commands others script other
      by_words (inl (run, script)) (inr (asked, is, only)) = absurd (run_is_no_command a.words 0 (lines_of a.left) asked run is)
      by_words (inr (asked, is, only)) (inl (run, script)) = absurd (run_is_no_command a.words 0 (lines_of a.left) asked run is)
      by_words (inr (asked, is, only)) (inr (wanted, wants, alone)) =
          only ∙ (λ i. same_command a.words 0 (lines_of a.left) asked wanted is wants i ∷ []) ∙ sym alone

-- ---- what a stop leaves

-- some front of the reply was told
some_told : (stop : Stop) (text old new : List ℕ) → LeavesTold (Err stop) text old new → (n : ℕ) × (new ≡ old ++ take n text)
some_told OutputFault text old new told = told
some_told Memory text old new (n, short, lines, told) = (n, told)
some_told Usage text old new told = (0, told ∙ sym (append-nil old))
some_told (Damaged name) text old new told = (0, told ∙ sym (append-nil old))
some_told DiskFault text old new told = (0, told ∙ sym (append-nil old))
some_told InputFault text old new told = (0, told ∙ sym (append-nil old))
some_told InputLimit text old new told = (0, told ∙ sym (append-nil old))

module _ (folder : Folder) (state : State) (commands : List Command) (done : ℕ) (here : State) (is : after state commands done ≡ here) where
  stands_here : Stands folder here → Stands folder (after state commands done)
  stands_here stands = subst (λ (s : State). Stands folder s) (sym is) stands

  -- the folder stands for the state after the commands that were done
  stop_still : (stop : Stop) → Stands folder here → StandsAfterStop stop folder state commands done
  stop_still DiskFault stands = inl (stands_here stands)
  stop_still OutputFault stands = inl (stands_here stands)
  stop_still Usage stands = stands_here stands
  stop_still (Damaged name) stands = stands_here stands
  stop_still InputFault stands = stands_here stands
  stop_still InputLimit stands = stands_here stands
  stop_still Memory stands = stands_here stands

  -- or for the one after the step that was stopped
  stop_stepped : (next : State) → after state commands (done + 1) ≡ next → (stop : Stop) → LeavesState (Stands folder) (Err stop) here next → StandsAfterStop stop folder state commands done
  stop_stepped next behind DiskFault (inl stands) = inl (stands_here stands)
  stop_stepped next behind DiskFault (inr stands) = inr (subst (λ (s : State). Stands folder s) (sym behind) stands)
  stop_stepped next behind OutputFault stands = inr (subst (λ (s : State). Stands folder s) (sym behind) stands)
  stop_stepped next behind Usage stands = stands_here stands
  stop_stepped next behind (Damaged name) stands = stands_here stands
  stop_stepped next behind InputFault stands = stands_here stands
  stop_stepped next behind InputLimit stands = stands_here stands
  stop_stepped next behind Memory stands = stands_here stands

-- ---- a run that came to its steps

module _ (s : Change) (a : Asking) (told_input : IsTrue a.tells) (state : State) (stands : Stands s.before.folder state)
    (commands : List Command) (are : AreCommands a.words a.left commands) (left_after : List ℕ) (done : List Command) (middle : Outside) (steps : AreDone (change_of s.before middle) state done) where
  then_state : State
  then_state = after state done (length done)

  stands_then : Stands middle.folder (after state done (length done))
  stands_then = done_stands s.before middle state done stands steps

  -- the commands are these and some more
  module _ (more : List Command) (parts : commands ≡ done ++ more) (count : ℕ) (counts : count ≡ length done) where
    answers_then : answers state commands count ≡ answers state done (length done)
    answers_then = ap (λ (n : ℕ). answers state commands n) counts ∙ ap (λ (cs : List Command). answers state cs (length done)) parts ∙ answers_front state done more

    after_then : after state commands count ≡ after state done (length done)
    after_then = ap (λ (n : ℕ). after state commands n) counts ∙ ap (λ (cs : List Command). after state cs (length done)) parts ∙ after_front state done more

    within : count ≤ length commands
    within = omega (arith, counts, ap length parts, length-append done more)

  module _ (asked : Command) (more : List Command) (parts : commands ≡ done ++ asked ∷ more) (count : ℕ) (counts : count ≡ length done) where
    answer_then : answer_at state commands count ≡ (step_of (after state done (length done)) asked).told
    answer_then = ap (λ (n : ℕ). answer_at state commands n) counts ∙ ap (λ (cs : List Command). answer_at state cs (length done)) parts ∙ answer_next state done asked more

    after_asked : after state commands (count + 1) ≡ (step_of (after state done (length done)) asked).state
    after_asked = ap (λ (n : ℕ). after state commands (n + 1)) counts ∙ ap (λ (cs : List Command). after state cs (length done + 1)) parts ∙ after_next state done asked more

  asked_first : (asked : Command) → AreGiven a (done ++ asked ∷ []) → (more : List Command) × (commands ≡ done ++ asked ∷ more)
  asked_first asked given =
      let (more, parts) = given_first a told_input commands are (done ++ asked ∷ []) given in
      (more, parts ∙ append_assoc done (asked ∷ []) more)

  told_then : middle.told ≡ s.before.told ++ answers state done (length done)
  told_then = done_told s.before middle state done steps

  replies_after : (status count : ℕ) (stop : Option Stop) → count ≡ length done
      → MatchOption stop (status ≡ cond (any_refused state done) 1 0) (λ stop. status ≡ stop_status stop)
      → EndsAfter (change_of middle s.after) a left_after state done stop
      → TellsReplies (record { status = status; done = count; stop = stop }) state commands s.before.told s.after.told
  replies_after status count None counts is (given, whole, still) =
      let same : commands ≡ done = all_same a told_input commands are done (whole told_input) in
      let parts : commands ≡ done ++ [] = same ∙ sym (append-nil done) in (
        counts ∙ ap length (sym same),
        ap (λ (o : Outside). o.told) still ∙ told_then ∙ ap (λ (l : List ℕ). s.before.told ++ l) (sym (answers_then [] parts count counts)),
        is ∙ ap (λ (cs : List Command). cond (any_refused state cs) 1 0) (sym same),
      )
  replies_after status count (Some stop) counts is (inl (run, between, given, wholes, still)) =
      let (more, parts) = given_first a told_input commands are done given in (
        within more parts count counts,
        0,
        ap (λ (o : Outside). o.told) still ∙ told_then
            ∙ ap (λ (l : List ℕ). s.before.told ++ l) (sym (answers_then more parts count counts) ∙ sym (append-nil (answers state commands count))),
      )
  replies_after status count (Some stop) counts is (inr (asked, given, why, does)) =
      let (more, parts) = asked_first asked given in
      let (n, told) = some_told stop (step_of (after state done (length done)) asked).told middle.told s.after.told does.told in (
        within (asked ∷ more) parts count counts,
        n,
        told ∙ ap (λ (l : List ℕ). l ++ take n (step_of (after state done (length done)) asked).told) told_then
            ∙ append_assoc s.before.told (answers state done (length done)) (take n (step_of (after state done (length done)) asked).told)
            ∙ (λ i. s.before.told ++ (sym (answers_then (asked ∷ more) parts count counts) i ++ take n (sym (answer_then asked more parts count counts) i))),
      )

  folder_after : (status count : ℕ) (stop : Option Stop) → count ≡ length done → EndsAfter (change_of middle s.after) a left_after state done stop
      → StandsAfter (record { status = status; done = count; stop = stop }) state commands s.after.folder
  folder_after status count None counts (given, whole, still) =
      let same : commands ≡ done = all_same a told_input commands are done (whole told_input) in
      let kept : s.after.folder ≡ middle.folder = ap (λ (o : Outside). o.folder) still in
      subst (λ (st : State). Stands s.after.folder st) (sym (after_then [] (same ∙ sym (append-nil done)) count counts)) (subst (λ (f : Folder). Stands f (after state done (length done))) (sym kept) stands_then)
  folder_after status count (Some stop) counts (inl (run, between, given, wholes, still)) =
      let (more, parts) = given_first a told_input commands are done given in
      let kept : s.after.folder ≡ middle.folder = ap (λ (o : Outside). o.folder) still in
      stop_still s.after.folder state commands count (after state done (length done)) (after_then more parts count counts) stop
      (subst (λ (f : Folder). Stands f (after state done (length done))) (sym kept) stands_then)
  folder_after status count (Some stop) counts (inr (asked, given, why, does)) =
      let (more, parts) = asked_first asked given in
      stop_stepped s.after.folder state commands count (after state done (length done)) (after_then (asked ∷ more) parts count counts)
      (step_of (after state done (length done)) asked).state (after_asked asked more parts count counts) stop (does.stands_after stands_then)

-- ---- every run

module _ (s : Change) (a : Asking) (told_input : IsTrue a.tells) (state : State) (fresh : IsFresh state) (stands : Stands s.before.folder state)
    (commands : List Command) (are : AreCommands a.words a.left commands) (left_after : List ℕ) (outcome : Outcome) where
  -- the state that the folder tells is this one
  pub same_state : (other : State) → IsFresh other → FolderSays s.before.folder other → other ≡ state
  same_state other also says =
      let same = same_history s.before.folder other state says stands.says in
      let cursors : other.cursors ≡ state.cursors = also.cursors ∙ sym fresh.cursors in
      let last : other.last ≡ state.last = also.last ∙ sym fresh.last in
      let labels = same_labels s.before.folder other state says stands.says in
      λ i. record { history = same i; labels = labels i; cursors = cursors i; last = last i }

  pub headline_replies : Ends s a left_after outcome → TellsReplies outcome state commands s.before.told s.after.told
  headline_replies (inl early) =
      subst (λ (o : Outcome). TellsReplies o state commands s.before.told s.after.told) (sym early.outcome_is)
      (omega arith, 0, early.all.told ∙ sym (append-nil s.before.told) ∙ ap (λ (l : List ℕ). s.before.told ++ l) (sym (answers_none state commands) ∙ sym (append-nil (answers state commands 0))))
  headline_replies (inr (other, done, opened)) =
      let then = change_of opened.opened s.after in
      let all = opened.opens.all in
      let here : ComesTo then a left_after outcome state done = subst (λ (st : State). ComesTo then a left_after outcome st done) (same_state other opened.comes.fresh opened.says) opened.comes in
      subst (λ (told : List ℕ). TellsReplies outcome state commands told s.after.told) all.told
      (replies_after then a told_input state (subst (λ (f : Folder). Stands f state) (sym all.folder) stands)
      commands are left_after done here.middle here.steps outcome.status outcome.done outcome.stop here.count here.status here.ends)

  pub headline_folder : Ends s a left_after outcome → StandsAfter outcome state commands s.after.folder
  headline_folder (inl early) =
      let kept : Stands s.after.folder state = subst (λ (f : Folder). Stands f state) (sym early.all.folder) stands in
      subst (λ (o : Outcome). StandsAfter o state commands s.after.folder) (sym early.outcome_is) (stop_still s.after.folder state commands 0 state (after_none state commands) early.stop kept)
  headline_folder (inr (other, done, opened)) =
      let then = change_of opened.opened s.after in
      let all = opened.opens.all in
      let here : ComesTo then a left_after outcome state done = subst (λ (st : State). ComesTo then a left_after outcome st done) (same_state other opened.comes.fresh opened.says) opened.comes in
      folder_after then a told_input state (subst (λ (f : Folder). Stands f state) (sym all.folder) stands)
      commands are left_after done here.middle here.steps outcome.status outcome.done outcome.stop here.count here.ends

-- a run that came to its steps saw no damaged file, and one that named a file named the first
module _ (s : Change) (a : Asking) (left_after : List ℕ) (outcome : Outcome) (ends : Ends s a left_after outcome) (first : (name : List ℕ) → outcome.stop ≡ Some (Damaged name) → IsFirstDamaged s.before.folder name) where
  found : (name : List ℕ) → IsFirstDamaged s.before.folder name → (stop : Stop) → outcome.stop ≡ Some stop → IsEarly a.words stop → (Some stop ≡ Some (Damaged name)) ⊎ IsBeforeOpening a.words (Some stop)
  found name damaged (Damaged other) is early = inl (ap (λ (n : List ℕ). Some (Damaged n)) (same_damaged s.before.folder other name (first other is) damaged))
  found name damaged DiskFault is early = inr tt
  found name damaged Memory is early = inr tt
  found name damaged Usage is early = inr early
  found name damaged InputFault is early = inr early
  found name damaged InputLimit is early = inr early
  found name damaged OutputFault is early = absurd early

  pub damaged_cause : DamagedCause a.words s.before.folder outcome.stop
  damaged_cause = λ name. (first name, by_end ends)
    where
      by_end : {name : List ℕ} → Ends s a left_after outcome → IsFirstDamaged s.before.folder name → (outcome.stop ≡ Some (Damaged name)) ⊎ IsBeforeOpening a.words outcome.stop
      by_end {name} (inl early) damaged =
          let is : outcome.stop ≡ Some early.stop = ap (λ (o : Outcome). o.stop) early.outcome_is in
          subst (λ (stop : Option Stop). (stop ≡ Some (Damaged name)) ⊎ IsBeforeOpening a.words stop) (sym is) (found name damaged early.stop is early.early)
      by_end {name} (inr (state, done, opened)) damaged = absurd (not_damaged s.before.folder state name opened.says damaged)
