-- A run of one command: how it ends, and the causes of its stops.
use Rattle.std.proofs.Common.{◌≡◌, ◌⊎◌, ℕ, ◌^◌, ◌<◌, Bool, true, false, cond, IsTrue, List, [], ◌∷◌, length, Option, None, Some, Result, Ok, Err, IfErr, inl, inr, refl, sym, ap, ◌∙◌, subst, arith}
use Rattle.std.proofs.Math.Bool.{or-false}
use Rattle.ts_site.specs.Faults.{CountsFault}
use Rattle.ts_site.specs.Crash.{settled}
use Rattle.ts_site.specs.Moments.{IsChangedOrNot}
use Rattle.ts_site.specs.Outside.{IsHonest, Outside}
use Rattle.ts_script.specs.Commands.{AwaitBody, IsCommand, IsNoCommand}
use Rattle.ts_script.specs.Heads.{HaveTerms}
use Rattle.ts_script.specs.declared.command.Command.{Command}
use Rattle.ts_store.specs.declared.stop.Kind.{Kind}
use Rattle.ts_store.specs.declared.stop.Stop.{Stop}
use Rattle.ts_store.specs.declared.stop.Stop.TheVariants.{Usage, Damaged, DiskFault, InputFault, OutputFault, InputLimit, Memory}
use Rattle.ts_store.specs.FolderSays.{IsFirstDamaged}
use Rattle.ts_store.specs.Safe.{SettlesAll, StopsSettled}
use Rattle.ts_store.specs.State.{State}
use Rattle.ts_store.specs.Step.{step_of}
use Rattle.ts_store.specs.Stops.{IsOpeningStop, IsStepStop, is_disk_fault, is_output_fault, kind_of}
use Rattle.ts_cli.specs.Asked.{AreCommands, AreRun, Asking, Asks, ReadInput}
use Rattle.ts_cli.specs.Causes.{HasCause, IsOverLimit, LimitCause, UsageCause, is_input_fault}
use Rattle.ts_cli.specs.Change.{Change, LeavesAll, change_of}
use Rattle.ts_cli.specs.Ends.{ComesTo, Ends, IsEarly, IsUnsettled, LeavesUnsettled}
use Rattle.ts_cli.specs.Outcomes.{HasStatus, IsAfterReading, IsReadingStop, ended_outcome, stopped_outcome}
use Rattle.ts_cli.specs.Single.{ComesToStep, IsNotOpened, IsStepped}
use Rattle.ts_cli.specs.Tally.{is_refused}
use Rattle.ts_cli.specs.declared.outcome.Outcome.{Outcome}
use Rattle.ts_cli.proofs.CauseLaws.{some_is}
use Rattle.ts_cli.proofs.HeadlineLaws.{damaged_cause}
use Rattle.ts_cli.proofs.StepsLemmas.{no_change}

-- words that are no command await no body
pub awaits_none : (words : List (List ℕ)) → IsNoCommand words → AwaitBody words → ⊥
awaits_none words none (opening, is) = none _ is

-- memory is wanted of them only for terms
pub terms_none : (words : List (List ℕ)) → IsNoCommand words → AwaitBody words ⊎ HaveTerms words → HaveTerms words
terms_none words none (inl awaits) = absurd (awaits_none words none awaits)
terms_none words none (inr terms) = terms

-- words that aren't `run` read the input as a body
pub reads_body : (words : List (List ℕ)) → (AreRun words → ⊥) → ReadInput words → AwaitBody words
reads_body words single (inl run) = absurd (single run)
reads_body words single (inr awaits) = awaits

-- a command that was read is no stop
pub read_no_stop : {C T : Type 0} (command : C) → (Ok command ≡ Err Usage) ⊎ ((Ok command ≡ Err Memory) × T) → ⊥
read_no_stop command (inl is) = cc
read_no_stop command (inr is) = let e = is.0 in cc

-- a stop is one of the two that it is answered as
pub same_stop : {C T : Type 0} (stop : Stop) → ◌≡◌ {A = Result C Stop} (Err stop) (Err Usage) ⊎ (◌≡◌ {A = Result C Stop} (Err stop) (Err Memory) × T) → (stop ≡ Usage) ⊎ ((stop ≡ Memory) × T)
same_stop stop (inl is) = inl (cc)
same_stop stop (inr (is, fact)) = inr (cc, fact)

-- a stop that comes before the folder is opened
abbrev pub ComesFirst : Stop → Type 0
ComesFirst stop = (stop ≡ Memory) ⊎ IsReadingStop stop

-- the step, or the stop of the opening
pub comes_of : (s : Change) (asked : Command) (answer : Result Kind Stop) (state : State) → IfErr answer IsStepStop → IsStepped s asked answer state → ComesToStep s asked answer
comes_of s asked (Ok kind) state why does = (state, does)
comes_of s asked (Err stop) state why does = inr (why, (state, does))

-- ---- how it ends

early_first : (words : List (List ℕ)) → (AreRun words → ⊥) → (stop : Stop) → ComesFirst stop → IsEarly words stop
early_first words single Usage why = single
early_first words single InputFault why = single
early_first words single InputLimit why = single
early_first words single (Damaged name) why = tt
early_first words single DiskFault why = tt
early_first words single Memory why = tt
early_first words single OutputFault (inl is) = absurd (cc)
early_first words single OutputFault (inr is) = absurd is

pub early_opening : (words : List (List ℕ)) (stop : Stop) → IsOpeningStop stop → IsEarly words stop
early_opening words (Damaged name) why = tt
early_opening words DiskFault why = tt
early_opening words Memory why = tt
early_opening words Usage why = absurd why
early_opening words InputFault why = absurd why
early_opening words InputLimit why = absurd why
early_opening words OutputFault why = absurd why

-- a stop that comes before the folder is opened comes before it is settled
unsettled_first : (words : List (List ℕ)) → (AreRun words → ⊥) → (stop : Stop) → ComesFirst stop → IsUnsettled words stop
unsettled_first words single Usage why = single
unsettled_first words single InputFault why = single
unsettled_first words single InputLimit why = single
unsettled_first words single Memory why = single
unsettled_first words single DiskFault why = tt
unsettled_first words single (Damaged name) (inl is) = absurd (cc)
unsettled_first words single (Damaged name) (inr is) = absurd is
unsettled_first words single OutputFault (inl is) = absurd (cc)
unsettled_first words single OutputFault (inr is) = absurd is

leaves_same : (before after : Outside) (stop : Stop) → after.crash ≡ before.crash → LeavesUnsettled stop before after
leaves_same before after DiskFault same = inr same
leaves_same before after Usage same = same
leaves_same before after (Damaged name) same = same
leaves_same before after InputFault same = same
leaves_same before after OutputFault same = same
leaves_same before after InputLimit same = same
leaves_same before after Memory same = same

-- at a stop of the opening the folder was settled, or nothing where the disk failed
settled_or : (words : List (List ℕ)) (before after : Outside) (stop : Stop) → IsOpeningStop stop → StopsSettled stop before after
    → IsHonest after → (IsUnsettled words stop × LeavesUnsettled stop before after) ⊎ SettlesAll before after
settled_or words before after DiskFault why settles told = by_side (settles told)
  where
    by_side : IsChangedOrNot (settled before.folder) before.crash after.crash ⊎ SettlesAll before after → (IsUnsettled words DiskFault × LeavesUnsettled DiskFault before after) ⊎ SettlesAll before after
    by_side (inl changed) = inl (tt, changed)
    by_side (inr all) = inr all
settled_or words before after (Damaged name) why settles told = inr (settles told)
settled_or words before after Memory why settles told = inr (settles told)
settled_or words before after Usage why settles told = absurd why
settled_or words before after InputFault why settles told = absurd why
settled_or words before after InputLimit why settles told = absurd why
settled_or words before after OutputFault why settles told = absurd why

-- it was asked for, and is all that is
asked_all : (a : Asking) (asked : Command) → Asks a asked → IsTrue a.tells → AreCommands a.words a.left (asked ∷ [])
asked_all a asked (lines, is, from) tells = inr (asked, subst (λ (ls : List (List ℕ)). IsCommand a.words 0 ls asked) (from tells) is, refl)

pub kind_refused : (kind : Kind) (refused : Bool) → kind ≡ kind_of refused → is_refused kind ≡ (refused)
kind_refused kind true is = ap is_refused is
kind_refused kind false is = ap is_refused is

module _ (s : Change) (a : Asking) (left_after : List ℕ) where
  -- a stop before the folder was opened
  pub ends_first : (outcome : Outcome) (stop : Stop) → outcome ≡ stopped_outcome 0 stop → (AreRun a.words → ⊥) → ComesFirst stop → LeavesAll s → s.after.crash ≡ s.before.crash → Ends s a left_after outcome
  ends_first outcome stop is single why all same = inl (record {
    stop = stop;
    outcome_is = is;
    early = early_first a.words single stop why;
    all = all;
    settles = inl (unsettled_first a.words single stop why, leaves_same s.before s.after stop same);
  })

  -- a stop of the opening
  pub ends_opening : (outcome : Outcome) (stop : Stop) → outcome ≡ stopped_outcome 0 stop → IsHonest s.after → IsNotOpened s stop → Ends s a left_after outcome
  ends_opening outcome stop is honest (why, all, settles) = inl (record {
    stop = stop;
    outcome_is = is;
    early = early_opening a.words stop why;
    all = all;
    settles = settled_or a.words s.before s.after stop why settles honest;
  })

  module _ (asked : Command) (asks : Asks a asked) where
    pub ends_stopped : (outcome : Outcome) (stop : Stop) → outcome ≡ stopped_outcome 0 stop → IsHonest s.after → ComesToStep s asked (Err stop) → Ends s a left_after outcome
    ends_stopped outcome stop is honest (inl closed) = ends_opening outcome stop is honest closed
    ends_stopped outcome stop is honest (inr (why, (state, does))) =
        let then = change_of does.opened s.after in
        let comes : ComesTo then a left_after (stopped_outcome 0 stop) state [] = record {
          fresh = does.fresh;
          says = does.steps.says;
          count = refl;
          status = refl;
          middle = does.opened;
          steps = refl;
          ends = inr (asked, inr (asked, asks, refl), why, does.steps);
        } in
        inr (state, [], record { says = does.says; opened = does.opened; opens = does.opens; comes = subst (λ (o : Outcome). ComesTo then a left_after o state []) (sym is) comes })

    pub ends_answered : (outcome : Outcome) (kind : Kind) → outcome ≡ ended_outcome 1 (is_refused kind) → ComesToStep s asked (Ok kind) → Ends s a left_after outcome
    ends_answered outcome kind is (state, does) =
        let then = change_of does.opened s.after in
        let comes : ComesTo then a left_after (ended_outcome 1 (is_refused kind)) state (asked ∷ []) = record {
          fresh = does.fresh;
          says = does.steps.says;
          count = refl;
          status = ap (λ (b : Bool). cond b 1 0) (kind_refused kind (step_of state asked).refused does.steps.kind ∙ sym (or-false (step_of state asked).refused));
          middle = s.after;
          steps = (s.after, kind, does.steps, refl);
          ends = (inr (asked, asks, refl), asked_all a asked asks, refl);
        } in
        inr (state, asked ∷ [], record { says = does.says; opened = does.opened; opens = does.opens; comes = subst (λ (o : Outcome). ComesTo then a left_after o state (asked ∷ [])) (sym is) comes })

-- ---- the causes of a run that came to no command

no_disk : (stop : Stop) → ComesFirst stop → is_disk_fault stop ≡ false
no_disk Usage why = refl
no_disk (Damaged name) why = refl
no_disk DiskFault (inl is) = absurd (cc)
no_disk DiskFault (inr is) = absurd is
no_disk InputFault why = refl
no_disk OutputFault why = refl
no_disk InputLimit why = refl
no_disk Memory why = refl

no_output : (stop : Stop) → ComesFirst stop → is_output_fault stop ≡ false
no_output Usage why = refl
no_output (Damaged name) why = refl
no_output DiskFault why = refl
no_output InputFault why = refl
no_output OutputFault (inl is) = absurd (cc)
no_output OutputFault (inr is) = absurd is
no_output InputLimit why = refl
no_output Memory why = refl

not_after : (words : List (List ℕ)) (stop : Stop) → ComesFirst stop → IsAfterReading words (Some stop) → ⊥
not_after words Usage why after = after
not_after words (Damaged name) (inl is) after = absurd (cc)
not_after words (Damaged name) (inr is) after = is
not_after words DiskFault (inl is) after = absurd (cc)
not_after words DiskFault (inr is) after = is
not_after words InputFault why after = after
not_after words OutputFault (inl is) after = absurd (cc)
not_after words OutputFault (inr is) after = is
not_after words InputLimit why after = after
not_after words Memory why after = after

no_damage : (name : List ℕ) → ComesFirst (Damaged name) → ⊥
no_damage name (inl is) = absurd (cc)
no_damage name (inr is) = is

module _ (a : Asking) (single : AreRun a.words → ⊥) (stop : Stop) (why : ComesFirst stop) where
  usage_first : (stop ≡ Usage → IsNoCommand a.words) → (IsNoCommand a.words → (stop ≡ Usage) ⊎ ((stop ≡ Memory) × HaveTerms a.words)) → UsageCause a.words (Some stop)
  usage_first usage none = (λ e. (usage (some_is stop Usage e), single), λ no. of_stop (none no.0))
    where
      of_stop : (stop ≡ Usage) ⊎ ((stop ≡ Memory) × HaveTerms a.words) → (Some stop ≡ Some Usage) ⊎ ((Some stop ≡ Some Memory) × HaveTerms a.words)
      of_stop (inl e) = inl (ap Some e)
      of_stop (inr (e, terms)) = inr (ap Some e, terms)

  limit_first : (left_after : List ℕ) → (stop ≡ InputLimit → AwaitBody a.words) → (IsTrue a.tells → stop ≡ InputLimit → IsOverLimit a.left left_after) → LimitCause a left_after (Some stop)
  limit_first left_after read over = (
    λ e. (inr (read (some_is stop InputLimit e)), λ told. over told (some_is stop InputLimit e)),
    λ reading told long after. not_after a.words stop why after,
  )

  pub cause_first : (o : Outside) (outcome : Outcome) → outcome ≡ stopped_outcome 0 stop → (left_after : List ℕ) (faults faults_after : ℕ)
      → (stop ≡ Usage → IsNoCommand a.words) → (IsNoCommand a.words → (stop ≡ Usage) ⊎ ((stop ≡ Memory) × HaveTerms a.words)) → (stop ≡ InputLimit → AwaitBody a.words)
      → (IsTrue a.tells → stop ≡ InputLimit → IsOverLimit a.left left_after) → CountsFault (is_input_fault stop) faults faults_after
      → HasCause (change_of o o) a left_after faults faults_after outcome.stop
  cause_first o outcome is left_after faults faults_after usage none read over counts =
      let ends : Ends (change_of o o) a left_after (stopped_outcome 0 stop) = ends_first (change_of o o) a left_after (stopped_outcome 0 stop) stop refl single why (no_change o) refl in
      let cause : HasCause (change_of o o) a left_after faults faults_after (Some stop) = record {
        usage = usage_first usage none;
        disk = subst (λ (b : Bool). CountsFault b o.disk_faults o.disk_faults) (sym (no_disk stop why)) refl;
        output = subst (λ (b : Bool). CountsFault b o.say_faults o.say_faults) (sym (no_output stop why)) refl;
        input = counts;
        damaged = λ told. damaged_cause (change_of o o) a left_after (stopped_outcome 0 stop) ends (λ name e. absurd (no_damage name (subst ComesFirst (some_is stop (Damaged name) e) why)));
        limit = limit_first left_after read over;
      } in
      subst (λ (out : Outcome). HasCause (change_of o o) a left_after faults faults_after out.stop) (sym is) cause

-- ---- the causes of a run that read its command

module _ (s : Change) (a : Asking) (single : AreRun a.words → ⊥) (command : IsNoCommand a.words → ⊥) (left_after : List ℕ) (faults faults_after : ℕ) (quiet : faults_after ≡ faults)
    (short : IsTrue a.tells → AwaitBody a.words → length a.left < 2 ^ 40) where
  usage_read : (stop : Option Stop) → (stop ≡ Some Usage → ⊥) → UsageCause a.words stop
  usage_read stop later = (λ e. absurd (later e), λ none. absurd (command none.0))

  limit_read : (stop : Option Stop) → (stop ≡ Some InputLimit → ⊥) → LimitCause a left_after stop
  limit_read stop later = (λ e. absurd (later e), λ reading told long after. let below = short told (reads_body a.words single reading) in omega (arith, below, long))

  input_read : (stop : Stop) → (IsReadingStop stop → ⊥) → CountsFault (is_input_fault stop) faults faults_after
  input_read InputFault later = absurd (later tt)
  input_read Usage later = quiet
  input_read (Damaged name) later = quiet
  input_read DiskFault later = quiet
  input_read OutputFault later = quiet
  input_read InputLimit later = quiet
  input_read Memory later = quiet

  later_usage : (stop : Stop) → (IsReadingStop stop → ⊥) → Some stop ≡ Some Usage → ⊥
  later_usage stop later e = later (subst IsReadingStop (sym (some_is stop Usage e)) tt)

  later_limit : (stop : Stop) → (IsReadingStop stop → ⊥) → Some stop ≡ Some InputLimit → ⊥
  later_limit stop later e = later (subst IsReadingStop (sym (some_is stop InputLimit e)) tt)

  pub cause_stopped : (outcome : Outcome) (stop : Stop) → outcome ≡ stopped_outcome 0 stop → (IsReadingStop stop → ⊥)
      → CountsFault (is_disk_fault stop) s.before.disk_faults s.after.disk_faults → CountsFault (is_output_fault stop) s.before.say_faults s.after.say_faults
      → (IsHonest s.after → Ends s a left_after outcome) → (IsHonest s.after → (name : List ℕ) → stop ≡ Damaged name → IsFirstDamaged s.before.folder name)
      → HasCause s a left_after faults faults_after outcome.stop
  cause_stopped outcome stop is later disk output ends named =
      let cause : HasCause s a left_after faults faults_after (Some stop) = record {
        usage = usage_read (Some stop) (later_usage stop later);
        disk = disk;
        output = output;
        input = input_read stop later;
        damaged = λ told. damaged_cause s a left_after (stopped_outcome 0 stop) (subst (λ (o : Outcome). Ends s a left_after o) is (ends told)) (λ name e. named told name (some_is stop (Damaged name) e));
        limit = limit_read (Some stop) (later_limit stop later);
      } in
      subst (λ (o : Outcome). HasCause s a left_after faults faults_after o.stop) (sym is) cause

  pub cause_answered : (outcome : Outcome) (refused : Bool) → outcome ≡ ended_outcome 1 refused
      → s.after.disk_faults ≡ s.before.disk_faults → s.after.say_faults ≡ s.before.say_faults → (IsHonest s.after → Ends s a left_after outcome)
      → HasCause s a left_after faults faults_after outcome.stop
  cause_answered outcome refused is disk output ends =
      let cause : HasCause s a left_after faults faults_after None = record {
        usage = usage_read None (λ e. cc);
        disk = disk;
        output = output;
        input = quiet;
        damaged = λ told. damaged_cause s a left_after (ended_outcome 1 refused) (subst (λ (o : Outcome). Ends s a left_after o) is (ends told)) (λ name e. absurd (cc));
        limit = limit_read None (λ e. cc);
      } in
      subst (λ (o : Outcome). HasCause s a left_after faults faults_after o.stop) (sym is) cause

-- ---- the status

pub status_stopped : (words : List (List ℕ)) (outcome : Outcome) (stop : Stop) → outcome ≡ stopped_outcome 0 stop → HasStatus words outcome
status_stopped words outcome stop is =
    let status : HasStatus words (stopped_outcome 0 stop) = record { status = refl; single = λ _. refl } in
    subst (λ (o : Outcome). HasStatus words o) (sym is) status

pub status_answered : (words : List (List ℕ)) (outcome : Outcome) (refused : Bool) → outcome ≡ ended_outcome 1 refused → HasStatus words outcome
status_answered words outcome true is =
    let status : HasStatus words (ended_outcome 1 true) = record { status = omega arith; single = λ _. refl } in
    subst (λ (o : Outcome). HasStatus words o) (sym is) status
status_answered words outcome false is =
    let status : HasStatus words (ended_outcome 1 false) = record { status = omega arith; single = λ _. refl } in
    subst (λ (o : Outcome). HasStatus words o) (sym is) status
