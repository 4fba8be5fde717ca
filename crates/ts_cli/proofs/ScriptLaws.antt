-- A run of a script: how far it has come, how it ends, and the causes of its stops.
use Rattle.std.proofs.Common.{◌≡◌, ℕ, ◌+◌, ◌^◌, ◌<◌, ◌≤◌, ◌==◌, Bool, true, false, ◌||◌, cond, IsTrue, List, [], ◌∷◌, ◌++◌, length, map, Option, None, Some, Ok, Err, IfSome, IfNone, inl, inr, refl, sym, ap, ◌∙◌, subst, arith, length-append, get_or}
use Rattle.std.specs.Prelude.{All}
use Rattle.std.proofs.lemmas.List.Elements.{All-append, All-nil}
use Rattle.ts_site.specs.Faults.{CountsFault}
use Rattle.ts_site.specs.Outside.{IsHonest, Outside, OnlyReads}
use Rattle.ts_script.specs.Cutting.{IsFresh, Took, buffered, lines_to_come, next_offset, progress}
use Rattle.ts_script.specs.Lines.{feed_of, line_view, lines_of, whole_lines}
use Rattle.ts_script.specs.Next.{GivesCommand, NextCommandIs, WaitsForMore}
use Rattle.ts_script.specs.Script.{AreWholeCommands}
use Rattle.ts_script.proofs.CuttingLemmas.{unended-before}
use Rattle.ts_script.proofs.LinesLemmas.{length-slice_range}
use Rattle.ts_script.proofs.WholeLemmas.{are_whole}
use Rattle.ts_script.specs.declared.command.Command.{Command}
use Rattle.ts_script.specs.declared.cutter.LineCutter.{LineCutter}
use Rattle.ts_store.specs.declared.session.Session.{Session}
use Rattle.ts_store.specs.declared.stop.Kind.{Kind}
use Rattle.ts_store.specs.declared.stop.Stop.{Stop}
use Rattle.ts_store.specs.declared.stop.Stop.TheVariants.{Usage, Damaged, DiskFault, InputFault, OutputFault, InputLimit, Memory}
use Rattle.ts_store.specs.FolderSays.{FolderSays, IsFirstDamaged}
use Rattle.ts_store.specs.Keeps.{Keeps}
use Rattle.ts_store.specs.Safe.{StopsSettled}
use Rattle.ts_store.specs.State.{IsFresh as IsFreshState, State}
use Rattle.ts_store.specs.Step.{step_of}
use Rattle.ts_store.specs.Steps.{after, any_refused}
use Rattle.ts_store.specs.Stops.{IsOpeningStop, IsStepStop, is_disk_fault, is_output_fault}
use Rattle.ts_cli.specs.Asked.{AreFirst, AreGiven, AreNoWords, Asking, IsOfScript, asking, run_words}
use Rattle.ts_cli.specs.Causes.{HasCause, IsOverLimit, LimitCause, is_input_fault, is_stop_and}
use Rattle.ts_cli.specs.Change.{change_of}
use Rattle.ts_cli.specs.Ends.{AreAllWhole, AreDone, ComesTo, Ends, IsBetween, Opens, StepsFrom}
use Rattle.ts_cli.specs.Outcomes.{IsAfterReading, ended_outcome, stopped_outcome}
use Rattle.ts_cli.specs.Script.{IsScriptStop}
use Rattle.ts_cli.specs.Tally.{is_refused}
use Rattle.ts_cli.specs.declared.outcome.Outcome.{Outcome}
use Rattle.ts_cli.specs.declared.tally.Tally.{Tally}
use Rattle.ts_cli.proofs.CommandsLemmas.{AreFirstWhole, after_more, first_more, first_whole, refused_more, whole_all, whole_more}
use Rattle.ts_cli.proofs.HeadlineLaws.{damaged_cause}
use Rattle.ts_cli.proofs.SingleLaws.{ends_opening, kind_refused}
use Rattle.ts_cli.proofs.StepsLemmas.{done_more, reads_all}

-- where the input is told, the commands are the first ones of its script, and the rest of its lines is to come
pub record HasRead (left : List ℕ) (cutter : LineCutter) (left_now : List ℕ) (done : List Command) : Type 0 where
  pub rest : List (List ℕ)
  pub first : AreFirst 0 (lines_of left) done (progress cutter).lines rest
  pub to_come : lines_to_come cutter left_now ≡ map line_view rest
  pub whole : (progress cutter).has_ended ≡ false → AreFirstWhole 0 (lines_of left) done (progress cutter).lines rest

-- These commands were done, from the state that the folder told when it was opened. The session stands for the state after them, and
-- the tally counts them.
pub record SoFar (tells : Bool) (left : List ℕ) (before now : Outside) (state : State) (session : Session) (tally : Tally) (cutter : LineCutter) (left_now : List ℕ) : Type 0 where
  pub done : List Command
  pub steps : AreDone (change_of before now) state done
  pub keeps : Keeps session (after state done (length done))
  pub count : tally.done ≡ length done
  pub refused : tally.refused ≡ any_refused state done
  pub each : All IsOfScript done
  pub read : IsTrue tells → HasRead left cutter left_now done

pub so_far_none : (tells : Bool) (left : List ℕ) (before : Outside) (state : State) (session : Session) (cutter : LineCutter) (most : ℕ) → Keeps session state → IsFresh cutter most
    → lines_to_come cutter left ≡ map line_view (lines_of left) → SoFar tells left before before state session (record { done = 0; refused = false }) cutter left
so_far_none tells left before state session cutter most keeps fresh lines = record {
  done = [];
  steps = refl;
  keeps = keeps;
  count = refl;
  refused = refl;
  each = All-nil IsOfScript;
  read = λ told. record { rest = lines_of left; first = (fresh.number, refl); to_come = lines; whole = λ unended. (fresh.number, refl) };
}

-- the same of an input that may have ceased to tell
pub so_far_fallen : (tells tells_then : Bool) (left : List ℕ) (before now : Outside) (state : State) (session : Session) (tally : Tally) (cutter : LineCutter) (left_now : List ℕ) → (IsTrue tells_then → IsTrue tells)
    → SoFar tells left before now state session tally cutter left_now → SoFar tells_then left before now state session tally cutter left_now
so_far_fallen tells tells_then left before now state session tally cutter left_now falls was =
    record { done = was.done; steps = was.steps; keeps = was.keeps; count = was.count; refused = was.refused; each = was.each; read = λ told. was.read (falls told) }

one_of : (asked : Command) → IsOfScript asked → All IsOfScript (asked ∷ [])
one_of asked is k d below =
    let first : k ≡ 0 = omega (arith, below) in
    subst (λ (n : ℕ). IsOfScript (get_or (asked ∷ []) n d)) (sym first) is

-- a script that was not begun, since memory ran out
pub comes_none : (tells : Bool) (left left_after : List ℕ) (before : Outside) (state : State) (outcome : Outcome) → outcome ≡ stopped_outcome 0 Memory → IsFreshState state → FolderSays before.folder state
    → ComesTo (change_of before before) (asking run_words tells left) left_after outcome state []
comes_none tells left left_after before state outcome is_outcome fresh says =
    let comes : ComesTo (change_of before before) (asking run_words tells left) left_after (stopped_outcome 0 Memory) state [] = record {
      fresh = fresh;
      says = says;
      count = refl;
      status = refl;
      middle = before;
      steps = refl;
      ends = inl (refl, tt, inl (refl, record { each = All-nil IsOfScript; first = λ told. (0, lines_of left, (refl, refl)) }), λ input. absurd (input refl), refl);
    } in
    subst (λ (o : Outcome). ComesTo (change_of before before) (asking run_words tells left) left_after o state []) (sym is_outcome) comes

module _ (tells : Bool) (left : List ℕ) (before now : Outside) (state : State) (session : Session) (tally : Tally) (cutter : LineCutter) (left_now : List ℕ)
    (was : SoFar tells left before now state session tally cutter left_now) where
  given_so_far : AreGiven (asking run_words tells left) was.done
  given_so_far = inl (refl, record { each = was.each; first = λ told. let read = was.read told in ((progress cutter).lines, read.rest, read.first) })

  pub here : State
  here = after state was.done (length was.done)

  module _ (asked : Command) (is : IsOfScript asked) (cutter_after : LineCutter) (left_after : List ℕ)
      (gives : IsTrue tells → (lines : List (List ℕ)) → lines_to_come cutter left_now ≡ map line_view lines → GivesCommand cutter cutter_after left_after lines asked)
      (ended : IsTrue tells → cutter.has_ended ≡ true → cutter_after.has_ended ≡ true) where
    read_more : (told : IsTrue tells) → HasRead left cutter_after left_after (was.done ++ asked ∷ [])
    read_more told =
        let read = was.read told in
        let one = gives told read.rest read.to_come in
        record {
          rest = one.rest;
          first = subst (λ (n : ℕ). AreFirst 0 (lines_of left) (was.done ++ asked ∷ []) n one.rest) (sym one.number)
              (first_more 0 (lines_of left) was.done (progress cutter).lines read.rest asked one.taken one.rest read.first one.next);
          to_come = one.to_come;
          whole = λ unended.
              subst (λ (n : ℕ). AreFirstWhole 0 (lines_of left) (was.done ++ asked ∷ []) n one.rest) (sym one.number)
              (whole_more 0 (lines_of left) was.done (progress cutter).lines read.rest asked one.taken one.rest
              (read.whole (unended-before cutter.has_ended cutter_after.has_ended (ended told) unended)) one.next.all (one.whole unended));
        }

    each_more : All IsOfScript (was.done ++ asked ∷ [])
    each_more = All-append IsOfScript was.done (asked ∷ []) was.each (one_of asked is)

    -- one command more was done
    pub so_far_more : (then : Outside) (kind : Kind) (session_after : Session) (tally_after : Tally)
        → StepsFrom (change_of now then) (after state was.done (length was.done)) asked (Ok kind)
        → Keeps session_after (step_of (after state was.done (length was.done)) asked).state
        → tally_after ≡ record { done = tally.done + 1; refused = tally.refused || is_refused kind }
        → SoFar tells left before then state session_after tally_after cutter_after left_after
    so_far_more then kind session_after tally_after does keeps counts = record {
      done = was.done ++ asked ∷ [];
      steps = done_more before now then state was.done asked kind was.steps does;
      keeps = subst (λ (st : State). Keeps session_after st) (sym (after_more state was.done asked)) keeps;
      count = ap (λ (t : Tally). t.done) counts ∙ omega (arith, was.count, length-append was.done (asked ∷ []));
      refused = ap (λ (t : Tally). t.refused) counts
          ∙ (λ i. was.refused i || kind_refused kind (step_of (after state was.done (length was.done)) asked).refused does.kind i)
          ∙ sym (refused_more state was.done asked);
      each = each_more;
      read = read_more;
    }

    -- its step came to a stop
    pub comes_stepped : (then : Outside) (outcome : Outcome) (stop : Stop) → outcome ≡ stopped_outcome tally.done stop → IsFreshState state → FolderSays before.folder state → IsStepStop stop
        → StepsFrom (change_of now then) (after state was.done (length was.done)) asked (Err stop)
        → (left_end : List ℕ) → ComesTo (change_of before then) (asking run_words tells left) left_end outcome state was.done
    comes_stepped then outcome stop is_outcome fresh says why does left_end =
        let comes : ComesTo (change_of before then) (asking run_words tells left) left_end (stopped_outcome tally.done stop) state was.done = record {
          fresh = fresh;
          says = says;
          count = was.count;
          status = refl;
          middle = now;
          steps = was.steps;
          ends = inr (asked, inl (refl, record { each = each_more; first = λ told. let read = read_more told in ((progress cutter_after).lines, read.rest, read.first) }), why, does);
        } in
        subst (λ (o : Outcome). ComesTo (change_of before then) (asking run_words tells left) left_end o state was.done) (sym is_outcome) comes

  -- the script was read no further
  pub comes_between : (outcome : Outcome) (stop : Stop) → outcome ≡ stopped_outcome tally.done stop → IsFreshState state → FolderSays before.folder state → IsBetween stop
      → (left_end : List ℕ) → ((stop ≡ Memory → ⊥) → IsTrue tells → AreAllWhole left left_end was.done) → ComesTo (change_of before now) (asking run_words tells left) left_end outcome state was.done
  comes_between outcome stop is_outcome fresh says why left_end whole =
      let comes : ComesTo (change_of before now) (asking run_words tells left) left_end (stopped_outcome tally.done stop) state was.done = record {
        fresh = fresh;
        says = says;
        count = was.count;
        status = refl;
        middle = now;
        steps = was.steps;
        ends = inl (refl, why, given_so_far, whole, refl);
      } in
      subst (λ (o : Outcome). ComesTo (change_of before now) (asking run_words tells left) left_end o state was.done) (sym is_outcome) comes

  -- where the input stopped that, each command that was taken whole was done
  pub stopped_whole : (start cutter_after : LineCutter) (bytes left_after : List ℕ) (told : IsTrue tells) → ((all : List ℕ) → lines_to_come start all ≡ map line_view (lines_of all)) → (progress start).lines ≡ 0
      → Took start cutter_after bytes → left ≡ bytes ++ left_after → cutter_after.has_ended ≡ false → (cutter.has_ended ≡ true → cutter_after.has_ended ≡ true)
      → WaitsForMore cutter cutter_after (was.read told).rest → AreAllWhole left left_after was.done
  stopped_whole start cutter_after bytes left_after told fresh none took parts unended ended waits =
      let read = was.read told in
      let (whole, is, count, are) = whole_all 0 (lines_of left) was.done (progress cutter).lines read.rest waits.given waits.rest (read.whole (unended-before cutter.has_ended cutter_after.has_ended ended unended)) waits.all waits.none in
      let same : whole ≡ whole_lines bytes =
      are_whole start cutter_after bytes left_after whole waits.rest fresh none took waits.waits unended (ap lines_of (sym parts) ∙ is) (omega (arith, count, waits.number)) in
      (bytes, parts, subst (λ (ls : List (List ℕ)). AreWholeCommands 0 ls was.done) same are)

  -- it was read to its end
  pub comes_ended : (outcome : Outcome) → outcome ≡ ended_outcome tally.done tally.refused → IsFreshState state → FolderSays before.folder state
      → (cutter_after : LineCutter) (left_after : List ℕ) → (IsTrue tells → (lines : List (List ℕ)) → lines_to_come cutter left_now ≡ map line_view lines → NextCommandIs cutter cutter_after left_after lines None)
      → (left_end : List ℕ) → ComesTo (change_of before now) (asking run_words tells left) left_end outcome state was.done
  comes_ended outcome is_outcome fresh says cutter_after left_after none left_end =
      let comes : ComesTo (change_of before now) (asking run_words tells left) left_end (ended_outcome tally.done tally.refused) state was.done = record {
        fresh = fresh;
        says = says;
        count = was.count;
        status = ap (λ (b : Bool). cond b 1 0) was.refused;
        middle = now;
        steps = was.steps;
        ends = (
          given_so_far,
          (λ told. let read = was.read told in
              inl (refl, first_whole 0 (lines_of left) was.done (progress cutter).lines read.rest read.first (none told read.rest read.to_come).0)),
          refl,
        );
      } in
      subst (λ (o : Outcome). ComesTo (change_of before now) (asking run_words tells left) left_end o state was.done) (sym is_outcome) comes

-- ---- with the opening before it

pub ends_opened : (before opened now : Outside) (a : Asking) (left_after : List ℕ) (outcome : Outcome) (state : State) (done : List Command) → Opens before opened
    → ComesTo (change_of opened now) a left_after outcome state done → Ends (change_of before now) a left_after outcome
ends_opened before opened now a left_after outcome state done opens comes = inr (
  state,
  done,
  record { says = subst (λ f. FolderSays f state) opens.all.folder comes.says; opened = opened; opens = opens; comes = comes },
)

-- ---- the input

-- the offset of the next line is within the limit
feed_within : (r : Bool) (text : List ℕ) → feed_of r text ≤ length text
feed_within false text = omega arith
feed_within true [] = omega arith
feed_within true (b ∷ text) = by_test (b == 10)
  where
    by_test : (is : Bool) → cond is 1 0 ≤ length (b ∷ text)
    by_test true = omega arith
    by_test false = omega arith

pub offset_within : (c : LineCutter) → next_offset c ≤ (progress c).limit
offset_within c =
    let feed = feed_within c.after_return (buffered c) in
    let fits : c.end ≤ length c.buffer.items = omega (arith, c.in_room, c.room, c.buffer.ok.0) in
    let size = length-slice_range c.buffer.items c.start c.end (omega (arith, c.ordered, c.reached)) fits in
    omega (arith, feed, size, c.counted, c.within, c.ordered, c.reached)

-- the limit's stop
pub limit_stopped : (outcome : Outcome) (done : ℕ) (stop : Stop) (over : Type 0) → outcome ≡ stopped_outcome done stop → (stop ≡ InputLimit → over) → IfSome outcome.stop (λ given. given ≡ InputLimit → over)
limit_stopped outcome done stop over is holds = subst (λ (o : Outcome). IfSome o.stop (λ given. given ≡ InputLimit → over)) (sym is) holds

pub none_ended : (outcome : Outcome) (done : ℕ) (refused : Bool) (fact : Type 0) → outcome ≡ ended_outcome done refused → fact → IfNone outcome.stop fact
none_ended outcome done refused fact is holds = subst (λ (o : Outcome). IfNone o.stop fact) (sym is) holds

-- ---- the causes

is_run : AreNoWords run_words → ⊥
is_run none = none.1 refl

not_usage : (stop : Option Stop) → IfSome stop IsScriptStop → stop ≡ Some Usage → ⊥
not_usage None why e = cc
not_usage (Some Usage) why e = why
not_usage (Some (Damaged name)) why e = why
not_usage (Some DiskFault) why e = cc
not_usage (Some InputFault) why e = cc
not_usage (Some OutputFault) why e = cc
not_usage (Some InputLimit) why e = cc
not_usage (Some Memory) why e = cc

not_damaged_stop : (stop : Option Stop) (name : List ℕ) → IfSome stop IsScriptStop → stop ≡ Some (Damaged name) → ⊥
not_damaged_stop None name why e = cc
not_damaged_stop (Some Usage) name why e = why
not_damaged_stop (Some (Damaged other)) name why e = why
not_damaged_stop (Some DiskFault) name why e = cc
not_damaged_stop (Some InputFault) name why e = cc
not_damaged_stop (Some OutputFault) name why e = cc
not_damaged_stop (Some InputLimit) name why e = cc
not_damaged_stop (Some Memory) name why e = cc

-- the stop of an opening
module _ (before after : Outside) (tells : Bool) (left : List ℕ) (faults : ℕ) where
  opening_output : (stop : Stop) → IsOpeningStop stop → after.say_faults ≡ before.say_faults → CountsFault (is_output_fault stop) before.say_faults after.say_faults
  opening_output (Damaged name) why same = same
  opening_output DiskFault why same = same
  opening_output Memory why same = same
  opening_output Usage why same = absurd why
  opening_output InputFault why same = absurd why
  opening_output InputLimit why same = absurd why
  opening_output OutputFault why same = absurd why

  opening_input : (stop : Stop) → IsOpeningStop stop → CountsFault (is_input_fault stop) faults faults
  opening_input (Damaged name) why = refl
  opening_input DiskFault why = refl
  opening_input Memory why = refl
  opening_input Usage why = absurd why
  opening_input InputFault why = absurd why
  opening_input InputLimit why = absurd why
  opening_input OutputFault why = absurd why

  opening_usage : (stop : Stop) → IsOpeningStop stop → Some stop ≡ Some Usage → ⊥
  opening_usage (Damaged name) why e = cc
  opening_usage DiskFault why e = cc
  opening_usage Memory why e = cc
  opening_usage Usage why e = why
  opening_usage InputFault why e = why
  opening_usage InputLimit why e = why
  opening_usage OutputFault why e = why

  opening_limit : (stop : Stop) → IsOpeningStop stop → Some stop ≡ Some InputLimit → ⊥
  opening_limit (Damaged name) why e = cc
  opening_limit DiskFault why e = cc
  opening_limit Memory why e = cc
  opening_limit Usage why e = why
  opening_limit InputFault why e = why
  opening_limit InputLimit why e = why
  opening_limit OutputFault why e = why

  opening_after : (stop : Stop) → IsOpeningStop stop → IsAfterReading run_words (Some stop) → ⊥
  opening_after (Damaged name) why after = after refl
  opening_after DiskFault why after = after refl
  opening_after Memory why after = after
  opening_after Usage why after = why
  opening_after InputFault why after = why
  opening_after InputLimit why after = why
  opening_after OutputFault why after = why

  pub cause_opening : (outcome : Outcome) (stop : Stop) → outcome ≡ stopped_outcome 0 stop → IsOpeningStop stop → OnlyReads (is_disk_fault stop) before after → StopsSettled stop before after
      → (IsHonest after → (name : List ℕ) → stop ≡ Damaged name → IsFirstDamaged before.folder name)
      → HasCause (change_of before after) (asking run_words tells left) left faults faults outcome.stop
  cause_opening outcome stop is why reads settles named =
      let ends : IsHonest after → Ends (change_of before after) (asking run_words tells left) left (stopped_outcome 0 stop) = λ honest.
      ends_opening (change_of before after) (asking run_words tells left) left (stopped_outcome 0 stop) stop refl honest (why, reads_all (is_disk_fault stop) before after reads honest, settles) in
      let cause : HasCause (change_of before after) (asking run_words tells left) left faults faults (Some stop) = record {
        usage = (λ e. absurd (opening_usage stop why e), λ none. absurd (is_run none));
        disk = reads.counts;
        output = opening_output stop why reads.output.same_faults;
        input = opening_input stop why;
        damaged = λ told. damaged_cause (change_of before after) (asking run_words tells left) left (stopped_outcome 0 stop) (ends told) (λ name e. named told name cc);
        limit = (λ e. absurd (opening_limit stop why e), λ reading told long after. opening_after stop why after);
      } in
      subst (λ (o : Outcome). HasCause (change_of before after) (asking run_words tells left) left faults faults o.stop) (sym is) cause

-- the stop, or the end, of what follows the opening
module _ (before after : Outside) (tells : Bool) (left left_after : List ℕ) (faults faults_after : ℕ) where
  script_limit : (stop : Option Stop) → IfSome stop IsScriptStop → (IsTrue tells → IfSome stop (λ given. given ≡ InputLimit → IsOverLimit left left_after)) → (IsTrue tells → IfNone stop (length left < 2 ^ 40))
      → LimitCause (asking run_words tells left) left_after stop
  script_limit None why over short = (λ e. absurd (cc), λ reading told long after. let below = short told in omega (arith, below, long))
  script_limit (Some InputLimit) why over short = (λ e. (inl refl, λ told. over told refl), λ reading told long after. after)
  script_limit (Some DiskFault) why over short = (λ e. absurd (cc), λ reading told long after. after refl)
  script_limit (Some OutputFault) why over short = (λ e. absurd (cc), λ reading told long after. after refl)
  script_limit (Some (Damaged name)) why over short = absurd why
  script_limit (Some Usage) why over short = absurd why
  script_limit (Some InputFault) why over short = (λ e. absurd (cc), λ reading told long after. after)
  script_limit (Some Memory) why over short = (λ e. absurd (cc), λ reading told long after. after)

  pub cause_script : (outcome : Outcome) → IfSome outcome.stop IsScriptStop
      → CountsFault (is_stop_and is_disk_fault outcome.stop) before.disk_faults after.disk_faults → CountsFault (is_stop_and is_output_fault outcome.stop) before.say_faults after.say_faults
      → CountsFault (is_stop_and is_input_fault outcome.stop) faults faults_after
      → (IsTrue tells → IfSome outcome.stop (λ given. given ≡ InputLimit → IsOverLimit left left_after)) → (IsTrue tells → IfNone outcome.stop (length left < 2 ^ 40))
      → (IsHonest after → Ends (change_of before after) (asking run_words tells left) left_after outcome)
      → HasCause (change_of before after) (asking run_words tells left) left_after faults faults_after outcome.stop
  cause_script outcome why disk output input over short ends = record {
    usage = (λ e. absurd (not_usage outcome.stop why e), λ none. absurd (is_run none));
    disk = disk;
    output = output;
    input = input;
    damaged = λ told. damaged_cause (change_of before after) (asking run_words tells left) left_after outcome (ends told) (λ name e. absurd (not_damaged_stop outcome.stop name why e));
    limit = script_limit outcome.stop why over short;
  }
