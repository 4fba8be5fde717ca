-- A crash at any moment of a run leaves a folder that stands for a prefix of its commands.
use Rattle.std.proofs.Common.{◌≡◌, ◌⊎◌, ℕ, zero, suc, ◌+◌, ◌<◌, Bool, true, false, nat_lt, List, [], ◌∷◌, ◌++◌, length, take, IsTrue, Option, None, Some, Result, Ok, Err, inl, inr, refl, sym, ap, ◌∙◌, subst, arith, append-nil, append_assoc, get_or}
use Rattle.std.proofs.lemmas.Bool.{ltb-false, ltb-true}
use Rattle.std.proofs.lemmas.List.{take_all}
use Rattle.ts_site.specs.Crash.{AddsNone, CrashState, IsImage, settled}
use Rattle.ts_site.specs.Folder.{Folder}
use Rattle.ts_site.specs.Moments.{GoesOn, Moment}
use Rattle.ts_site.specs.Outside.{AddsNoImage, Falls, IsHonest, Outside, moments_of}
use Rattle.ts_site.proofs.CrashLemmas.{adds_none_more, adds_none_same}
use Rattle.ts_site.proofs.GoesLemmas.{falls_more, goes_more, goes_none, goes_weaker}
use Rattle.ts_script.specs.declared.command.Command.{Command}
use Rattle.ts_store.specs.declared.stop.Kind.{Kind}
use Rattle.ts_store.specs.declared.stop.Stop.{Stop}
use Rattle.ts_store.specs.Safe.{IsSafe, IsSettledAt, IsStepMoment, SettlesAll}
use Rattle.ts_store.specs.Stands.{Stands}
use Rattle.ts_store.specs.State.{IsFresh, State}
use Rattle.ts_store.specs.Step.{step_of}
use Rattle.ts_store.specs.Steps.{after, answer_at, answers}
use Rattle.ts_store.proofs.SafeLaws.{agrees_stands}
use Rattle.ts_store.proofs.SettledLaws.{leaves_settled, settled_stands}
use Rattle.ts_cli.specs.Asked.{AreCommands, Asking}
use Rattle.ts_cli.specs.Change.{Change, change_of}
use Rattle.ts_cli.specs.Crash.{IsCrashSafe, IsOpeningMoment, IsPrefixMoment, LeavesAfter}
use Rattle.ts_cli.specs.Ends.{AreDone, ComesTo, Ends, EndsAfter, IsUnsettled, LeavesUnsettled, Opens, StepsFrom, StopsEarly}
use Rattle.ts_cli.specs.declared.outcome.Outcome.{Outcome}
use Rattle.ts_cli.proofs.CommandsLemmas.{after_front, after_next, after_none, answers_none}
use Rattle.ts_cli.proofs.HeadlineLaws.{all_same, given_first, same_state}
use Rattle.ts_cli.proofs.StepsLemmas.{done_telling}
use Rattle.ts_store.proofs.TellsLaws.{step_tells}

-- ---- between two steps

proper_none : (state : State) (commands : List Command) → (0 ≡ length commands) ⊎ (0 < length (answer_at state commands 0))
proper_none state [] = inl refl
proper_none state (asked ∷ rest) = inr (step_tells state asked)

module _ (a b : Outside) (state : State) (commands : List Command) (at : IsSettledAt Stands state a) (adds : AddsNoImage a b) (honest : IsHonest b) where
  still_moment : (moment : Moment) → AddsNone moment.crash a.crash × (moment.told ≡ a.told) → IsPrefixMoment state commands a.told moment
  still_moment moment (none, same) = record {
    done = 0;
    within = omega arith;
    count = 0;
    front = same ∙ sym (append-nil a.told) ∙ ap (λ (l : List ℕ). a.told ++ l) (sym (append-nil (answers state commands 0) ∙ answers_none state commands));
    proper = proper_none state commands;
    leaves = λ image here. inl (subst (λ (s : State). Stands image s) (sym (after_none state commands)) (settled_stands a state moment.crash at none image here));
  }

  still_prefix : GoesOn (IsPrefixMoment state commands a.told) (moments_of a) (moments_of b)
  still_prefix = goes_weaker (λ moment. AddsNone moment.crash a.crash × (moment.told ≡ a.told)) (IsPrefixMoment state commands a.told) (moments_of a) (moments_of b) still_moment (adds.moments honest)

-- ---- the first step

module _ (state : State) (asked : Command) (rest : List Command) where
  abbrev next : State
  next = (step_of state asked).state

  abbrev text : List ℕ
  text = (step_of state asked).told

  proper_one : (suc zero ≡ length (asked ∷ rest)) ⊎ (0 < length (answer_at state (asked ∷ rest) (suc zero)))
  proper_one = by_rest (proper_none next rest)
    where
      by_rest : (0 ≡ length rest) ⊎ (0 < length (answer_at next rest 0)) → (suc zero ≡ length (asked ∷ rest)) ⊎ (0 < length (answer_at state (asked ∷ rest) (suc zero)))
      by_rest (inl none) = inl (ap suc none)
      by_rest (inr some) = inr some

  step_moment : (told : List ℕ) (moment : Moment) → IsStepMoment Stands state (step_of state asked) told moment → IsPrefixMoment state (asked ∷ rest) told moment
  step_moment told moment is = by_count (nat_lt is.count (length text)) refl
    where
      after_one : (image : Folder) → Stands image state ⊎ Stands image next → Stands image (after state (asked ∷ rest) zero) ⊎ Stands image (after state (asked ∷ rest) (zero + 1))
      after_one image (inl stands) = inl stands
      after_one image (inr stands) = inr (subst (λ (s : State). Stands image s) (sym (after_none next rest)) stands)

      by_count : (less : Bool) → nat_lt is.count (length text) ≡ less → IsPrefixMoment state (asked ∷ rest) told moment
      by_count true e = record {
        done = zero;
        within = omega arith;
        count = is.count;
        front = is.front;
        proper = inr (ltb-true is.count (length text) e);
        leaves = λ image here. after_one image (is.either image here);
      }
      by_count false e =
          let all = ltb-false is.count (length text) e in
          record {
            done = suc zero;
            within = omega arith;
            count = 0;
            front =
                is.front
                ∙ ap (λ (l : List ℕ). told ++ l)
                (take_all is.count text all ∙ sym (append-nil text) ∙ ap (λ (l : List ℕ). text ++ l) (sym (answers_none next rest)) ∙ sym (append-nil (text ++ answers next rest 0)));
            proper = proper_one;
            leaves = λ image here. inl (subst (λ (s : State). Stands image s) (sym (after_none next rest)) (is.whole all image here));
          }

  step_prefix : (a b : Outside) (answer : Result Kind Stop) → IsSafe Stands state (step_of state asked) answer a b → GoesOn (IsPrefixMoment state (asked ∷ rest) a.told) (moments_of a) (moments_of b)
  step_prefix a b answer safe =
      goes_weaker (IsStepMoment Stands state (step_of state asked) a.told) (IsPrefixMoment state (asked ∷ rest) a.told) (moments_of a) (moments_of b) (step_moment a.told) safe.moments

  -- moments of the later steps
  later_moment : (told told_then : List ℕ) → told_then ≡ told ++ text → (moment : Moment) → IsPrefixMoment next rest told_then moment → IsPrefixMoment state (asked ∷ rest) told moment
  later_moment told told_then was moment is =
      let more = answers next rest is.done in
      let front = take is.count (answer_at next rest is.done) in
      record {
        done = suc is.done;
        within = omega (arith, is.within);
        count = is.count;
        front =
            is.front
            ∙ ap (λ (l : List ℕ). l ++ (more ++ front)) was
            ∙ append_assoc told text (more ++ front)
            ∙ ap (λ (l : List ℕ). told ++ l) (sym (append_assoc text more front));
        proper = by_proper is.proper;
        leaves = λ image here. by_side image (is.leaves image here);
      }
    where
      by_proper : (is.done ≡ length rest) ⊎ (is.count < length (answer_at next rest is.done)) → (suc is.done ≡ length (asked ∷ rest)) ⊎ (is.count < length (answer_at state (asked ∷ rest) (suc is.done)))
      by_proper (inl all) = inl (ap suc all)
      by_proper (inr less) = inr less

      one_more : suc (is.done + 1) ≡ suc is.done + 1
      one_more = omega arith

      by_side : (image : Folder) → Stands image (after next rest is.done) ⊎ Stands image (after next rest (is.done + 1)) → Stands image (after state (asked ∷ rest) (suc is.done)) ⊎ Stands image (after state (asked ∷ rest) (suc is.done + 1))
      by_side image (inl stands) = inl stands
      by_side image (inr stands) = inr (subst (λ (n : ℕ). Stands image (after state (asked ∷ rest) n)) one_more stands)

-- ---- the steps that were done

stepped_at : (a b : Outside) (state : State) (asked : Command) (kind : Kind) → StepsFrom (change_of a b) state asked (Ok kind) → IsSettledAt Stands state a → IsSettledAt Stands (step_of state asked).state b
stepped_at a b state asked kind one at = record { is = one.stands_after at.is; leaves = (one.safe at).ok }

done_settled : (a b : Outside) (state : State) (done : List Command) → IsSettledAt Stands state a → AreDone (change_of a b) state done → IsSettledAt Stands (after state done (length done)) b
done_settled a b state [] at still = subst (λ (o : Outside). IsSettledAt Stands state o) (sym still) at
done_settled a b state (asked ∷ done) at (middle, kind, one, rest) = done_settled middle b (step_of state asked).state done (stepped_at a middle state asked kind one at) rest

done_prefix : (a b c : Outside) (state : State) (done more : List Command) → IsSettledAt Stands state a → AreDone (change_of a b) state done
    → GoesOn (IsPrefixMoment (after state done (length done)) more b.told) (moments_of b) (moments_of c) → GoesOn (IsPrefixMoment state (done ++ more) a.told) (moments_of a) (moments_of c)
done_prefix a b c state [] more at still tail = subst (λ (o : Outside). GoesOn (IsPrefixMoment state more o.told) (moments_of o) (moments_of c)) still tail
done_prefix a b c state (asked ∷ done) more at (middle, kind, one, rest) tail =
    let next = (step_of state asked).state in
    goes_more (IsPrefixMoment state (asked ∷ done ++ more) a.told) (moments_of a) (moments_of middle) (moments_of c) (step_prefix state asked (done ++ more) a middle (Ok kind) (one.safe at))
    (goes_weaker (IsPrefixMoment next (done ++ more) middle.told) (IsPrefixMoment state (asked ∷ done ++ more) a.told) (moments_of middle) (moments_of c)
    (later_moment state asked (done ++ more) a.told middle.told one.told)
    (done_prefix middle b c next done more (stepped_at a middle state asked kind one at) rest tail))

-- ---- the last moment

abbrev present : Outside → Moment
present outside = record { crash = outside.crash; told = outside.told }

now_of : (P : Moment → Type 0) (old new : Outside) → GoesOn P (moments_of old) (moments_of new) → P (present new) ⊎ (new.crash ≡ old.crash)
now_of P old new ([], is, all) = inr (ap (λ (ms : List Moment). (get_or ms 0 (present new)).crash) is)
now_of P old new (moment ∷ more, is, all) = inl (subst P (sym (ap (λ (ms : List Moment). get_or ms 0 moment) is)) (all 0 moment (omega arith)))

-- ---- how the run ended

module _ (state : State) (done : List Command) (commands : List Command) (middle c : Outside) (at : IsSettledAt Stands (after state done (length done)) middle) where
  abbrev here : State
  here = after state done (length done)

  -- what is left where nothing was done any more
  still_leaves : (more : List Command) → commands ≡ done ++ more → c ≡ middle → LeavesAfter state commands (length done) c.crash
  still_leaves more parts still = λ image is.
      let same : after state commands (length done) ≡ here = ap (λ (cs : List Command). after state cs (length done)) parts ∙ after_front state done more in
      let then : IsImage middle.crash image = subst (λ (o : Outside). IsImage o.crash image) still is in
      inl (subst (λ (s : State). Stands image s) (sym same) (agrees_stands middle.folder image here (at.leaves image then) at.is))

  -- or one more step was begun
  step_leaves : (asked : Command) (more : List Command) → commands ≡ done ++ asked ∷ more → (answer : Result Kind Stop) → IsSafe Stands here (step_of here asked) answer middle c → LeavesAfter state commands (length done) c.crash
  step_leaves asked more parts answer safe = λ image is. by_moment image is (now_of (IsStepMoment Stands here (step_of here asked) middle.told) middle c safe.moments)
    where
      was : after state commands (length done) ≡ here
      was = ap (λ (cs : List Command). after state cs (length done)) parts ∙ after_front state done (asked ∷ more)

      becomes : after state commands (length done + 1) ≡ (step_of here asked).state
      becomes = ap (λ (cs : List Command). after state cs (length done + 1)) parts ∙ after_next state done asked more

      by_side : (image : Folder) → Stands image here ⊎ Stands image (step_of here asked).state → Stands image (after state commands (length done)) ⊎ Stands image (after state commands (length done + 1))
      by_side image (inl stands) = inl (subst (λ (s : State). Stands image s) (sym was) stands)
      by_side image (inr stands) = inr (subst (λ (s : State). Stands image s) (sym becomes) stands)

      by_moment : (image : Folder) → IsImage c.crash image → IsStepMoment Stands here (step_of here asked) middle.told (present c) ⊎ (c.crash ≡ middle.crash)
          → Stands image (after state commands (length done)) ⊎ Stands image (after state commands (length done + 1))
      by_moment image is (inl moment) = by_side image (moment.either image is)
      by_moment image is (inr same) = by_side image (inl (agrees_stands middle.folder image here (at.leaves image (subst (λ (s : CrashState). IsImage s image) same is)) at.is))

module _ (a b c : Outside) (asking : Asking) (told_input : IsTrue asking.tells) (state : State) (commands : List Command) (are : AreCommands asking.words asking.left commands) (done : List Command)
    (at : IsSettledAt Stands state a) (steps : AreDone (change_of a b) state done) where
  abbrev then_state : State
  then_state = after state done (length done)

  then_at : IsSettledAt Stands then_state b
  then_at = done_settled a b state done at steps

  abbrev Crashes : Type 0
  Crashes = GoesOn (IsPrefixMoment state commands a.told) (moments_of a) (moments_of c) × LeavesAfter state commands (length done) c.crash

  crashes : (more : List Command) → commands ≡ done ++ more → GoesOn (IsPrefixMoment then_state more b.told) (moments_of b) (moments_of c) → LeavesAfter state commands (length done) c.crash → Crashes
  crashes more parts tail leaves = (
    subst (λ (cs : List Command). GoesOn (IsPrefixMoment state cs a.told) (moments_of a) (moments_of c)) (sym parts) (done_prefix a b c state done more at steps tail),
    leaves,
  )

  still : (more : List Command) → commands ≡ done ++ more → c ≡ b → Crashes
  still more parts same =
      crashes more parts (subst (λ (o : Outside). GoesOn (IsPrefixMoment then_state more b.told) (moments_of b) (moments_of o)) (sym same) (goes_none (IsPrefixMoment then_state more b.told) (moments_of b)))
      (still_leaves state done commands b c then_at more parts same)

  ends_prefix : (left_after : List ℕ) (stop : Option Stop) → EndsAfter (change_of b c) asking left_after state done stop → Crashes
  ends_prefix left_after None (given, whole, same) = still [] (all_same asking told_input commands are done (whole told_input) ∙ sym (append-nil done)) same
  ends_prefix left_after (Some stop) (inl (run, between, given, wholes, same)) =
      let (more, parts) = given_first asking told_input commands are done given in
      still more parts same
  ends_prefix left_after (Some stop) (inr (asked, given, why, does)) =
      let (more, first) = given_first asking told_input commands are (done ++ asked ∷ []) given in
      let parts : commands ≡ done ++ asked ∷ more = first ∙ append_assoc done (asked ∷ []) more in
      let safe = does.safe then_at in
      crashes (asked ∷ more) parts (step_prefix then_state asked more b c (Err stop) safe) (step_leaves state done commands b c then_at asked more parts (Err stop) safe)

-- ---- every run

opening_moments : (a b : Outside) → IsHonest b → AddsNoImage a b → GoesOn (IsOpeningMoment a) (moments_of a) (moments_of b)
opening_moments a b honest adds =
    goes_weaker (λ moment. AddsNone moment.crash a.crash × (moment.told ≡ a.told)) (IsOpeningMoment a) (moments_of a) (moments_of b) (λ moment is. record { told = is.1; adds = is.0 }) (adds.moments honest)

-- from the moment when the folder was settled on a crash leaves what stands for its state
module _ (a b : Outside) (state : State) (honest : IsHonest b) (stands : Stands a.folder state) (settles : SettlesAll a b) where
  abbrev middle : Outside
  middle = settles.middle

  middle_honest : IsHonest middle
  middle_honest = settles.since.telling honest

  middle_at : IsSettledAt Stands state middle
  middle_at =
      let same = settles.before.folder middle_honest in
      record {
        is = subst (λ (f : Folder). Stands f state) (sym same) stands;
        leaves = leaves_settled a.folder middle.folder middle.crash same (adds_none_same (settled a.folder) middle.crash settles.settles);
      }

  middle_told : middle.told ≡ a.told
  middle_told = settles.before.output.same_told

  settled_opening : GoesOn (IsOpeningMoment a) (moments_of a) (moments_of middle)
  settled_opening = opening_moments a middle middle_honest settles.before.images

  settled_prefix : (commands : List Command) → GoesOn (IsPrefixMoment state commands a.told) (moments_of middle) (moments_of b)
  settled_prefix commands =
      subst (λ (told : List ℕ). GoesOn (IsPrefixMoment state commands told) (moments_of middle) (moments_of b)) middle_told (still_prefix middle b state commands middle_at settles.since honest)

  settled_leaves : AddsNone b.crash middle.crash
  settled_leaves = settles.since.now honest

opened_at : (a b : Outside) (state : State) → IsHonest b → Stands a.folder state → Opens a b → IsSettledAt Stands state b
opened_at a b state honest stands opens =
    let settles = opens.settles in
    let same = opens.all.folder in
    record {
      is = subst (λ (f : Folder). Stands f state) (sym same) stands;
      leaves =
          leaves_settled a.folder b.folder b.crash same
          (adds_none_more (settled a.folder) settles.middle.crash b.crash (adds_none_same (settled a.folder) settles.middle.crash settles.settles) (settled_leaves a b state honest stands settles));
    }

-- what is told in the end was told where the folder was opened
ends_telling : (a b : Outside) (asking : Asking) (left_after : List ℕ) (state : State) (done : List Command) (stop : Option Stop) → EndsAfter (change_of a b) asking left_after state done stop → Falls a b
ends_telling a b asking left_after state done None (given, whole, still) = λ honest. subst (λ (o : Outside). IsHonest o) still honest
ends_telling a b asking left_after state done (Some stop) (inl (run, between, given, wholes, still)) = λ honest. subst (λ (o : Outside). IsHonest o) still honest
ends_telling a b asking left_after state done (Some stop) (inr (asked, given, why, does)) = does.telling

comes_telling : (a b : Outside) (asking : Asking) (left_after : List ℕ) (outcome : Outcome) (state : State) (done : List Command) → ComesTo (change_of a b) asking left_after outcome state done → Falls a b
comes_telling a b asking left_after outcome state done comes =
    falls_more a comes.middle b (done_telling a comes.middle state done comes.steps) (ends_telling comes.middle b asking left_after state done outcome.stop comes.ends)

module _ (s : Change) (honest : IsHonest s.after) (a : Asking) (told_input : IsTrue a.tells) (state : State) (fresh : IsFresh state) (stands : Stands s.before.folder state)
    (commands : List Command) (are : AreCommands a.words a.left commands) (left_after : List ℕ) (outcome : Outcome) where
  -- a run that stopped before its first command
  stopped_safe : (early : StopsEarly s a.words outcome) → (IsUnsettled a.words early.stop × LeavesUnsettled early.stop s.before s.after) ⊎ SettlesAll s.before s.after
      → IsCrashSafe a.words outcome state commands s.before s.after
  stopped_safe early (inl (unsettled, same)) = inl (record {
    stop = early.stop;
    stops = ap (λ (o : Outcome). o.stop) early.outcome_is;
    unsettled = unsettled;
    none = ap (λ (o : Outcome). o.done) early.outcome_is;
    now = same;
    moments = opening_moments s.before s.after honest early.all.images;
  })
  stopped_safe early (inr settles) = inr (record {
    middle = settles.middle;
    settles = settles.settles;
    opening = settled_opening s.before s.after state honest stands settles;
    steps = settled_prefix s.before s.after state honest stands settles commands;
    now =
        λ image is.
        inl
        (subst (λ (n : ℕ). Stands image (after state commands n)) (sym (ap (λ (o : Outcome). o.done) early.outcome_is))
        (subst (λ (st : State). Stands image st) (sym (after_none state commands))
        (settled_stands settles.middle state s.after.crash (middle_at s.before s.after state honest stands settles) (settled_leaves s.before s.after state honest stands settles) image is)));
  })

  pub headline_crash : Ends s a left_after outcome → IsCrashSafe a.words outcome state commands s.before s.after
  headline_crash (inl early) = stopped_safe early early.settles
  headline_crash (inr (other, done, opened)) =
      let then = change_of opened.opened s.after in
      let here : ComesTo then a left_after outcome state done =
      subst (λ (st : State). ComesTo then a left_after outcome st done) (same_state s a told_input state fresh stands commands are left_after outcome other opened.comes.fresh opened.says) opened.comes in
      let honest_then : IsHonest opened.opened = comes_telling opened.opened s.after a left_after outcome state done here honest in
      let at : IsSettledAt Stands state opened.opened = opened_at s.before opened.opened state honest_then stands opened.opens in
      let settles = opened.opens.settles in
      let crashes = ends_prefix opened.opened here.middle s.after a told_input state commands are done at here.steps left_after outcome.stop here.ends in
      inr (record {
        middle = settles.middle;
        settles = settles.settles;
        opening = settled_opening s.before opened.opened state honest_then stands settles;
        steps =
            goes_more (IsPrefixMoment state commands s.before.told) (moments_of settles.middle) (moments_of opened.opened) (moments_of s.after)
            (settled_prefix s.before opened.opened state honest_then stands settles commands)
            (subst (λ (told : List ℕ). GoesOn (IsPrefixMoment state commands told) (moments_of opened.opened) (moments_of s.after)) opened.opens.all.told crashes.0);
        now = subst (λ (n : ℕ). LeavesAfter state commands n s.after.crash) (sym here.count) crashes.1;
      })
