-- States and replies along a list of commands, and the commands that come first in a script.
use Rattle.std.proofs.Common.{◌≡◌, ℕ, suc, ◌+◌, Bool, ◌||◌, List, [], ◌∷◌, ◌++◌, length, refl, sym, ap, ◌∙◌, subst, add-one, arith, append_assoc, length-append}
use Rattle.std.proofs.Math.Bool.{or-false, or_assoc}
use Rattle.ts_script.specs.Script.{AreScript, AreWholeCommands, HasNoWholeCommand, IsNextCommand, IsPassedOver, IsWholeCommand}
use Rattle.ts_script.specs.ScriptBody.{AreAll}
use Rattle.ts_script.specs.declared.command.Command.{Command}
use Rattle.ts_script.proofs.ScriptLaws.{none_next, same_next}
use Rattle.ts_store.specs.State.{State}
use Rattle.ts_store.specs.Step.{step_of}
use Rattle.ts_store.specs.Steps.{after, answers, answer_at, any_refused}
use Rattle.ts_cli.specs.Asked.{AreFirst}

pub after_none : (state : State) (commands : List Command) → after state commands 0 ≡ state
after_none state [] = refl
after_none state (asked ∷ commands) = refl

pub answers_none : (state : State) (commands : List Command) → answers state commands 0 ≡ []
answers_none state [] = refl
answers_none state (asked ∷ commands) = refl

-- commands behind the first ones change nothing of what these leave and tell
pub after_front : (state : State) (done more : List Command) → after state (done ++ more) (length done) ≡ after state done (length done)
after_front state [] more = after_none state more
after_front state (asked ∷ done) more = after_front (step_of state asked).state done more

pub answers_front : (state : State) (done more : List Command) → answers state (done ++ more) (length done) ≡ answers state done (length done)
answers_front state [] more = answers_none state more
answers_front state (asked ∷ done) more = ap (λ (l : List ℕ). (step_of state asked).told ++ l) (answers_front (step_of state asked).state done more)

-- the command behind the first ones
pub answer_next : (state : State) (done : List Command) (asked : Command) (more : List Command)
    → answer_at state (done ++ asked ∷ more) (length done) ≡ (step_of (after state done (length done)) asked).told
answer_next state [] asked more = refl
answer_next state (first ∷ done) asked more = answer_next (step_of state first).state done asked more

after_suc : (state : State) (done : List Command) (asked : Command) (more : List Command)
    → after state (done ++ asked ∷ more) (suc (length done)) ≡ (step_of (after state done (length done)) asked).state
after_suc state [] asked more = after_none (step_of state asked).state more
after_suc state (first ∷ done) asked more = after_suc (step_of state first).state done asked more

pub after_next : (state : State) (done : List Command) (asked : Command) (more : List Command)
    → after state (done ++ asked ∷ more) (length done + 1) ≡ (step_of (after state done (length done)) asked).state
after_next state done asked more = ap (λ (n : ℕ). after state (done ++ asked ∷ more) n) (add-one (length done)) ∙ after_suc state done asked more

pub after_more : (state : State) (done : List Command) (asked : Command)
    → after state (done ++ asked ∷ []) (length (done ++ asked ∷ [])) ≡ (step_of (after state done (length done)) asked).state
after_more state [] asked = refl
after_more state (first ∷ done) asked = after_more (step_of state first).state done asked

pub refused_more : (state : State) (done : List Command) (asked : Command)
    → any_refused state (done ++ asked ∷ []) ≡ (any_refused state done || (step_of (after state done (length done)) asked).refused)
refused_more state [] asked = or-false (step_of state asked).refused
refused_more state (first ∷ done) asked =
    ap (λ (b : Bool). (step_of state first).refused || b) (refused_more (step_of state first).state done asked)
    ∙ sym (or_assoc (step_of state first).refused (any_refused (step_of state first).state done) (step_of (after (step_of state first).state done (length done)) asked).refused)

-- ---- the first commands of a script

pub first_more : (before : ℕ) (lines : List (List ℕ)) (done : List Command) (next : ℕ) (rest : List (List ℕ)) (asked : Command) (taken behind : List (List ℕ))
    → AreFirst before lines done next rest → IsNextCommand next rest asked taken behind → AreFirst before lines (done ++ asked ∷ []) (next + length taken) behind
first_more before lines [] next rest asked taken behind (number, same) is = (
  taken,
  behind,
  subst (λ (n : ℕ). IsNextCommand n lines asked taken behind) number (subst (λ (ls : List (List ℕ)). IsNextCommand next ls asked taken behind) same is),
  (ap (λ (n : ℕ). n + length taken) number, refl),
)
first_more before lines (first ∷ done) next rest asked taken behind (took, middle, one, firsts) is =
    (took, middle, one, first_more (before + length took) middle done next rest asked taken behind firsts is)

-- ---- commands that stand whole

-- The commands stand whole at the front of the lines, one after another. Behind them stands the rest, with `next` lines before it.
abbrev pub AreFirstWhole : ℕ → List (List ℕ) → List Command → ℕ → List (List ℕ) → Type 0
AreFirstWhole before lines [] next rest = (next ≡ before) × (rest ≡ lines)
AreFirstWhole before lines (asked ∷ commands) next rest =
    (taken behind : List (List ℕ)) × (lines ≡ taken ++ behind) × IsWholeCommand before taken asked × AreFirstWhole (before + length taken) behind commands next rest

pub whole_more : (before : ℕ) (lines : List (List ℕ)) (done : List Command) (next : ℕ) (rest : List (List ℕ)) (asked : Command) (taken behind : List (List ℕ))
    → AreFirstWhole before lines done next rest → rest ≡ taken ++ behind → IsWholeCommand next taken asked → AreFirstWhole before lines (done ++ asked ∷ []) (next + length taken) behind
whole_more before lines [] next rest asked taken behind (number, same) parts is =
    (taken, behind, sym same ∙ parts, subst (λ (n : ℕ). IsWholeCommand n taken asked) number is, (ap (λ (n : ℕ). n + length taken) number, refl))
whole_more before lines (first ∷ done) next rest asked taken behind (took, middle, all, one, firsts) parts is =
    (took, middle, all, one, whole_more (before + length took) middle done next rest asked taken behind firsts parts is)

-- they are all that stand whole in the lines before these, where no other one does
pub whole_all : (before : ℕ) (lines : List (List ℕ)) (done : List Command) (next : ℕ) (rest given more : List (List ℕ)) → AreFirstWhole before lines done next rest → rest ≡ given ++ more
    → HasNoWholeCommand next given → (whole : List (List ℕ)) × (lines ≡ whole ++ more) × (before + length whole ≡ next + length given) × AreWholeCommands before whole done
whole_all before lines [] next rest given more (number, same) parts none =
    (given, sym same ∙ parts, ap (λ (n : ℕ). n + length given) (sym number), subst (λ (n : ℕ). HasNoWholeCommand n given) number none)
whole_all before lines (asked ∷ done) next rest given more (taken, behind, all, one, firsts) parts none =
    let (whole, is, count, are) = whole_all (before + length taken) behind done next rest given more firsts parts none in (
      taken ++ whole,
      all ∙ ap (λ (ls : List (List ℕ)). taken ++ ls) is ∙ sym (append_assoc taken whole more),
      omega (arith, count, length-append taken whole),
      (taken, whole, refl, one, are),
    )

-- ---- the whole script

-- where no command is left they are the whole script
pub first_whole : (before : ℕ) (lines : List (List ℕ)) (done : List Command) (next : ℕ) (rest : List (List ℕ)) → AreFirst before lines done next rest → AreAll IsPassedOver rest → AreScript before lines done
first_whole before lines [] next rest (number, same) passed = subst (AreAll IsPassedOver) same passed
first_whole before lines (asked ∷ done) next rest (taken, middle, one, firsts) passed =
    (taken, middle, one, first_whole (before + length taken) middle done next rest firsts passed)

-- the script of the lines goes on behind them
pub first_of : (before : ℕ) (lines : List (List ℕ)) (done : List Command) (next : ℕ) (rest : List (List ℕ)) → AreFirst before lines done next rest
    → (commands : List Command) → AreScript before lines commands → (more : List Command) × (commands ≡ done ++ more)
first_of before lines [] next rest firsts commands script = (commands, refl)
first_of before lines (asked ∷ done) next rest (taken, middle, one, firsts) [] passed = absurd (none_next before lines asked taken middle passed one)
first_of before lines (asked ∷ done) next rest (taken, middle, one, firsts) (other ∷ commands) (took, behind, two, script) =
    let (same, same_taken, same_rest) = same_next before lines asked other taken middle took behind one two in
    let onto = subst (λ (ls : List (List ℕ)). AreScript (before + length taken) ls commands) (sym same_rest)
    (subst (λ (ls : List (List ℕ)). AreScript (before + length ls) behind commands) (sym same_taken) script) in
    let (more, is) = first_of (before + length taken) middle done next rest firsts commands onto in
    (more, λ i. sym same i ∷ is i)
