-- The first lines of a script.
use Rattle.std.proofs.Common.{◌≡◌, ◌⊎◌, inl, inr, ℕ, ◌+◌, Bool, true, false, List, [], ◌∷◌, ◌++◌, length, refl, sym, ◌∙◌, ap, subst, append_assoc, append-nil}
use Rattle.std.specs.Prelude.{Result, Ok, Err}
use Rattle.ts_model.specs.declared.signed.SignedTriple.{SignedTriple}
use Rattle.ts_script.specs.Body.{IsBodyRead, IsFirstFault}
use Rattle.ts_script.specs.Script.{AreFinished, AreScript, closed, IsFinished, IsGiven, IsNextCommand, IsPassedOver}
use Rattle.ts_script.specs.ScriptBody.{AreAll, GoesOn, IsBodyUpTo}
use Rattle.ts_script.specs.declared.body.BodyFault.{BodyFault}
use Rattle.ts_script.specs.declared.body.BodyFault.TheVariants.{Bad, TooLong}
use Rattle.ts_script.specs.declared.command.Command.{Command}
use Rattle.ts_script.specs.declared.head.Head.TheVariants.{Whole, Awaits}
use Rattle.ts_script.specs.declared.opening.Opening.{Opening}
use Rattle.ts_script.specs.declared.script_line.ScriptLine.{ScriptLine}
use Rattle.ts_script.specs.declared.script_line.ScriptLine.TheVariants.{PassedOver, Overlong, NoCommand, Heads}
use Rattle.ts_script.proofs.BodyLaws.{read_once}
use Rattle.ts_script.proofs.ScriptLaws.{given_split, laid_out, no_split, none_next, not_passed, same_next}

-- ---- a body with more lines behind it

first_fault-front : (P : List ℕ → Type 0) (before : ℕ) (lines more : List (List ℕ)) (at : ℕ) → IsFirstFault P before lines at → IsFirstFault P before (lines ++ more) at
first_fault-front P before lines more at found = record {
  front = found.front;
  line = found.line;
  rest = found.rest ++ more;
  parts = ap (λ (l : List (List ℕ)). l ++ more) found.parts ∙ append_assoc found.front (found.line ∷ found.rest) more;
  number = found.number;
  answers = found.answers;
  read = found.read;
  fault = found.fault;
}

-- the first fault of a body is that of a longer one
fault-front : (before : ℕ) (body more : List (List ℕ)) (fault : BodyFault) → IsBodyRead before body (Err fault) → IsBodyRead before (body ++ more) (Err fault)
fault-front before body more (Bad line) found = first_fault-front _ before body more line found
fault-front before body more (TooLong line) found = first_fault-front _ before body more line found

-- lines that have P are a front of those before the first without it
is_front : (P : List ℕ → Type 0) (a more b : List (List ℕ)) (line : List ℕ) (rest : List (List ℕ)) → a ++ more ≡ b ++ line ∷ rest → AreAll P a → (P line → ⊥)
    → (extra : List (List ℕ)) × (b ≡ a ++ extra)
is_front P [] more b line rest same are none = (b, refl)
is_front P (x ∷ a) more [] line rest same are none = let first : x ≡ line = cc in absurd (none (subst P first are.0))
is_front P (x ∷ a) more (y ∷ b) line rest same are none =
    let first : y ≡ x = cc in
    let later : a ++ more ≡ b ++ line ∷ rest = cc in
    let found = is_front P a more b line rest later are.1 none in
    (found.0, λ i. first i ∷ found.1 i)

-- a body that the script's end leaves open, and that with more lines behind it
longer : (number : ℕ) (taken taken' rest' more : List (List ℕ)) (fault : BodyFault) (read' : Result (List SignedTriple) BodyFault) (is_closed' : Bool)
    → IsBodyUpTo number taken [] (Err fault) false → IsBodyUpTo number taken' rest' read' is_closed' → taken ++ more ≡ taken' ++ rest' → read' ≡ Err fault
longer number taken taken' rest' more fault read' true one other same =
    let body : taken ≡ one.body = one.parts ∙ ap (λ (ls : List (List ℕ)). one.body ++ ls) one.closes.0 ∙ append-nil one.body in
    let all : one.body ++ more ≡ other.body ++ other.closes.0 ∷ rest' =
    ap (λ (ls : List (List ℕ)). ls ++ more) (sym body) ∙ same ∙ ap (λ (ls : List (List ℕ)). ls ++ rest') (other.parts ∙ ap (λ (ls : List (List ℕ)). other.body ++ ls) other.closes.1)
    ∙ append_assoc other.body (other.closes.0 ∷ []) rest' in
    let found = is_front GoesOn one.body more other.body other.closes.0 rest' all one.goes_on (λ goes_on. goes_on other.closes.2) in
    read_once number other.body read' (Err fault) other.spells
    (subst (λ (b : List (List ℕ)). IsBodyRead number b (Err fault)) (sym found.1) (fault-front number one.body found.0 fault one.spells))
longer number taken taken' rest' more fault read' false one other same =
    let body : taken ≡ one.body = one.parts ∙ ap (λ (ls : List (List ℕ)). one.body ++ ls) one.closes.0 ∙ append-nil one.body in
    let whole : taken' ++ rest' ≡ other.body =
    ap (λ (ls : List (List ℕ)). taken' ++ ls) other.closes.1 ∙ append-nil taken' ∙ other.parts ∙ ap (λ (ls : List (List ℕ)). other.body ++ ls) other.closes.0 ∙ append-nil other.body in
    let all : one.body ++ more ≡ other.body = ap (λ (ls : List (List ℕ)). ls ++ more) (sym body) ∙ same ∙ whole in
    read_once number other.body read' (Err fault) other.spells
    (subst (λ (b : List (List ℕ)). IsBodyRead number b (Err fault)) all (fault-front number one.body more fault one.spells))

completed_fault : (opening : Opening) (number : ℕ) (is_closed : Bool) (fault : BodyFault) → closed opening number is_closed (Err fault) ≡ closed opening number false (Err fault)
completed_fault opening number true fault = refl
completed_fault opening number false fault = refl

-- ---- one command with more lines behind it

-- A line's command stays with more lines behind it; or these lines go on with its body, whose first fault stays.
abbrev GivenOn : ScriptLine → ℕ → List (List ℕ) → List (List ℕ) → List (List ℕ) → Command → Type 0
GivenOn kind number behind rest more asked =
    IsGiven kind number behind (rest ++ more) asked
    ⊎ ((rest ≡ []) × ((b : Command) (behind' rest' : List (List ℕ)) → behind ++ more ≡ behind' ++ rest' → IsGiven kind number behind' rest' b → asked ≡ b))

goes_on_with : (opening : Opening) (number : ℕ) (behind more : List (List ℕ)) (fault : BodyFault) (asked : Command) → IsBodyUpTo number behind [] (Err fault) false
    → asked ≡ closed opening number false (Err fault) → (b : Command) (behind' rest' : List (List ℕ)) → behind ++ more ≡ behind' ++ rest'
    → IsGiven (Heads (Awaits opening)) number behind' rest' b → asked ≡ b
goes_on_with opening number behind more fault asked is says b behind' rest' same (read', is_closed', is', says') =
    let reads : read' ≡ Err fault = longer number behind behind' rest' more fault read' is_closed' is is' same in
    says ∙ sym (completed_fault opening number is_closed' fault) ∙ ap (closed opening number is_closed') (sym reads) ∙ sym says'

given_on : (kind : ScriptLine) (number : ℕ) (behind rest more : List (List ℕ)) (asked : Command) → IsGiven kind number behind rest asked → IsFinished asked → GivenOn kind number behind rest more asked
given_on PassedOver number behind rest more asked given finished = absurd given
given_on Overlong number behind rest more asked given finished = inl given
given_on NoCommand number behind rest more asked given finished = inl given
given_on (Heads (Whole whole)) number behind rest more asked given finished = inl given
given_on (Heads (Awaits opening)) number behind rest more asked (read, true, is, says) finished =
    inl (read, true, record { body = is.body; closing = is.closing; parts = is.parts; goes_on = is.goes_on; closes = is.closes; spells = is.spells }, says)
given_on (Heads (Awaits opening)) number behind rest more asked (Ok body, false, is, says) finished = absurd (finished number says)
given_on (Heads (Awaits opening)) number behind rest more asked (Err fault, false, is, says) finished =
    inr (is.closes.1, goes_on_with opening number behind more fault asked (subst (λ (ls : List (List ℕ)). IsBodyUpTo number behind ls (Err fault) false) is.closes.1 is) says)

-- A command stays the next, and what is behind it follows; or it is the last, and is the next still.
abbrev Stays : ℕ → List (List ℕ) → List (List ℕ) → Command → List (List ℕ) → List (List ℕ) → Type 0
Stays before lines more asked taken rest =
    IsNextCommand before (lines ++ more) asked taken (rest ++ more)
    ⊎ ((rest ≡ []) × ((b : Command) (taken' rest' : List (List ℕ)) → IsNextCommand before (lines ++ more) b taken' rest' → asked ≡ b))

stays : (before : ℕ) (lines more : List (List ℕ)) (asked : Command) (taken rest : List (List ℕ)) → IsNextCommand before lines asked taken rest → IsFinished asked → Stays before lines more asked taken rest
stays before lines more asked taken rest is finished = by_given (given_on is.kind (before + length is.passed + 1) is.behind rest more asked is.given finished)
  where
    all : lines ++ more ≡ is.passed ++ is.line ∷ ((is.behind ++ rest) ++ more)
    all = ap (λ (ls : List (List ℕ)). ls ++ more) (laid_out before lines asked taken rest is) ∙ append_assoc is.passed (is.line ∷ (is.behind ++ rest)) more

    by_given : GivenOn is.kind (before + length is.passed + 1) is.behind rest more asked → Stays before lines more asked taken rest
    by_given (inl given) = inl (record {
      passed = is.passed;
      line = is.line;
      behind = is.behind;
      kind = is.kind;
      all = ap (λ (ls : List (List ℕ)). ls ++ more) is.all ∙ append_assoc taken rest more;
      parts = is.parts;
      over = is.over;
      is = is.is;
      given = given;
    })
    by_given (inr (none, same)) = inr (
      none,
      λ b taken' rest' next.
          let behind : (is.behind ++ rest) ++ more ≡ is.behind ++ more =
          ap (λ (ls : List (List ℕ)). (is.behind ++ ls) ++ more) none ∙ ap (λ (ls : List (List ℕ)). ls ++ more) (append-nil is.behind) in
          let found = given_split before (lines ++ more) is.passed is.line is.kind (is.behind ++ more) b taken' rest'
          (all ∙ ap (λ (ls : List (List ℕ)). is.passed ++ is.line ∷ ls) behind) is.over is.is (not_passed is.line is.kind _ is.behind rest asked is.is is.given) next in
          same b found.0 rest' found.1 found.2,
    )

-- ---- a script with more lines behind it

no_lines : (before : ℕ) (lines : List (List ℕ)) (commands : List Command) → lines ≡ [] → AreScript before lines commands → commands ≡ []
no_lines before lines [] none are = refl
no_lines before lines (asked ∷ commands) none (taken, rest, is, later) =
    absurd (none_next before lines asked taken rest (subst (AreAll IsPassedOver) (sym none) tt) is)

pub script_front : (before : ℕ) (front behind : List (List ℕ)) (commands all : List Command) → AreScript before front commands → AreFinished commands
    → AreScript before (front ++ behind) all → (others : List Command) × (all ≡ commands ++ others)
script_front before front behind [] all are finished whole = (all, refl)
script_front before front behind (asked ∷ commands) all (taken, rest, is, later) finished whole =
    by_stays (λ all are. script_front (before + length taken) rest behind commands all later finished.1 are) (stays before front behind asked taken rest is finished.0) all whole
  where
    by_stays : ((all : List Command) → AreScript (before + length taken) (rest ++ behind) all → (others : List Command) × (all ≡ commands ++ others))
        → Stays before front behind asked taken rest → (all : List Command) → AreScript before (front ++ behind) all → (others : List Command) × (all ≡ asked ∷ commands ++ others)
    by_stays behind_it (inl next) [] whole = absurd (none_next before (front ++ behind) asked taken (rest ++ behind) whole next)
    by_stays behind_it (inr (none, same)) [] whole =
        absurd (no_split IsPassedOver is.passed is.line ((is.behind ++ rest) ++ behind)
        (subst (AreAll IsPassedOver) (ap (λ (ls : List (List ℕ)). ls ++ behind) (laid_out before front asked taken rest is) ∙ append_assoc is.passed (is.line ∷ (is.behind ++ rest)) behind) whole)
        (not_passed is.line is.kind _ is.behind rest asked is.is is.given))
    by_stays behind_it (inl next) (b ∷ all) (taken', rest', is', later') =
        let same = same_next before (front ++ behind) asked b taken (rest ++ behind) taken' rest' next is' in
        let later_all : AreScript (before + length taken) (rest ++ behind) all =
        subst (λ (ls : List (List ℕ)). AreScript (before + length ls) (rest ++ behind) all) (sym same.1) (subst (λ (ls : List (List ℕ)). AreScript (before + length taken') ls all) (sym same.2) later') in
        let found = behind_it all later_all in
        (found.0, λ i. sym same.0 i ∷ found.1 i)
    by_stays behind_it (inr (none, same)) (b ∷ all) (taken', rest', is', later') =
        let last : commands ≡ [] = no_lines (before + length taken) rest commands none later in
        (all, λ i. sym (same b taken' rest' is') i ∷ sym (ap (λ (cs : List Command). cs ++ all) last) i)
