-- Lines that are no list of commands are none.
use Rattle.std.proofs.Common.{◌≡◌, ℕ, zero, suc, ◌+◌, ◌≤◌, Bool, true, false, List, [], ◌∷◌, ◌++◌, length, refl, sym, ◌∙◌, ap, subst, arith, append_assoc, append-nil, length-append}
use Rattle.std.specs.Prelude.{Result}
use Rattle.ts_model.specs.declared.signed.SignedTriple.{SignedTriple}
use Rattle.ts_nt.specs.Limits.{line_limit}
use Rattle.ts_script.specs.Script.{AreScript, closed, IsGiven, IsPassedOver, LineIs}
use Rattle.ts_script.specs.ScriptBody.{AreAll, GoesOn, IsBodyUpTo}
use Rattle.ts_script.specs.declared.body.BodyFault.{BodyFault}
use Rattle.ts_script.specs.declared.command.Command.{Command}
use Rattle.ts_script.specs.declared.command.Command.TheVariants as command
use Rattle.ts_script.specs.declared.head.Head.TheVariants.{Whole, Awaits}
use Rattle.ts_script.specs.declared.script_line.ScriptLine.{ScriptLine}
use Rattle.ts_script.specs.declared.script_line.ScriptLine.TheVariants.{PassedOver, Overlong, NoCommand, Heads}
use Rattle.ts_script.proofs.BodyLaws.{some_read}
use Rattle.ts_script.proofs.ScriptSoFar.{all-more}

-- it isn't denied that the lines are some commands
abbrev Some_are : ℕ → List (List ℕ) → Type 0
Some_are before lines = ((commands : List Command) → AreScript before lines commands → ⊥) → ⊥

-- no line is none of what a line may be
some_kind : (line : List ℕ) → ((kind : ScriptLine) → LineIs line kind → ⊥) → ⊥
some_kind line none =
    let within : length line ≤ line_limit = omega (arith, none Overlong) in
    none NoCommand (within, none PassedOver, λ head is. none (Heads head) (within, is))

-- some body begins the lines
some_body : (number : ℕ) (body rest : List (List ℕ)) → AreAll GoesOn body
    → ((taken behind : List (List ℕ)) (read : Result (List SignedTriple) BodyFault) (is_closed : Bool) → body ++ rest ≡ taken ++ behind → IsBodyUpTo number taken behind read is_closed → ⊥) → ⊥
some_body number body [] goes_on none =
    some_read number body
    (λ read is. none body [] read false refl (record { body = body; closing = []; parts = sym (append-nil body); goes_on = goes_on; closes = (refl, refl); spells = is }))
some_body number body (line ∷ rest) goes_on none =
    let on : GoesOn line = λ ends.
    some_read number body
    (λ read is. none (body ++ line ∷ []) rest read true (sym (append_assoc body (line ∷ []) rest))
    (record { body = body; closing = line ∷ []; parts = refl; goes_on = goes_on; closes = (line, refl, ends); spells = is })) in
    some_body number (body ++ line ∷ []) rest (all-more GoesOn body line goes_on on)
    (λ taken behind read is_closed parts is. none taken behind read is_closed (sym (append_assoc body (line ∷ []) rest) ∙ parts) is)

module _ (n before : ℕ) (later : (next : ℕ) (lines : List (List ℕ)) → length lines ≤ n → Some_are next lines) where
  -- a command takes these lines, and others follow
  some_next : (passed : List (List ℕ)) (line : List ℕ) (behind rest : List (List ℕ)) (kind : ScriptLine) (asked : Command) → AreAll IsPassedOver passed → LineIs line kind
      → IsGiven kind (before + length passed + 1) behind rest asked → length rest ≤ n → Some_are before (passed ++ line ∷ (behind ++ rest))
  some_next passed line behind rest kind asked over is given short none =
      let taken = passed ++ line ∷ behind in
      later (before + length taken) rest short
      (λ commands are. none (asked ∷ commands) (
        taken,
        rest,
        record { passed = passed; line = line; behind = behind; kind = kind; all = sym (append_assoc passed (line ∷ behind) rest); parts = refl; over = over; is = is; given = given },
        are,
      ))

  -- what a line is, of those behind the ones that are passed over; `on` is of those behind it where it is one more
  some_line : (passed : List (List ℕ)) (line : List ℕ) (rest : List (List ℕ)) → AreAll IsPassedOver passed → length (line ∷ rest) ≤ suc n
      → (IsPassedOver line → Some_are before ((passed ++ line ∷ []) ++ rest)) → Some_are before (passed ++ line ∷ rest)
  some_line passed line rest over short on none = some_kind line by_kind
    where
      by_kind : (kind : ScriptLine) → LineIs line kind → ⊥
      by_kind PassedOver is = on is (λ commands are. none commands (subst (λ (ls : List (List ℕ)). AreScript before ls commands) (append_assoc passed (line ∷ []) rest) are))
      by_kind Overlong is = some_next passed line [] rest Overlong (command.TooLong (before + length passed + 1)) over is (refl, refl) (omega (arith, short)) none
      by_kind NoCommand is = some_next passed line [] rest NoCommand (command.BadCommand (before + length passed + 1)) over is (refl, refl) (omega (arith, short)) none
      by_kind (Heads (Whole whole)) is = some_next passed line [] rest (Heads (Whole whole)) whole over is (refl, refl) (omega (arith, short)) none
      by_kind (Heads (Awaits opening)) is =
          let number = before + length passed + 1 in
          some_body number [] rest tt
          (λ taken behind read is_closed parts body.
          some_next passed line taken behind (Heads (Awaits opening)) (closed opening number is_closed read) over is (read, is_closed, body, refl)
          (omega (arith, short, ap length parts, length-append taken behind))
          (λ commands are. none commands (subst (λ (ls : List (List ℕ)). AreScript before (passed ++ line ∷ ls) commands) (sym parts) are)))

  some_from : (passed rest : List (List ℕ)) → AreAll IsPassedOver passed → length rest ≤ suc n → Some_are before (passed ++ rest)
  some_from passed [] over short none = none [] (subst (AreAll IsPassedOver) (sym (append-nil passed)) over)
  some_from passed (line ∷ rest) over short none =
      some_line passed line rest over short (λ is. some_from (passed ++ line ∷ []) rest (all-more IsPassedOver passed line over is) (omega (arith, short))) none

some_up_to : (n before : ℕ) (lines : List (List ℕ)) → length lines ≤ n → Some_are before lines
some_up_to zero before [] short none = none [] tt
some_up_to zero before (line ∷ lines) short none = absurd (omega (arith, short))
some_up_to (suc n) before lines short none = some_from n before (some_up_to n) [] lines tt short none

pub some_script : (before : ℕ) (lines : List (List ℕ)) → ((commands : List Command) → AreScript before lines commands → ⊥) → ⊥
some_script before lines none = some_up_to (length lines) before lines (omega arith) none
