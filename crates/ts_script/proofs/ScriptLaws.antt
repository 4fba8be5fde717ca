-- Lines are one list of commands.
use Rattle.std.proofs.Common.{◌≡◌, ℕ, ◌+◌, Bool, true, false, List, [], ◌∷◌, ◌++◌, length, refl, sym, ◌∙◌, ap, subst, arith, append_assoc, append-nil}
use Rattle.std.specs.Prelude.{Result}
use Rattle.ts_model.specs.declared.signed.SignedTriple.{SignedTriple}
use Rattle.ts_script.specs.Body.{IsBodyRead}
use Rattle.ts_script.specs.LineWords.{words_in}
use Rattle.ts_script.specs.Script.{AreScript, closed, IsGiven, IsNextCommand, IsPassedOver, LineIs}
use Rattle.ts_script.specs.ScriptBody.{AreAll, GoesOn, IsBodyUpTo}
use Rattle.ts_script.specs.declared.body.BodyFault.{BodyFault}
use Rattle.ts_script.specs.declared.command.Command.{Command}
use Rattle.ts_script.specs.declared.head.Head.{Head}
use Rattle.ts_script.specs.declared.head.Head.TheVariants.{Whole, Awaits}
use Rattle.ts_script.specs.declared.opening.Opening.{Opening}
use Rattle.ts_script.specs.declared.script_line.ScriptLine.{ScriptLine}
use Rattle.ts_script.specs.declared.script_line.ScriptLine.TheVariants.{PassedOver, Overlong, NoCommand, Heads}
use Rattle.ts_script.proofs.BodyLaws.{read_once}
use Rattle.ts_script.proofs.HeadLaws.{head_once}
use Rattle.ts_script.proofs.SilentLines.{silent_no_head}

-- ---- lists of lines

-- two first lines without P stand in one place
split_once : (P : List ℕ → Type 0) (front front' : List (List ℕ)) (line line' : List ℕ) (rest rest' : List (List ℕ)) → front ++ line ∷ rest ≡ front' ++ line' ∷ rest'
    → AreAll P front → AreAll P front' → (P line → ⊥) → (P line' → ⊥) → (front ≡ front') × (line ≡ line') × (rest ≡ rest')
split_once P [] [] line line' rest rest' same are are' none none' = (refl, cc, cc)
split_once P [] (f ∷ front') line line' rest rest' same are are' none none' =
    let first : f ≡ line = cc in absurd (none (subst P first are'.0))
split_once P (f ∷ front) [] line line' rest rest' same are are' none none' =
    let first : f ≡ line' = cc in absurd (none' (subst P first are.0))
split_once P (f ∷ front) (f' ∷ front') line line' rest rest' same are are' none none' =
    let later : front ++ line ∷ rest ≡ front' ++ line' ∷ rest' = cc in
    let first : f ≡ f' = cc in
    let meet = split_once P front front' line line' rest rest' later are.1 are'.1 none none' in
    ((λ i. first i ∷ meet.0 i), meet.1, meet.2)

pub no_split : (P : List ℕ → Type 0) (front : List (List ℕ)) (line : List ℕ) (rest : List (List ℕ)) → AreAll P (front ++ line ∷ rest) → (P line → ⊥) → ⊥
no_split P [] line rest are none = none are.0
no_split P (f ∷ front) line rest are none = no_split P front line rest are.1 none

-- ---- what a line is

pub not_passed : (line : List ℕ) (kind : ScriptLine) (number : ℕ) (behind rest : List (List ℕ)) (asked : Command) → LineIs line kind → IsGiven kind number behind rest asked → IsPassedOver line → ⊥
not_passed line PassedOver number behind rest asked is given over = given
not_passed line Overlong number behind rest asked is given over = let within = over.0 in omega (arith, is, within)
not_passed line NoCommand number behind rest asked is given over = is.1 over
not_passed line (Heads head) number behind rest asked is given over = silent_no_head line head over is.1

kind_once : (line : List ℕ) (a b : ScriptLine) → LineIs line a → LineIs line b → a ≡ b
kind_once line PassedOver PassedOver one other = refl
kind_once line PassedOver Overlong one other = absurd (let within = one.0 in omega (arith, within, other))
kind_once line PassedOver NoCommand one other = absurd (other.1 one)
kind_once line PassedOver (Heads head) one other = absurd (silent_no_head line head one other.1)
kind_once line Overlong PassedOver one other = absurd (let within = other.0 in omega (arith, within, one))
kind_once line Overlong Overlong one other = refl
kind_once line Overlong NoCommand one other = absurd (let within = other.0 in omega (arith, within, one))
kind_once line Overlong (Heads head) one other = absurd (let within = other.0 in omega (arith, within, one))
kind_once line NoCommand PassedOver one other = absurd (one.1 other)
kind_once line NoCommand Overlong one other = absurd (let within = one.0 in omega (arith, within, other))
kind_once line NoCommand NoCommand one other = refl
kind_once line NoCommand (Heads head) one other = absurd (one.2 head other.1)
kind_once line (Heads head) PassedOver one other = absurd (silent_no_head line head other one.1)
kind_once line (Heads head) Overlong one other = absurd (let within = one.0 in omega (arith, within, other))
kind_once line (Heads head) NoCommand one other = absurd (other.2 head one.1)
kind_once line (Heads a) (Heads b) one other = ap (λ (head : Head). Heads head) (head_once (words_in line) a b one.1 other.1)

-- ---- one body

-- what a reading and what follows it are
abbrev pub Same : Command → Command → List (List ℕ) → List (List ℕ) → List (List ℕ) → List (List ℕ) → Type 0
Same a b taken taken' rest rest' = (a ≡ b) × (taken ≡ taken') × (rest ≡ rest')

-- a body with the line that ends it, before what follows
ended : (body closing rest taken : List (List ℕ)) (line : List ℕ) → taken ≡ body ++ closing → closing ≡ line ∷ [] → taken ++ rest ≡ body ++ line ∷ rest
ended body closing rest taken line are is =
    ap (λ (ls : List (List ℕ)). ls ++ rest) (are ∙ ap (λ (ls : List (List ℕ)). body ++ ls) is) ∙ append_assoc body (line ∷ []) rest

opened : (body closing rest taken : List (List ℕ)) → taken ≡ body ++ closing → closing ≡ [] → rest ≡ [] → taken ++ rest ≡ body
opened body closing rest taken are is none =
    ap (λ (ls : List (List ℕ)). taken ++ ls) none ∙ append-nil taken ∙ are ∙ ap (λ (ls : List (List ℕ)). body ++ ls) is ∙ append-nil body

module _ (opening : Opening) (number : ℕ) (taken taken' rest rest' : List (List ℕ)) (read read' : Result (List SignedTriple) BodyFault) (same : taken ++ rest ≡ taken' ++ rest') where
  reads_once : (body body' : List (List ℕ)) → body ≡ body' → IsBodyRead number body read → IsBodyRead number body' read' → read ≡ read'
  reads_once body body' are one other = read_once number body' read read' (subst (λ (b : List (List ℕ)). IsBodyRead number b read) are one) other

  body_once : (is_closed is_closed' : Bool) → IsBodyUpTo number taken rest read is_closed → IsBodyUpTo number taken' rest' read' is_closed'
      → Same (closed opening number is_closed read) (closed opening number is_closed' read') taken taken' rest rest'
  body_once true true one other =
      let meet = split_once GoesOn one.body other.body one.closes.0 other.closes.0 rest rest'
      (sym (ended one.body one.closing rest taken one.closes.0 one.parts one.closes.1) ∙ same ∙ ended other.body other.closing rest' taken' other.closes.0 other.parts other.closes.1)
      one.goes_on other.goes_on (λ goes_on. goes_on one.closes.2) (λ goes_on. goes_on other.closes.2) in
      let closings : one.closing ≡ other.closing = one.closes.1 ∙ ap (λ (line : List ℕ). line ∷ []) meet.1 ∙ sym other.closes.1 in (
        ap (closed opening number true) (reads_once one.body other.body meet.0 one.spells other.spells),
        one.parts ∙ (λ i. meet.0 i ++ closings i) ∙ sym other.parts,
        meet.2,
      )
  body_once true false one other =
      let all : one.body ++ one.closes.0 ∷ rest ≡ other.body =
      sym (ended one.body one.closing rest taken one.closes.0 one.parts one.closes.1) ∙ same ∙ opened other.body other.closing rest' taken' other.parts other.closes.0 other.closes.1 in
      absurd (no_split GoesOn one.body one.closes.0 rest (subst (AreAll GoesOn) (sym all) other.goes_on) (λ goes_on. goes_on one.closes.2))
  body_once false true one other =
      let all : other.body ++ other.closes.0 ∷ rest' ≡ one.body =
      sym (ended other.body other.closing rest' taken' other.closes.0 other.parts other.closes.1) ∙ sym same ∙ opened one.body one.closing rest taken one.parts one.closes.0 one.closes.1 in
      absurd (no_split GoesOn other.body other.closes.0 rest' (subst (AreAll GoesOn) (sym all) one.goes_on) (λ goes_on. goes_on other.closes.2))
  body_once false false one other =
      let bodies : one.body ≡ other.body =
      sym (opened one.body one.closing rest taken one.parts one.closes.0 one.closes.1) ∙ same ∙ opened other.body other.closing rest' taken' other.parts other.closes.0 other.closes.1 in
      let closings : one.closing ≡ other.closing = one.closes.0 ∙ sym other.closes.0 in (
        ap (closed opening number false) (reads_once one.body other.body bodies one.spells other.spells),
        one.parts ∙ (λ i. bodies i ++ closings i) ∙ sym other.parts,
        one.closes.1 ∙ sym other.closes.1,
      )

-- ---- one command

alone : (taken taken' rest rest' : List (List ℕ)) (a b c : Command) → taken ++ rest ≡ taken' ++ rest' → (taken ≡ []) × (a ≡ c) → (taken' ≡ []) × (b ≡ c) → Same a b taken taken' rest rest'
alone taken taken' rest rest' a b c same one other = (
  one.1 ∙ sym other.1,
  one.0 ∙ sym other.0,
  ap (λ (ls : List (List ℕ)). ls ++ rest) (sym one.0) ∙ same ∙ ap (λ (ls : List (List ℕ)). ls ++ rest') other.0,
)

given_once : (kind : ScriptLine) (number : ℕ) (taken taken' rest rest' : List (List ℕ)) (a b : Command) → taken ++ rest ≡ taken' ++ rest'
    → IsGiven kind number taken rest a → IsGiven kind number taken' rest' b → Same a b taken taken' rest rest'
given_once PassedOver number taken taken' rest rest' a b same one other = absurd one
given_once Overlong number taken taken' rest rest' a b same one other = alone taken taken' rest rest' a b _ same one other
given_once NoCommand number taken taken' rest rest' a b same one other = alone taken taken' rest rest' a b _ same one other
given_once (Heads (Whole whole)) number taken taken' rest rest' a b same one other = alone taken taken' rest rest' a b whole same one other
given_once (Heads (Awaits opening)) number taken taken' rest rest' a b same (read, is_closed, is, says) (read', is_closed', is', says') =
    let meet = body_once opening number taken taken' rest rest' read read' same is_closed is_closed' is is' in
    (says ∙ meet.0 ∙ sym says', meet.1, meet.2)

-- the command's line, with what is before it and what is behind it
pub laid_out : (before : ℕ) (lines : List (List ℕ)) (asked : Command) (taken rest : List (List ℕ)) (is : IsNextCommand before lines asked taken rest) → lines ≡ is.passed ++ is.line ∷ (is.behind ++ rest)
laid_out before lines asked taken rest is =
    is.all ∙ ap (λ (ls : List (List ℕ)). ls ++ rest) is.parts ∙ append_assoc is.passed (is.line ∷ is.behind) rest

-- what another reading of the lines takes behind the same line
pub given_split : (before : ℕ) (lines passed : List (List ℕ)) (line : List ℕ) (kind : ScriptLine) (behind : List (List ℕ)) (b : Command) (taken' rest' : List (List ℕ))
    → lines ≡ passed ++ line ∷ behind → AreAll IsPassedOver passed → LineIs line kind → (IsPassedOver line → ⊥) → IsNextCommand before lines b taken' rest'
    → (behind' : List (List ℕ)) × (behind ≡ behind' ++ rest') × IsGiven kind (before + length passed + 1) behind' rest' b × (taken' ≡ passed ++ line ∷ behind')
given_split before lines passed line kind behind b taken' rest' are over is none other =
    let meet = split_once IsPassedOver passed other.passed line other.line behind (other.behind ++ rest') (sym are ∙ laid_out before lines b taken' rest' other) over other.over
    none (not_passed other.line other.kind _ other.behind rest' b other.is other.given) in
    let kinds : other.kind ≡ kind = kind_once line other.kind kind (subst (λ (l : List ℕ). LineIs l other.kind) (sym meet.1) other.is) is in
    let number : before + length other.passed + 1 ≡ before + length passed + 1 = ap (λ (ls : List (List ℕ)). before + length ls + 1) (sym meet.0) in (
      other.behind,
      meet.2,
      subst (λ (n : ℕ). IsGiven kind n other.behind rest' b) number (subst (λ (k : ScriptLine). IsGiven k (before + length other.passed + 1) other.behind rest' b) kinds other.given),
      other.parts ∙ (λ i. sym meet.0 i ++ sym meet.1 i ∷ other.behind),
    )

pub same_next : (before : ℕ) (lines : List (List ℕ)) (a b : Command) (taken rest taken' rest' : List (List ℕ)) → IsNextCommand before lines a taken rest → IsNextCommand before lines b taken' rest'
    → (a ≡ b) × (taken ≡ taken') × (rest ≡ rest')
same_next before lines a b taken rest taken' rest' one other =
    let split = given_split before lines one.passed one.line one.kind (one.behind ++ rest) b taken' rest' (laid_out before lines a taken rest one) one.over one.is
    (not_passed one.line one.kind _ one.behind rest a one.is one.given) other in
    let found = given_once one.kind (before + length one.passed + 1) one.behind split.0 rest rest' a b split.1 one.given split.2 in (
      found.0,
      one.parts ∙ ap (λ (ls : List (List ℕ)). one.passed ++ one.line ∷ ls) found.1 ∙ sym split.3,
      found.2,
    )

-- lines that are passed over have no command
pub none_next : (before : ℕ) (lines : List (List ℕ)) (asked : Command) (taken rest : List (List ℕ)) → AreAll IsPassedOver lines → IsNextCommand before lines asked taken rest → ⊥
none_next before lines asked taken rest over is =
    no_split IsPassedOver is.passed is.line (is.behind ++ rest) (subst (AreAll IsPassedOver) (laid_out before lines asked taken rest is) over)
    (not_passed is.line is.kind _ is.behind rest asked is.is is.given)

-- ---- one script

pub script_once : (before : ℕ) (lines : List (List ℕ)) (a b : List Command) → AreScript before lines a → AreScript before lines b → a ≡ b
script_once before lines [] [] one other = refl
script_once before lines [] (y ∷ b) one (taken, rest, is, later) = absurd (none_next before lines y taken rest one is)
script_once before lines (x ∷ a) [] (taken, rest, is, later) other = absurd (none_next before lines x taken rest other is)
script_once before lines (x ∷ a) (y ∷ b) (taken, rest, is, later) (taken', rest', is', later') =
    let same = same_next before lines x y taken rest taken' rest' is is' in
    let later_b : AreScript (before + length taken) rest b =
    subst (λ (ls : List (List ℕ)). AreScript (before + length ls) rest b) (sym same.1) (subst (λ (ls : List (List ℕ)). AreScript (before + length taken') ls b) (sym same.2) later') in
    let others = script_once (before + length taken) rest a b later later_b in
    λ i. same.0 i ∷ others i
