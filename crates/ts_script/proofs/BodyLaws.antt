-- Lines are one body, or have one first fault.
use Rattle.std.proofs.Common.{◌≡◌, ◌⊎◌, inl, inr, ℕ, ◌+◌, List, [], ◌∷◌, ◌++◌, length, All, refl, sym, ap, ◌∙◌, subst, arith, append_assoc, append-nil}
use Rattle.std.specs.Prelude.{flat_map, Option, None, Some, option_to_list, Result, Ok, Err}
use Rattle.std.proofs.lemmas.List.Elements.{All-cons, All-nil}
use Rattle.ts_model.specs.declared.signed.SignedTriple.{SignedTriple}
use Rattle.ts_model.specs.TextTriple.{IsTriple}
use Rattle.ts_nt.specs.LineRead.{Answers, IsBad, IsTooLong}
use Rattle.ts_script.specs.Body.{AreReadAs, SpellBody, IsFirstFault, IsBodyRead}
use Rattle.ts_script.specs.declared.body.BodyFault.{BodyFault}
use Rattle.ts_script.specs.declared.body.BodyFault.TheVariants.{Bad, TooLong}
use Rattle.ts_script.proofs.AnswerLaws.{answer_once, bad_unanswered, long_unanswered, bad_or_long, answered_or_fault, read_triple}
use Rattle.ts_script.proofs.BodyLemmas.{read-more}

-- ---- one body

answers_once : (lines : List (List ℕ)) (a b : List (Option SignedTriple)) → AreReadAs lines a → AreReadAs lines b → a ≡ b
answers_once [] [] [] one other = refl
answers_once [] [] (y ∷ b) one other = absurd other
answers_once [] (x ∷ a) b one other = absurd one
answers_once (line ∷ lines) [] b one other = absurd one
answers_once (line ∷ lines) (x ∷ a) [] one other = absurd other
answers_once (line ∷ lines) (x ∷ a) (y ∷ b) one other =
    λ i. answer_once line x y one.0 other.0 i ∷ answers_once lines a b one.1 other.1 i

body_once : (lines : List (List ℕ)) (a b : List SignedTriple) → SpellBody lines a → SpellBody lines b → a ≡ b
body_once lines a b one other =
    one.2 ∙ ap (λ (answers : List (Option SignedTriple)). flat_map option_to_list answers) (answers_once lines one.0 other.0 one.1 other.1) ∙ sym other.2

-- ---- one fault

abbrev IsAtFault : List ℕ → Type 0
IsAtFault line = IsBad line ⊎ IsTooLong line

-- none of the lines is at fault
abbrev AreSound : List (List ℕ) → Type 0
AreSound [] = Unit {0}
AreSound (line ∷ lines) = (IsAtFault line → ⊥) × AreSound lines

answered_sound : (line : List ℕ) (answer : Option SignedTriple) → Answers line answer → IsAtFault line → ⊥
answered_sound line answer read (inl bad) = bad_unanswered line answer bad read
answered_sound line answer read (inr long) = long_unanswered line answer long read

read_sound : (lines : List (List ℕ)) (answers : List (Option SignedTriple)) → AreReadAs lines answers → AreSound lines
read_sound [] answers read = tt
read_sound (line ∷ lines) [] read = absurd read
read_sound (line ∷ lines) (answer ∷ answers) read = (answered_sound line answer read.0, read_sound lines answers read.1)

no_fault_within : (front : List (List ℕ)) (line : List ℕ) (rest : List (List ℕ)) → AreSound (front ++ line ∷ rest) → IsAtFault line → ⊥
no_fault_within [] line rest sound fault = sound.0 fault
no_fault_within (l ∷ front) line rest sound fault = no_fault_within front line rest sound.1 fault

-- two first lines at fault stand in one place
faults_meet : (front front' : List (List ℕ)) (line line' : List ℕ) (rest rest' : List (List ℕ)) → front ++ line ∷ rest ≡ front' ++ line' ∷ rest'
    → AreSound front → AreSound front' → IsAtFault line → IsAtFault line' → (length front ≡ length front') × (line ≡ line')
faults_meet [] [] line line' rest rest' same sound sound' fault fault' = (refl, cc)
faults_meet [] (l ∷ front') line line' rest rest' same sound sound' fault fault' =
    let first : line ≡ l = cc in absurd (sound'.0 (subst IsAtFault first fault))
faults_meet (l ∷ front) [] line line' rest rest' same sound sound' fault fault' =
    let first : line' ≡ l = cc in absurd (sound.0 (subst IsAtFault first fault'))
faults_meet (l ∷ front) (l' ∷ front') line line' rest rest' same sound sound' fault fault' =
    let later : front ++ line ∷ rest ≡ front' ++ line' ∷ rest' = cc in
    let meet = faults_meet front front' line line' rest rest' later sound.1 sound'.1 fault fault' in
    (omega (arith, meet.0), meet.1)

module _ (P Q : List ℕ → Type 0) (p : (line : List ℕ) → P line → IsAtFault line) (q : (line : List ℕ) → Q line → IsAtFault line) (before : ℕ) (lines : List (List ℕ)) where
  body_or_fault : (body : List SignedTriple) (at : ℕ) → SpellBody lines body → IsFirstFault P before lines at → ⊥
  body_or_fault body at spelled found =
      no_fault_within found.front found.line found.rest (read_sound _ spelled.0 (subst (λ (l : List (List ℕ)). AreReadAs l spelled.0) found.parts spelled.1)) (p found.line found.fault)

  one_fault : (a b : ℕ) → (one : IsFirstFault P before lines a) → (other : IsFirstFault Q before lines b) → (a ≡ b) × (one.line ≡ other.line)
  one_fault a b one other =
      let meet = faults_meet one.front other.front one.line other.line one.rest other.rest (sym one.parts ∙ other.parts)
      (read_sound one.front one.answers one.read) (read_sound other.front other.answers other.read) (p one.line one.fault) (q other.line other.fault) in
      (one.number ∙ ap (λ (n : ℕ). before + n + 1) meet.0 ∙ sym other.number, meet.1)

bad_fault : (line : List ℕ) → IsBad line → IsAtFault line
bad_fault line bad = inl bad

long_fault : (line : List ℕ) → IsTooLong line → IsAtFault line
long_fault line long = inr long

bad_or_long_first : (before : ℕ) (lines : List (List ℕ)) (a b : ℕ) → IsFirstFault IsBad before lines a → IsFirstFault IsTooLong before lines b → ⊥
bad_or_long_first before lines a b bad long =
    let same = one_fault IsBad IsTooLong bad_fault long_fault before lines a b bad long in
    bad_or_long long.line (subst IsBad same.1 bad.fault) long.fault

-- ---- one reading

pub read_once : (before : ℕ) (lines : List (List ℕ)) (a b : Result (List SignedTriple) BodyFault) → IsBodyRead before lines a → IsBodyRead before lines b → a ≡ b
read_once before lines (Ok a) (Ok b) one other = ap Ok (body_once lines a b one other)
read_once before lines (Ok a) (Err (Bad m)) one other = absurd (body_or_fault IsBad IsBad bad_fault bad_fault before lines a m one other)
read_once before lines (Ok a) (Err (TooLong m)) one other = absurd (body_or_fault IsTooLong IsBad long_fault bad_fault before lines a m one other)
read_once before lines (Err (Bad n)) (Ok b) one other = absurd (body_or_fault IsBad IsBad bad_fault bad_fault before lines b n other one)
read_once before lines (Err (TooLong n)) (Ok b) one other = absurd (body_or_fault IsTooLong IsBad long_fault bad_fault before lines b n other one)
read_once before lines (Err (Bad n)) (Err (Bad m)) one other = ap (λ (k : ℕ). Err (Bad k)) (one_fault IsBad IsBad bad_fault bad_fault before lines n m one other).0
read_once before lines (Err (Bad n)) (Err (TooLong m)) one other = absurd (bad_or_long_first before lines n m one other)
read_once before lines (Err (TooLong n)) (Err (Bad m)) one other = absurd (bad_or_long_first before lines m n other one)
read_once before lines (Err (TooLong n)) (Err (TooLong m)) one other = ap (λ (k : ℕ). Err (TooLong k)) (one_fault IsTooLong IsTooLong long_fault long_fault before lines n m one other).0

-- ---- no lines without a reading

-- where the lines in front were read, the lines that follow are read with them
read_on : (before : ℕ) (front rest : List (List ℕ)) (answers : List (Option SignedTriple)) → AreReadAs front answers
    → ((read : Result (List SignedTriple) BodyFault) → IsBodyRead before (front ++ rest) read → ⊥) → ⊥
read_on before front [] answers read none =
    none (Ok (flat_map option_to_list answers)) (answers, subst (λ (lines : List (List ℕ)). AreReadAs lines answers) (sym (append-nil front)) read, refl)
read_on before front (line ∷ rest) answers read none =
    answered_or_fault line
    (λ bad. none (Err (Bad (before + length front + 1))) (record { front = front; line = line; rest = rest; parts = refl; number = refl; answers = answers; read = read; fault = bad }))
    (λ long. none (Err (TooLong (before + length front + 1))) (record { front = front; line = line; rest = rest; parts = refl; number = refl; answers = answers; read = read; fault = long }))
    (λ answer one. read_on before (front ++ line ∷ []) rest (answers ++ answer ∷ []) (read-more front answers line answer read one)
    (λ whole is. none whole (subst (λ (lines : List (List ℕ)). IsBodyRead before lines whole) (append_assoc front (line ∷ []) rest) is)))

pub some_read : (before : ℕ) (lines : List (List ℕ)) → ((read : Result (List SignedTriple) BodyFault) → IsBodyRead before lines read → ⊥) → ⊥
some_read before lines none = read_on before [] lines [] tt none

-- ---- triples

abbrev pub AreTriples : List SignedTriple → Type 0
AreTriples body = All (λ (signed : SignedTriple). IsTriple signed.triple) body

named_triples : (lines : List (List ℕ)) (answers : List (Option SignedTriple)) → AreReadAs lines answers → AreTriples (flat_map option_to_list answers)
named_triples [] [] read = All-nil (λ (signed : SignedTriple). IsTriple signed.triple)
named_triples [] (answer ∷ answers) read = absurd read
named_triples (line ∷ lines) [] read = absurd read
named_triples (line ∷ lines) (None ∷ answers) read = named_triples lines answers read.1
named_triples (line ∷ lines) (Some signed ∷ answers) read =
    All-cons (λ (signed : SignedTriple). IsTriple signed.triple) signed (flat_map option_to_list answers) (read_triple line signed read.0) (named_triples lines answers read.1)

pub spelled_triples : (lines : List (List ℕ)) (body : List SignedTriple) → SpellBody lines body → AreTriples body
spelled_triples lines body spelled = subst AreTriples (sym spelled.2) (named_triples lines spelled.0 spelled.1)
