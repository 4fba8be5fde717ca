-- What the lines of a body spell.
use Rattle.std.specs.Prelude.{◌≡◌, ℕ, ◌+◌, List, [], ◌∷◌, ◌++◌, length, flat_map, Option, None, Some, option_to_list, Result, Ok, Err}
use Rattle.ts_model.specs.declared.signed.SignedTriple.{SignedTriple}
use Rattle.ts_nt.specs.LineRead.{Answers, IsRefusedFor}
use Rattle.ts_nt.specs.declared.read.LineError.TheVariants as line_error
use Rattle.ts_script.specs.declared.body.BodyFault.{BodyFault}
use Rattle.ts_script.specs.declared.body.BodyFault.TheVariants.{Bad, TooLong}

-- each line is read as its answer: nothing, or a signed triple
abbrev pub AreReadAs : List (List ℕ) → List (Option SignedTriple) → Type 0
AreReadAs [] [] = Unit {0}
AreReadAs [] (answer ∷ answers) = ⊥
AreReadAs (line ∷ lines) [] = ⊥
AreReadAs (line ∷ lines) (answer ∷ answers) = Answers line answer × AreReadAs lines answers

-- the lines name these triples, in this order, and none of them is at fault
abbrev pub SpellBody : List (List ℕ) → List SignedTriple → Type 0
SpellBody lines body = (answers : List (Option SignedTriple)) × AreReadAs lines answers × (body ≡ flat_map option_to_list answers)

-- The line with the number `at` is the first at fault, and has P. Before the first of these lines `before` lines of the input stand.
pub record IsFirstFault (P : List ℕ → Type 0) (before : ℕ) (lines : List (List ℕ)) (at : ℕ) : Type 0 where
  pub front : List (List ℕ)
  pub line : List ℕ
  pub rest : List (List ℕ)
  pub parts : lines ≡ front ++ line ∷ rest
  pub number : at ≡ before + length front + 1
  pub answers : List (Option SignedTriple)
  pub read : AreReadAs front answers
  pub fault : P line

-- the first line at fault, or none
abbrev pub IsFaultOf : ℕ → List (List ℕ) → List SignedTriple → Option BodyFault → Type 0
IsFaultOf before lines body None = SpellBody lines body
IsFaultOf before lines body (Some (Bad number)) = IsFirstFault (λ line. IsRefusedFor line line_error.Bad) before lines number
IsFaultOf before lines body (Some (TooLong number)) = IsFirstFault (λ line. IsRefusedFor line line_error.TooLong) before lines number

-- what the lines are read as: a body, or the first fault of one
abbrev pub IsBodyRead : ℕ → List (List ℕ) → Result (List SignedTriple) BodyFault → Type 0
IsBodyRead before lines (Ok body) = IsFaultOf before lines body None
IsBodyRead before lines (Err fault) = IsFaultOf before lines [] (Some fault)
