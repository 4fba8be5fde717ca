-- The body of a command of a script.
use Rattle.std.specs.Prelude.{◌≡◌, ℕ, ◌≤◌, Bool, true, false, List, [], ◌∷◌, ◌++◌, length, codes, Result}
use Rattle.ts_model.specs.declared.signed.SignedTriple.{SignedTriple}
use Rattle.ts_nt.specs.Limits.{line_limit}
use Rattle.ts_script.specs.Body.{IsBodyRead}
use Rattle.ts_script.specs.LineWords.{words_in}
use Rattle.ts_script.specs.declared.body.BodyFault.{BodyFault}

-- each of the lines has P
abbrev pub AreAll : (List ℕ → Type 0) → List (List ℕ) → Type 0
AreAll P [] = Unit {0}
AreAll P (line ∷ lines) = P line × AreAll P lines

-- `end` alone, perhaps with blanks around it
abbrev pub EndsBody : List ℕ → Type 0
EndsBody line = (length line ≤ line_limit) × (words_in line ≡ codes "end" ∷ [])

abbrev pub GoesOn : List ℕ → Type 0
GoesOn line = EndsBody line → ⊥

-- a body is closed by a line that ends it, and else by the end of the script
abbrev pub CloseBody : Bool → List (List ℕ) → List (List ℕ) → Type 0
CloseBody true closing rest = (line : List ℕ) × (closing ≡ line ∷ []) × EndsBody line
CloseBody false closing rest = (closing ≡ []) × (rest ≡ [])

-- The lines `taken` are a body, and the line that ends it where it is closed; `rest` follows. Before them `before` lines of the input stand.
pub record IsBodyUpTo (before : ℕ) (taken rest : List (List ℕ)) (read : Result (List SignedTriple) BodyFault) (is_closed : Bool) : Type 0 where
  pub body : List (List ℕ)
  pub closing : List (List ℕ)
  pub parts : taken ≡ body ++ closing
  pub goes_on : AreAll GoesOn body
  pub closes : CloseBody is_closed closing rest
  pub spells : IsBodyRead before body read
