-- The numbers of terms in a chain.
use Rattle.std.specs.Prelude.{◌≡◌, ℕ, List, [], ◌∷◌, All, ◌⊎◌, Option, None, Some}
use Rattle.ts_model.specs.declared.term.TermKind.{TermKind}
use Rattle.ts_model.specs.declared.term.TermKind.TheVariants.{Node, Predicate, Value}
use Rattle.ts_model.specs.TextTerm.{TextTerm}
use Rattle.ts_model.specs.History.{History}
use Rattle.ts_part.specs.Facts.{Facts, HasTerm, HasPredicate}
use Rattle.ts_part.specs.Numbers.{IsTermAt, number_of}

-- the part has the term under a number that terms of this kind are numbered by
abbrev pub HasOfKind : TermKind → Facts → ℕ → TextTerm → Type 0
HasOfKind Node part number term = HasTerm part number term
HasOfKind Predicate part number term = HasPredicate part number term
HasOfKind Value part number term = HasTerm part number term

abbrev pub HasNew : Facts → TextTerm → ℕ → Type 0
HasNew part term number = HasOfKind term.kind part number term

abbrev pub LacksNew : Facts → TextTerm → Type 0
LacksNew part term = (number : ℕ) → ¬ HasNew part term number

-- the newest part that has the term tells its number
abbrev pub HasId : List Facts → TextTerm → ℕ → Type 0
HasId [] term id = ⊥
HasId (part ∷ parts) term id = HasNew part term id ⊎ (LacksNew part term × HasId parts term id)

-- no part has it
abbrev pub Lacks : List Facts → TextTerm → Type 0
Lacks parts term = All (λ part. LacksNew part term) parts

-- the number of a term at a layer, and none exactly where the layer hasn't the term
abbrev pub IsIdAt : History → ℕ → TextTerm → Option ℕ → Type 0
IsIdAt history k term None = ¬ IsTermAt history (Some k) term
IsIdAt history k term (Some id) = IsTermAt history (Some k) term × (id ≡ number_of history k term)
