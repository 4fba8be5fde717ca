-- Parts that go on from one another, newest first.
use Rattle.std.specs.Prelude.{◌≡◌, ℕ, List, [], ◌∷◌, All, Option, None, Some}
use Rattle.ts_part.specs.Facts.{Facts, all_terms, all_predicates}
use Rattle.ts_part.specs.Rules.{KeepsRules}

-- a part's parent is the layer of the next one, and its numbers go on where that one's stop
pub record GoesOnFrom (part next : Facts) : Type 0 where
  pub parent : part.parent ≡ Some next.number
  pub terms : part.terms_before ≡ all_terms next
  pub predicates : part.predicates_before ≡ all_predicates next

-- some parts, each of which goes on from the next, and the last one from nothing
abbrev pub AreLinked : List Facts → Type 0
AreLinked [] = ⊥
AreLinked (part ∷ []) = part.parent ≡ None
AreLinked (part ∷ next ∷ parts) = GoesOnFrom part next × AreLinked (next ∷ parts)

-- what each chain is, whether or not its parts stand for a history
pub record IsChain (parts : List Facts) : Type 0 where
  pub rules : All KeepsRules parts
  pub linked : AreLinked parts

-- the layer of parts; without parts, none
abbrev pub layer_of : List Facts → Option ℕ
layer_of [] = None
layer_of (part ∷ parts) = Some part.number

-- how many nodes and values, and how many predicates; without parts, none
abbrev pub terms_in : List Facts → ℕ
terms_in [] = 0
terms_in (part ∷ parts) = all_terms part

abbrev pub predicates_in : List Facts → ℕ
predicates_in [] = 0
predicates_in (part ∷ parts) = all_predicates part

-- the parts of a chain, or of none
abbrev pub parts_or_none : Option (List Facts) → List Facts
parts_or_none None = []
parts_or_none (Some parts) = parts
