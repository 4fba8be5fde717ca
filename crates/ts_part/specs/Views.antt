-- What lookups in a part answer.
use Rattle.std.specs.Prelude.{◌≡◌, ℕ, ◌<◌, ◌≤◌, List, ◌++◌}
use Rattle.ts_model.specs.declared.term.TermKind.{TermKind}
use Rattle.ts_model.specs.declared.term.TermKind.TheVariants.{Node}
use Rattle.ts_model.specs.TextTerm.{TextTerm}
use Rattle.ts_part.specs.Facts.{Facts, HasTerm, HasPredicate, all_terms, all_predicates}

-- no number has this node or value
abbrev pub LacksTerm : Facts → TermKind → List ℕ → Type 0
LacksTerm facts kind spelling = (number : ℕ) → ¬ HasTerm facts number (record { kind = kind; spelling = spelling })

abbrev pub LacksPredicate : Facts → TermKind → List ℕ → Type 0
LacksPredicate facts kind spelling = (number : ℕ) → ¬ HasPredicate facts number (record { kind = kind; spelling = spelling })

-- it is the number of a node
abbrev pub IsNodeNumber : Facts → ℕ → Type 0
IsNodeNumber facts number = (term : TextTerm) × HasTerm facts number term × (term.kind ≡ Node)

-- it is the number of a new node or value
pub record IsTermNumber (facts : Facts) (number : ℕ) : Type 0 where
  pub above : facts.terms_before < number
  pub within : number ≤ all_terms facts

pub record IsPredicateNumber (facts : Facts) (number : ℕ) : Type 0 where
  pub above : facts.predicates_before < number
  pub within : number ≤ all_predicates facts

-- a buffer has behind what it held the spelling of the node or value under the number
pub record AppendsTerm (facts : Facts) (number : ℕ) (old new : List ℕ) : Type 0 where
  pub term : TextTerm
  pub there : HasTerm facts number term
  pub written : new ≡ old ++ term.spelling

pub record AppendsPredicate (facts : Facts) (number : ℕ) (old new : List ℕ) : Type 0 where
  pub term : TextTerm
  pub there : HasPredicate facts number term
  pub written : new ≡ old ++ term.spelling
