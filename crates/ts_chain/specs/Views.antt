-- What a chain tells of the terms under its numbers, and the bounds of the triples that it gives.
use Rattle.std.specs.Prelude.{◌≡◌, ◌≢◌, ℕ, ◌≤◌, List, ◌++◌, All, Contains, Some}
use Rattle.ts_model.specs.declared.term.TermKind.TheVariants.{Node, Predicate}
use Rattle.ts_model.specs.History.{History}
use Rattle.ts_model.specs.TextTerm.{TextTerm, IsTerm}
use Rattle.ts_plane.specs.declared.triple.IdTriple.{IdTriple}
use Rattle.ts_plane.specs.Triple.{IsPlaneList, IsWithin}
use Rattle.ts_part.specs.Facts.{Facts, HasTerm, HasPredicate}
use Rattle.ts_part.specs.Numbers.{IsTermAt, number_of}
use Rattle.ts_chain.specs.Chain.{terms_in, predicates_in}

-- a number of the nodes and values, and one of the predicates
pub record IsTermId (parts : List Facts) (id : ℕ) : Type 0 where
  pub some : 1 ≤ id
  pub within : id ≤ terms_in parts

pub record IsPredicateId (parts : List Facts) (id : ℕ) : Type 0 where
  pub some : 1 ≤ id
  pub within : id ≤ predicates_in parts

-- a part has the node or value under the number, and the same of a predicate
pub record NamesTerm (parts : List Facts) (id : ℕ) (term : TextTerm) : Type 0 where
  pub part : Facts
  pub among : Contains parts part
  pub has : HasTerm part id term

pub record NamesPredicate (parts : List Facts) (id : ℕ) (term : TextTerm) : Type 0 where
  pub part : Facts
  pub among : Contains parts part
  pub has : HasPredicate part id term

abbrev pub IsNodeId : List Facts → ℕ → Type 0
IsNodeId parts id = (term : TextTerm) × NamesTerm parts id term × (term.kind ≡ Node)

-- a buffer has behind what it held the spelling of a term that is as asked
pub record Appends (IsAsked : TextTerm → Type 0) (old new : List ℕ) : Type 0 where
  pub term : TextTerm
  pub asked : IsAsked term
  pub is_term : IsTerm term
  pub written : new ≡ old ++ term.spelling

-- the node or value of a layer that has the number there, and the same of a predicate
pub record IsTermOf (history : History) (k id : ℕ) (term : TextTerm) : Type 0 where
  pub kind : term.kind ≢ Predicate
  pub there : IsTermAt history (Some k) term
  pub number : number_of history k term ≡ id

pub record IsPredicateOf (history : History) (k id : ℕ) (term : TextTerm) : Type 0 where
  pub kind : term.kind ≡ Predicate
  pub there : IsTermAt history (Some k) term
  pub number : number_of history k term ≡ id

abbrev pub IsNodeOf : History → ℕ → ℕ → Type 0
IsNodeOf history k id = (term : TextTerm) × IsTermOf history k id term × (term.kind ≡ Node)

-- rising triples of the chain's numbers
pub record AreTriplesOf (parts : List Facts) (triples : List IdTriple) : Type 0 where
  pub list : IsPlaneList triples
  pub within : All (IsWithin (terms_in parts) (predicates_in parts)) triples
