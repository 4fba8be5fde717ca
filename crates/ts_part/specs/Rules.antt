-- The rules of a part's facts.
use Rattle.std.specs.Prelude.{◌≡◌, ℕ, ◌+◌, ◌<◌, ◌≤◌, ◌⊎◌, List, [], length, All, Contains}
use Rattle.ts_front.specs.Dictionary.{Rising}
use Rattle.ts_idmap.specs.Permutation.{Permutes}
use Rattle.ts_model.specs.declared.term.TermKind.{TermKind}
use Rattle.ts_model.specs.declared.term.TermKind.TheVariants.{Node, Predicate, Value}
use Rattle.ts_model.specs.TextTerm.{TextTerm, IsTerm}
use Rattle.ts_plane.specs.declared.triple.IdTriple.{IdTriple}
use Rattle.ts_plane.specs.Triple.{IsPlaneList, IsWithin}
use Rattle.ts_part.specs.declared.header.PartKind.{PartKind}
use Rattle.ts_part.specs.declared.header.PartKind.TheVariants.{Layer, Rollup}
use Rattle.ts_part.specs.Facts.{Facts, HasTerm, spellings, all_terms, all_predicates}
use Rattle.ts_part.specs.Header.{KeepsHeaderRules, header_of}

-- terms of one kind, each canonical and within the limit, in the order of their spellings, each once
pub record TermsRule (kind : TermKind) (terms : List TextTerm) : Type 0 where
  pub kinds : All (λ term. term.kind ≡ kind) terms
  pub canonical : All IsTerm terms
  pub rising : Rising (spellings terms)

-- rising triples, whose numbers are among so many terms and so many predicates
pub record TriplesRule (terms predicates : ℕ) (triples : List IdTriple) : Type 0 where
  pub list : IsPlaneList triples
  pub within : All (IsWithin terms predicates) triples

-- a rollup gives each of its entries one of its new numbers; a layer has no map
abbrev pub MapsRule : PartKind → Facts → Type 0
MapsRule Layer facts = (facts.term_map ≡ []) × (facts.predicate_map ≡ [])
MapsRule Rollup facts =
    Permutes facts.term_map × (length facts.term_map ≡ length facts.nodes + length facts.values)
    × Permutes facts.predicate_map × (length facts.predicate_map ≡ length facts.predicates)

-- what each list keeps for itself
pub record KeepsListRules (facts : Facts) : Type 0 where
  pub header : KeepsHeaderRules (header_of facts 0)
  pub nodes : TermsRule Node facts.nodes
  pub predicates : TermsRule Predicate facts.predicates
  pub values : TermsRule Value facts.values
  pub additions : TriplesRule (all_terms facts) (all_predicates facts) facts.additions
  pub removals : TriplesRule facts.terms_before facts.predicates_before facts.removals
  pub maps : MapsRule facts.kind facts

-- a triple has the term of the number as its subject or its object
abbrev pub HasNumber : ℕ → IdTriple → Type 0
HasNumber number triple = (triple.s ≡ number) ⊎ (triple.o ≡ number)

-- each new node and value stands in an addition
abbrev pub TermsUsed : Facts → Type 0
TermsUsed facts = (number : ℕ) → facts.terms_before < number → number ≤ all_terms facts
    → (triple : IdTriple) × Contains facts.additions triple × HasNumber number triple

abbrev pub PredicatesUsed : Facts → Type 0
PredicatesUsed facts = (number : ℕ) → facts.predicates_before < number → number ≤ all_predicates facts
    → (triple : IdTriple) × Contains facts.additions triple × (triple.p ≡ number)

pub record AreUsed (facts : Facts) : Type 0 where
  pub terms : TermsUsed facts
  pub predicates : PredicatesUsed facts

-- each new subject of an addition is a node
abbrev pub SubjectsAreNodes : Facts → Type 0
SubjectsAreNodes facts = (triple : IdTriple) → Contains facts.additions triple → facts.terms_before < triple.s
    → (term : TextTerm) × HasTerm facts triple.s term × (term.kind ≡ Node)

-- no triple is in both lists
abbrev pub AreApart : List IdTriple → List IdTriple → Type 0
AreApart these those = (triple : IdTriple) → Contains these triple → ¬ Contains those triple

-- what the lists keep together; a rollup has terms of no addition too
pub record KeepsFactRules (facts : Facts) : Type 0 where
  pub subjects : SubjectsAreNodes facts
  pub used : facts.kind ≡ Layer → AreUsed facts
  pub apart : AreApart facts.additions facts.removals

-- all rules
pub record KeepsRules (facts : Facts) : Type 0 where
  pub lists : KeepsListRules facts
  pub together : KeepsFactRules facts
