-- The numbers that a new layer has for terms: those of the chain, and new ones behind.
use Rattle.std.specs.Prelude.{◌≡◌, ℕ, ◌<◌, ◌≤◌, ◌⊎◌, List, [], All, Option, None, Some, IfSome, IsTrue, filter}
use Rattle.std.specs.List.{AllZip, list_any}
use Rattle.std.specs.List.Sorted.{IsStrictlySortedBy}
use Rattle.ts_model.specs.declared.term.TermKind.{TermKind}
use Rattle.ts_model.specs.declared.term.TermKind.TheVariants.{Node, Predicate, Value}
use Rattle.ts_model.specs.Birth.{is_term}
use Rattle.ts_model.specs.Limits.{number_limit}
use Rattle.ts_model.specs.Order.{term_cmp}
use Rattle.ts_model.specs.Sets.{from_list, members}
use Rattle.ts_model.specs.TextTerm.{TextTerm}
use Rattle.ts_model.specs.TextTriple.{TextTriple}
use Rattle.ts_plane.specs.declared.triple.IdTriple.{IdTriple}
use Rattle.ts_plane.specs.Triple.{triple_cmp as id_cmp}
use Rattle.ts_part.specs.declared.header.PartKind.TheVariants.{Layer}
use Rattle.ts_part.specs.Facts.{Facts, all_predicates, all_terms}
use Rattle.ts_part.specs.Step.{is_of_kind}
use Rattle.ts_chain.specs.Chain.{layer_of, predicates_in, terms_in}
use Rattle.ts_chain.specs.Ids.{HasId, HasNew, Lacks}
use Rattle.ts_builder.specs.declared.terms.Found.{Found}
use Rattle.ts_builder.specs.Lookups.{lacked}
use Rattle.ts_builder.specs.NewTerms.{new_predicates_of, new_terms_of, numbered_by}

-- a layer's new terms behind so many, and no triples
abbrev pub new_facts : ℕ → ℕ → List TextTerm → List TextTerm → List TextTerm → Facts
new_facts terms predicates nodes new_predicates values = record {
  kind = Layer;
  number = 0;
  parent = None;
  terms_before = terms;
  predicates_before = predicates;
  nodes = nodes;
  predicates = new_predicates;
  values = values;
  additions = [];
  removals = [];
  term_map = [];
  predicate_map = [];
}

-- its lists rise and have terms of their kinds, and its numbers are below the limit
pub record IsNumbering (new : Facts) : Type 0 where
  pub node_kinds : All (λ term. term.kind ≡ Node) new.nodes
  pub value_kinds : All (λ term. term.kind ≡ Value) new.values
  pub nodes : IsStrictlySortedBy term_cmp new.nodes
  pub predicates : IsStrictlySortedBy term_cmp new.predicates
  pub values : IsStrictlySortedBy term_cmp new.values
  pub terms_fit : all_terms new < number_limit
  pub predicates_fit : all_predicates new < number_limit

-- the new terms of additions behind those of the parts
abbrev pub made_of : List Facts → List TextTriple → Facts
made_of parts additions =
    new_facts (terms_in parts) (predicates_in parts) (filter (is_of_kind Node) (members (new_terms_of parts additions))) (members (new_predicates_of parts additions))
    (filter (is_of_kind Value) (members (new_terms_of parts additions)))

-- what the header of the newest part keeps
pub record IsBelow (parts : List Facts) : Type 0 where
  pub terms : terms_in parts < number_limit
  pub predicates : predicates_in parts < number_limit
  pub layer : IfSome (layer_of parts) (λ k. 1 ≤ k)

-- the number of the chain, or, of a term that it lacks and that is among the new ones, that of the layer
abbrev pub IsNumberBy : List Facts → Facts → TextTerm → ℕ → Type 0
IsNumberBy parts new term id =
    HasId parts term id ⊎ (Lacks parts term × (IsTrue (list_any (is_term term) (numbered_by term.kind new)) → HasNew new term id))

pub record AreNumbersBy (parts : List Facts) (new : Facts) (triple : TextTriple) (t : IdTriple) : Type 0 where
  pub subject : IsNumberBy parts new triple.subject t.s
  pub predicate : IsNumberBy parts new triple.predicate t.p
  pub object : IsNumberBy parts new triple.object t.o

-- the chain's number, or of a term that it lacks the layer's
abbrev pub IsNumberOf : Facts → TextTerm → Option ℕ → ℕ → Type 0
IsNumberOf new term None number = HasNew new term number
IsNumberOf new term (Some id) number = number ≡ id

abbrev pub new_of_kind : TermKind → Facts → List TextTerm
new_of_kind Node new = new.nodes
new_of_kind Predicate new = new.predicates
new_of_kind Value new = new.values

-- where the chain lacks terms of a kind, they are the layer's new ones of it
abbrev pub AreNew : Facts → List Found → Type 0
AreNew new found = All (λ (one : Found). one.id ≡ None → filter (is_of_kind one.term.now.kind) (lacked found) ≡ new_of_kind one.term.now.kind new) found

-- the numbers are those of the terms, one for each
abbrev pub AreNumbersOf : Facts → List Found → List ℕ → Type 0
AreNumbersOf new found numbers = AllZip (λ (one : Found) (number : ℕ). IsNumberOf new one.term.now one.id number) found numbers

-- triples by their numbers, rising, each once
pub record AreIdsBy (parts : List Facts) (new : Facts) (triples : List TextTriple) (ids : List IdTriple) : Type 0 where
  pub given : List IdTriple
  pub each : AllZip (AreNumbersBy parts new) triples given
  pub rising : ids ≡ members (from_list {R = id_cmp} given)
