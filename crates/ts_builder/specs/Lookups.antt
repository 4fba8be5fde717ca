-- The terms of triples, and what the parts of a chain have of them.
use Rattle.std.specs.Prelude.{◌≡◌, ℕ, ◌++◌, List, All, Option, None, Some, filter, map, slice_get}
use Rattle.std.specs.List.{AllZip}
use Rattle.std.specs.Option.{is_none}
use Rattle.ts_model.specs.Order.{term_cmp}
use Rattle.ts_model.specs.Sets.{from_list, members}
use Rattle.ts_model.specs.TextTerm.{TextTerm}
use Rattle.ts_model.specs.TextTriple.{TextTriple}
use Rattle.ts_part.specs.Facts.{Facts}
use Rattle.ts_chain.specs.Ids.{HasId, Lacks}
use Rattle.ts_builder.specs.declared.terms.Found.{Found}
use Rattle.ts_builder.specs.declared.terms.Lookup.{Lookup}
use Rattle.ts_builder.specs.declared.terms.Occurrences.{Occurrences}

-- the number that the parts have for a term, and none where they lack it
abbrev pub IsIdOrNone : List Facts → TextTerm → Option ℕ → Type 0
IsIdOrNone parts term None = Lacks parts term
IsIdOrNone parts term (Some id) = HasId parts term id

abbrev pub found_terms : List Found → List TextTerm
found_terms found = map (λ (one : Found). one.term.now) found

-- the terms of occurrences, each once, with their numbers and their places
pub record AreFound (parts : List Facts) (occurrences : List TextTerm) (terms : Occurrences) : Type 0 where
  pub distinct : found_terms terms.found.items ≡ members (from_list {R = term_cmp} occurrences)
  pub ids : All (λ (one : Found). IsIdOrNone parts one.term.now one.id) terms.found.items
  pub places : AllZip (λ (term : TextTerm) (place : ℕ). slice_get (found_terms terms.found.items) place ≡ Some term) occurrences terms.places.items

-- the subjects and behind them the objects of triples, and their predicates
pub record IsLookup (parts : List Facts) (triples : List TextTriple) (terms : Lookup) : Type 0 where
  pub ends : AreFound parts (map (λ (triple : TextTriple). triple.subject) triples ++ map (λ (triple : TextTriple). triple.object) triples) terms.ends
  pub relations : AreFound parts (map (λ (triple : TextTriple). triple.predicate) triples) terms.relations

-- of triples over the parts of some chain
abbrev pub IsSomeLookup : Lookup → Type 0
IsSomeLookup terms = (parts : List Facts) × (triples : List TextTriple) × IsLookup parts triples terms

-- those without a number
abbrev pub lacked : List Found → List TextTerm
lacked found = found_terms (filter (λ (one : Found). is_none one.id) found)
