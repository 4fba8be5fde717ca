-- What a part of a chain names, the chain names.
use Rattle.std.proofs.Common.{◌≡◌, ℕ, List, ◌++◌, All, Contains, OnOk, Result, Ok, Err, Some, slice_get, subst, arith}
use Rattle.std.specs.Prelude.{◌↔◌}
use Rattle.std.proofs.lemmas.List.Elements.{All-append, All-contains}
use Rattle.std.proofs.lemmas.Option.{get_or_from_slice_get, slice_get_within}
use Rattle.ts_model.specs.TextTerm.{TextTerm, IsTerm}
use Rattle.ts_part.specs.Facts.{Facts, HasPredicate, HasTerm}
use Rattle.ts_part.specs.Rules.{KeepsRules}
use Rattle.ts_part.specs.Views.{AppendsPredicate, AppendsTerm, IsNodeNumber}
use Rattle.ts_part.proofs.EntryLemmas.{predicate_within, term_within}
use Rattle.ts_chain.specs.declared.numbered.Numbered.TheVariants.{Terms, Predicates}
use Rattle.ts_chain.specs.Chain.{IsChain}
use Rattle.ts_chain.specs.Numbered.{IsPartOf}
use Rattle.ts_chain.specs.Views.{Appends, IsNodeId, IsPredicateId, IsTermId, NamesPredicate, NamesTerm}
use Rattle.ts_chain.proofs.Ranges.{only_part, up_to_total}

-- each entry of a list of canonical terms is one
entry_term : (terms : List TextTerm) (i : ℕ) (term : TextTerm) → All IsTerm terms → slice_get terms i ≡ Some term → IsTerm term
entry_term terms i term all at = subst IsTerm (get_or_from_slice_get terms i term term at) (all i term (slice_get_within terms i term at))

module _ (parts : List Facts) (chain : IsChain parts) where
  rules_of : (part : Facts) → Contains parts part → KeepsRules part
  rules_of part among = All-contains KeepsRules parts part chain.rules among

  pub names_term : (part : Facts) (id : ℕ) (old new : List ℕ) → IsPartOf Terms parts id part → AppendsTerm part id old new → Appends (NamesTerm parts id) old new
  names_term part id old new is appends =
      let lists = (rules_of part is.among).lists in
      record {
        term = appends.term;
        asked = record { part = part; among = is.among; has = appends.there };
        is_term = entry_term (part.nodes ++ part.values) appends.there.entry appends.term
            (All-append IsTerm part.nodes part.values lists.nodes.canonical lists.values.canonical) appends.there.stands;
        written = appends.written;
      }

  pub names_predicate : (part : Facts) (id : ℕ) (old new : List ℕ) → IsPartOf Predicates parts id part → AppendsPredicate part id old new
      → Appends (NamesPredicate parts id) old new
  names_predicate part id old new is appends = record {
    term = appends.term;
    asked = record { part = part; among = is.among; has = appends.there };
    is_term = entry_term part.predicates appends.there.entry appends.term (rules_of part is.among).lists.predicates.canonical appends.there.stands;
    written = appends.written;
  }

  -- the part that has the number among its new ones is the only one that has it
  term_there : (part : Facts) (id : ℕ) (term : TextTerm) → IsPartOf Terms parts id part → NamesTerm parts id term → HasTerm part id term
  term_there part id term is names =
      let range = term_within names.part id term (rules_of names.part names.among).lists.maps names.has in
      subst (λ p. HasTerm p id term)
      (only_part Terms id names.part part range.above range.within is.above is.within parts chain.linked names.among is.among) names.has

  pub node_named : (part : Facts) (id : ℕ) → IsPartOf Terms parts id part → IsNodeNumber part id ↔ IsNodeId parts id
  node_named part id is = (
    λ node. (node.0, record { part = part; among = is.among; has = node.1 }, node.2),
    λ node. (node.0, term_there part id node.0 is node.1, node.2),
  )

  -- a number that a part has is one of the chain's
  pub term_id : (part : Facts) (id : ℕ) (term : TextTerm) → Contains parts part → HasTerm part id term → IsTermId parts id
  term_id part id term among has =
      let range = term_within part id term (rules_of part among).lists.maps has in
      let up = up_to_total Terms parts part chain.linked among in
      record { some = omega (arith, range.above); within = omega (arith, range.within) }

  pub predicate_id : (part : Facts) (id : ℕ) (term : TextTerm) → Contains parts part → HasPredicate part id term → IsPredicateId parts id
  predicate_id part id term among has =
      let range = predicate_within part id term (rules_of part among).lists.maps has in
      let up = up_to_total Predicates parts part chain.linked among in
      record { some = omega (arith, range.above); within = omega (arith, range.within) }

-- what is asked less is appended too
pub appends_weaker : (P Q : TextTerm → Type 0) (old new : List ℕ) → ((term : TextTerm) → P term → Q term) → Appends P old new → Appends Q old new
appends_weaker P Q old new weaker appends =
    record { term = appends.term; asked = weaker appends.term appends.asked; is_term = appends.is_term; written = appends.written }

-- what follows where a call succeeded
pub on_ok : {T E : Type 0} (result : Result T E) (P Q : Type 0) → (P → Q) → OnOk result P → OnOk result Q
on_ok (Ok x) P Q follows h = follows h
on_ok (Err e) P Q follows h = h
