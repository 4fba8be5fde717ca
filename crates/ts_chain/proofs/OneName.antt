-- Each number of a chain names one term.
use Rattle.std.proofs.Common.{◌≡◌, ℕ, ◌+◌, ◌-◌, ◌<◌, ◌≤◌, inl, inr, List, [], ◌∷◌, All, Contains, None, Some, length, get_or, slice_get, refl, sym, ap, ◌∙◌, subst, arith, length-append}
use Rattle.std.specs.Prelude.{◌↔◌}
use Rattle.std.specs.Option.{unwrap_or}
use Rattle.std.proofs.lemmas.Bool.{cases_lt}
use Rattle.std.proofs.lemmas.List.Elements.{All-contains, All-head, All-tail}
use Rattle.std.proofs.lemmas.Option.{slice_get-get_or, slice_get_within}
use Rattle.ts_idmap.specs.Permutation.{Permutes}
use Rattle.ts_idmap.proofs.PermutationLemmas as permutations
use Rattle.ts_model.specs.declared.term.TermKind.TheVariants.{Node}
use Rattle.ts_model.specs.TextTerm.{TextTerm}
use Rattle.ts_part.specs.declared.header.PartKind.{PartKind}
use Rattle.ts_part.specs.declared.header.PartKind.TheVariants.{Layer, Rollup}
use Rattle.ts_part.specs.Facts.{Facts, HasPredicate, HasTerm, all_predicates, all_terms, entries_of, outer_number}
use Rattle.ts_part.specs.Rules.{KeepsRules, MapsRule}
use Rattle.ts_part.proofs.EntryLemmas.{entry_within, map_rule, one_entry, predicate_within, term_within}
use Rattle.ts_chain.specs.declared.numbered.Numbered.{Numbered}
use Rattle.ts_chain.specs.declared.numbered.Numbered.TheVariants.{Terms, Predicates}
use Rattle.ts_chain.specs.Chain.{AreLinked, IsChain}
use Rattle.ts_chain.specs.Numbered.{IsPartOf, facts_before, facts_up_to, total_in}
use Rattle.ts_chain.specs.Views.{IsPredicateId, IsTermId, NamesPredicate, NamesTerm}
use Rattle.ts_chain.proofs.Elements.{contains_head, contains_rest}
use Rattle.ts_chain.proofs.Naming.{predicate_id, term_id}
use Rattle.ts_chain.proofs.Ranges.{goes_on, only_part, total_first}

-- ---- in one part

-- each of as many numbers is that of an entry
entry_of : (kind : PartKind) (outer : List ℕ) (count number : ℕ) → (kind ≡ Rollup → Permutes outer × (length outer ≡ count)) → number < count
    → (entry : ℕ) × (entry < count) × (outer_number kind outer entry ≡ number)
entry_of Layer outer count number rule low = (number, low, refl)
entry_of Rollup outer count number rule low =
    let all = rule refl in
    let found = permutations.stands outer number all.0 (omega (arith, all.1, low)) in
    (found.0, omega (arith, found.1.0, all.1), found.1.1)

one_at : (terms : List TextTerm) (i j : ℕ) (a b : TextTerm) → i ≡ j → slice_get terms i ≡ Some a → slice_get terms j ≡ Some b → a ≡ b
one_at terms i j a b same at_a at_b = ap (λ o. unwrap_or o a) (sym at_a ∙ ap (slice_get terms) same ∙ at_b)

module _ (part : Facts) (rules : KeepsRules part) where
  predicate_rule : part.kind ≡ Rollup → Permutes part.predicate_map × (length part.predicate_map ≡ length part.predicates)
  predicate_rule rollup = (let rule = subst (λ (kind : PartKind). MapsRule kind part) rollup rules.lists.maps in (rule.2, rule.3))

  one_named : (id : ℕ) (a b : TextTerm) → HasTerm part id a → HasTerm part id b → a ≡ b
  one_named id a b has_a has_b =
      let same : outer_number part.kind part.term_map has_a.entry ≡ outer_number part.kind part.term_map has_b.entry = omega (arith, has_a.numbered, has_b.numbered) in
      one_at (entries_of part) has_a.entry has_b.entry a b
      (one_entry part.kind part.term_map (length part.nodes + length part.values) has_a.entry has_b.entry (map_rule part rules.lists.maps)
      (entry_within part id a has_a) (entry_within part id b has_b) same)
      has_a.stands has_b.stands

  one_predicate_named : (id : ℕ) (a b : TextTerm) → HasPredicate part id a → HasPredicate part id b → a ≡ b
  one_predicate_named id a b has_a has_b =
      let same : outer_number part.kind part.predicate_map has_a.entry ≡ outer_number part.kind part.predicate_map has_b.entry = omega (arith, has_a.numbered, has_b.numbered) in
      one_at part.predicates has_a.entry has_b.entry a b
      (one_entry part.kind part.predicate_map (length part.predicates) has_a.entry has_b.entry predicate_rule
      (slice_get_within part.predicates has_a.entry a has_a.stands) (slice_get_within part.predicates has_b.entry b has_b.stands) same)
      has_a.stands has_b.stands

  some_named : (id : ℕ) → part.terms_before < id → id ≤ all_terms part → (term : TextTerm) × HasTerm part id term
  some_named id above within =
      let found = entry_of part.kind part.term_map (length part.nodes + length part.values) (id - part.terms_before - 1) (map_rule part rules.lists.maps) (omega (arith, above, within)) in
      let low : found.0 < length (entries_of part) = omega (arith, found.1, length-append part.nodes part.values) in
      let none : TextTerm = record { kind = Node; spelling = [] } in (
        get_or (entries_of part) found.0 none,
        record { entry = found.0; stands = slice_get-get_or (entries_of part) found.0 none low; numbered = omega (arith, above, found.2) },
      )

  some_predicate_named : (id : ℕ) → part.predicates_before < id → id ≤ all_predicates part → (term : TextTerm) × HasPredicate part id term
  some_predicate_named id above within =
      let found = entry_of part.kind part.predicate_map (length part.predicates) (id - part.predicates_before - 1) predicate_rule (omega (arith, above, within)) in
      let none : TextTerm = record { kind = Node; spelling = [] } in (
        get_or part.predicates found.0 none,
        record { entry = found.0; stands = slice_get-get_or part.predicates found.0 none found.1; numbered = omega (arith, above, found.2) },
      )

-- ---- in a chain

nothing_before : (numbered : Numbered) (part : Facts) → KeepsRules part → part.parent ≡ None → facts_before numbered part ≡ 0
nothing_before Terms part rules none = (rules.lists.header.placed.base none).0
nothing_before Predicates part rules none = (rules.lists.header.placed.base none).1

-- a number up to the total is among the new ones of a part
pub part_there : (numbered : Numbered) (id : ℕ) (parts : List Facts) → 1 ≤ id → All KeepsRules parts → AreLinked parts → id ≤ total_in numbered parts → (part : Facts) × IsPartOf numbered parts id part
part_there numbered id [] some rules linked within = absurd linked
part_there numbered id (part ∷ []) some rules linked within = (
  part,
  record {
    among = contains_head part [];
    above = omega (arith, some, nothing_before numbered part (All-head KeepsRules part [] rules) linked);
    within = omega (arith, within, total_first numbered part []);
  },
)
part_there numbered id (part ∷ next ∷ parts) some rules linked within =
    elim (cases_lt (facts_before numbered part) id) as (λ _. (one : Facts) × IsPartOf numbered (part ∷ next ∷ parts) id one) [
      | inl above ↦ (
        part,
        record { among = contains_head part (next ∷ parts); above = above; within = omega (arith, within, total_first numbered part (next ∷ parts)) },
      )
      | inr below ↦ (
          let found = part_there numbered id (next ∷ parts) some (All-tail KeepsRules part (next ∷ parts) rules) linked.1
          (omega (arith, below, goes_on numbered part next linked.0, total_first numbered next parts)) in (
            found.0,
            record { among = contains_rest part (next ∷ parts) found.0 found.1.among; above = found.1.above; within = found.1.within },
          ))
    ]

module _ (parts : List Facts) (chain : IsChain parts) where
  rules_of : (part : Facts) → Contains parts part → KeepsRules part
  rules_of part among = All-contains KeepsRules parts part chain.rules among

  pub one_term : (id : ℕ) (a b : TextTerm) → NamesTerm parts id a → NamesTerm parts id b → a ≡ b
  one_term id a b names_a names_b =
      let at_a = term_within names_a.part id a (rules_of names_a.part names_a.among).lists.maps names_a.has in
      let at_b = term_within names_b.part id b (rules_of names_b.part names_b.among).lists.maps names_b.has in
      let same : names_a.part ≡ names_b.part =
      only_part Terms id names_a.part names_b.part at_a.above at_a.within at_b.above at_b.within parts chain.linked names_a.among names_b.among in
      one_named names_b.part (rules_of names_b.part names_b.among) id a b (subst (λ (part : Facts). HasTerm part id a) same names_a.has) names_b.has

  pub one_predicate : (id : ℕ) (a b : TextTerm) → NamesPredicate parts id a → NamesPredicate parts id b → a ≡ b
  one_predicate id a b names_a names_b =
      let at_a = predicate_within names_a.part id a (rules_of names_a.part names_a.among).lists.maps names_a.has in
      let at_b = predicate_within names_b.part id b (rules_of names_b.part names_b.among).lists.maps names_b.has in
      let same : names_a.part ≡ names_b.part =
      only_part Predicates id names_a.part names_b.part at_a.above at_a.within at_b.above at_b.within parts chain.linked names_a.among names_b.among in
      one_predicate_named names_b.part (rules_of names_b.part names_b.among) id a b (subst (λ (part : Facts). HasPredicate part id a) same names_a.has) names_b.has

  pub each_term : (id : ℕ) → IsTermId parts id ↔ ((term : TextTerm) × NamesTerm parts id term)
  each_term id = (there, λ names. term_id parts chain names.1.part id names.0 names.1.among names.1.has)
    where
      there : IsTermId parts id → (term : TextTerm) × NamesTerm parts id term
      there is =
          let at = part_there Terms id parts is.some chain.rules chain.linked is.within in
          let found = some_named at.0 (rules_of at.0 at.1.among) id at.1.above at.1.within in
          (found.0, record { part = at.0; among = at.1.among; has = found.1 })

  pub each_predicate : (id : ℕ) → IsPredicateId parts id ↔ ((term : TextTerm) × NamesPredicate parts id term)
  each_predicate id = (there, λ names. predicate_id parts chain names.1.part id names.0 names.1.among names.1.has)
    where
      there : IsPredicateId parts id → (term : TextTerm) × NamesPredicate parts id term
      there is =
          let at = part_there Predicates id parts is.some chain.rules chain.linked is.within in
          let found = some_predicate_named at.0 (rules_of at.0 at.1.among) id at.1.above at.1.within in
          (found.0, record { part = at.0; among = at.1.among; has = found.1 })
