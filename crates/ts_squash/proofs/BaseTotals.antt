-- A base layer with the triples of another layer has no more terms than that layer.
use Rattle.std.proofs.Common.{◌≡◌, ◌⊎◌, inl, inr, ℕ, ◌<◌, ◌≤◌, Bool, true, false, ◌||◌, List, [], ◌∷◌, map, flat_map, Some, sym, ap, ◌∙◌, true≢false, arith}
use Rattle.std.specs.Cmp.{tied_itself}
use Rattle.std.specs.FinMap.{contains_key}
use Rattle.std.specs.List.{list_any}
use Rattle.std.specs.Ordering.{eq_by_cmp, is_eq}
use Rattle.std.proofs.lemmas.Bool.{or_cases, or_left, or_right}
use Rattle.std.proofs.lemmas.List.{append-nil}
use Rattle.ts_model.specs.Birth.{is_term}
use Rattle.ts_model.specs.ChainTotals.{added_along}
use Rattle.ts_model.specs.History.{History, IsWellKept, additions_at}
use Rattle.ts_model.specs.Limits.{number_limit}
use Rattle.ts_model.specs.Order.{term_cmp, term_cmp_total, triple_cmp, triple_cmp_total}
use Rattle.ts_model.specs.Sets.{contains, members}
use Rattle.ts_model.specs.TextTerm.{TextTerm}
use Rattle.ts_model.specs.TextTriple.{TextTriple}
use Rattle.ts_model.specs.Totals.{predicates_of, terms_of}
use Rattle.ts_model.proofs.SetLaws.{contains-from_list, contains-members}
use Rattle.ts_part.specs.Numbers.{TotalsFit, numbered_with, predicates_of_layer, terms_of_layer}
use Rattle.ts_part.proofs.Mentioned.{numbered_as_node, same_term}
use Rattle.ts_part.proofs.TripleTerms.{IsTripleAt}
use Rattle.ts_chain.proofs.TermSets.{size_within}
use Rattle.ts_squash.proofs.BaseTerms.{additions_are, all, alone, base, old_triple}

abbrev is_triple : TextTriple → TextTriple → Bool
is_triple = eq_by_cmp triple_cmp

itself : (t : TextTriple) → is_triple t t ≡ true
itself t = ap is_eq (tied_itself triple_cmp_total t)

abbrev ends : List TextTriple → List TextTerm
ends triples = flat_map (λ (triple : TextTriple). triple.subject ∷ triple.object ∷ []) triples

-- an end of triples is that of one of them
end_of : (q : TextTerm) (triples : List TextTriple) → list_any (is_term q) (ends triples) ≡ true
    → (t : TextTriple) × (list_any (is_triple t) triples ≡ true) × ((q ≡ t.subject) ⊎ (q ≡ t.object))
end_of q [] there = absurd (true≢false (sym there))
end_of q (t ∷ ts) there =
    elim (or_cases (is_term q t.subject) (is_term q t.object || list_any (is_term q) (ends ts)) there)
    as (λ _. (u : TextTriple) × (list_any (is_triple u) (t ∷ ts) ≡ true) × ((q ≡ u.subject) ⊎ (q ≡ u.object))) [
      | inl subject ↦ (t, or_left (is_triple t t) (list_any (is_triple t) ts) (itself t), inl (same_term q t.subject subject))
      | inr others ↦ elim (or_cases (is_term q t.object) (list_any (is_term q) (ends ts)) others)
          as (λ _. (u : TextTriple) × (list_any (is_triple u) (t ∷ ts) ≡ true) × ((q ≡ u.subject) ⊎ (q ≡ u.object))) [
            | inl object ↦ (t, or_left (is_triple t t) (list_any (is_triple t) ts) (itself t), inr (same_term q t.object object))
            | inr later ↦ (let found = end_of q ts later in (found.0, or_right (is_triple found.0 t) (list_any (is_triple found.0) ts) found.1, found.2))
          ]
    ]

relation_of : (q : TextTerm) (triples : List TextTriple) → list_any (is_term q) (map (λ (triple : TextTriple). triple.predicate) triples) ≡ true
    → (t : TextTriple) × (list_any (is_triple t) triples ≡ true) × (q ≡ t.predicate)
relation_of q [] there = absurd (true≢false (sym there))
relation_of q (t ∷ ts) there =
    elim (or_cases (is_term q t.predicate) (list_any (is_term q) (map (λ (triple : TextTriple). triple.predicate) ts)) there)
    as (λ _. (u : TextTriple) × (list_any (is_triple u) (t ∷ ts) ≡ true) × (q ≡ u.predicate)) [
      | inl here ↦ (t, or_left (is_triple t t) (list_any (is_triple t) ts) (itself t), same_term q t.predicate here)
      | inr later ↦ (let found = relation_of q ts later in (found.0, or_right (is_triple found.0 t) (list_any (is_triple found.0) ts) found.1, found.2))
    ]

module _ (history : History) (kept : IsWellKept history) (k n : ℕ) (positive : 1 ≤ n) (fits : n < number_limit) (fresh : contains_key history n ≡ false) where
  abbrev triples : List TextTriple
  triples = members (all history kept k n positive fits fresh)

  abbrev squash : History
  squash = base history kept k n positive fits fresh

  added_are : added_along squash n ≡ triples
  added_are =
      ap (flat_map (λ j. members (additions_at squash j))) (alone history kept k n positive fits fresh) ∙ append-nil (members (additions_at squash n))
      ∙ ap members (additions_are history kept k n positive fits fresh)

  at_layer : (t : TextTriple) → list_any (is_triple t) triples ≡ true → IsTripleAt history (Some k) t
  at_layer t there = old_triple history kept k n positive fits fresh t (contains-members triple_cmp (all history kept k n positive fits fresh) t ∙ there)

  terms_within : (q : TextTerm) → contains (terms_of_layer squash (Some n)) q ≡ true → contains (terms_of_layer history (Some k)) q ≡ true
  terms_within q there =
      let found = end_of q triples (sym (contains-from_list term_cmp term_cmp_total (ends triples) q) ∙ sym (ap (λ ts. contains (terms_of ts) q) added_are) ∙ there) in
      let is = at_layer found.0 found.1 in
      elim found.2 as (λ _. contains (terms_of_layer history (Some k)) q ≡ true) [
        | inl subject ↦ ap (contains (terms_of_layer history (Some k))) subject
            ∙ sym (ap (λ set. contains set found.0.subject) (numbered_as_node history (Some k) found.0.subject.kind (inl is.is.0.0))) ∙ is.subject
        | inr object ↦ ap (contains (terms_of_layer history (Some k))) object
            ∙ sym (ap (λ set. contains set found.0.object) (numbered_as_node history (Some k) found.0.object.kind is.is.0.2)) ∙ is.object
      ]

  predicates_within : (q : TextTerm) → contains (predicates_of_layer squash (Some n)) q ≡ true → contains (predicates_of_layer history (Some k)) q ≡ true
  predicates_within q there =
      let found = relation_of q triples (sym (contains-from_list term_cmp term_cmp_total (map (λ (triple : TextTriple). triple.predicate) triples) q)
      ∙ sym (ap (λ ts. contains (predicates_of ts) q) added_are) ∙ there) in
      let is = at_layer found.0 found.1 in
      ap (contains (predicates_of_layer history (Some k))) found.2
      ∙ sym (ap (λ kind. contains (numbered_with kind history (Some k)) found.0.predicate) is.is.0.1) ∙ is.predicate

  pub totals_fit : TotalsFit history k → TotalsFit squash n
  totals_fit few = (
    omega (arith, size_within (terms_of_layer squash (Some n)) (terms_of_layer history (Some k)) terms_within, few.0),
    omega (arith, size_within (predicates_of_layer squash (Some n)) (predicates_of_layer history (Some k)) predicates_within, few.1),
  )
