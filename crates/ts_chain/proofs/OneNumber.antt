-- A term has one number in a part, and so in a chain.
use Rattle.std.proofs.Common.{◌≡◌, ℕ, ◌+◌, ◌-◌, ◌<◌, ◌≤◌, inl, inr, List, [], ◌∷◌, All, IfSome, Some, length, slice_get, refl, sym, ap, ◌∙◌, subst, arith}
use Rattle.std.specs.declared.cmp.Ordering.TheVariants.{Less, Greater}
use Rattle.std.specs.Cmp.Lexicographic.{slice_cmp}
use Rattle.std.specs.Ordering.{nat_cmp, ordering_reverse}
use Rattle.std.proofs.lemmas.Bool.{cases_order}
use Rattle.std.proofs.lemmas.Cmp.{nat_list_cmp_total}
use Rattle.std.proofs.lemmas.List.{length-map}
use Rattle.std.proofs.lemmas.List.Elements.{All-head, All-tail}
use Rattle.std.proofs.lemmas.Option.{slice_get_within}
use Rattle.ts_front.specs.Dictionary.{Rising}
use Rattle.ts_front.specs.Shared.{text_at}
use Rattle.ts_front.proofs.RisingLemmas.{rising_at}
use Rattle.ts_model.specs.declared.term.TermKind.{TermKind}
use Rattle.ts_model.specs.declared.term.TermKind.TheVariants.{Node, Predicate, Value}
use Rattle.ts_model.specs.TextTerm.{TextTerm}
use Rattle.ts_part.specs.Facts.{Facts, HasPredicate, HasTerm, outer_number, spellings}
use Rattle.ts_part.specs.Part.{HasKinds}
use Rattle.ts_part.specs.Rules.{KeepsRules}
use Rattle.ts_part.proofs.EntryLemmas.{first_entry, node_entry, text_of, value_entry}
use Rattle.ts_chain.specs.Ids.{HasId, HasNew, HasOfKind}

no_less : (text : List ℕ) → slice_cmp nat_cmp text text ≡ Less → ⊥
no_less text e = let back : Less ≡ Greater = sym e ∙ nat_list_cmp_total.antisymm text text ∙ ap ordering_reverse e in absurd (cc)

below : (terms : List TextTerm) (i j : ℕ) (term : TextTerm) → Rising (spellings terms) → slice_get terms i ≡ Some term → slice_get terms j ≡ Some term → i < j → ⊥
below terms i j term rising at_i at_j less =
    let long = length-map terms (λ (t : TextTerm). t.spelling) in
    let order = rising_at (spellings terms) i j rising less (omega (arith, slice_get_within terms j term at_j)) in
    no_less term.spelling
    (ap (λ (text : List ℕ). slice_cmp nat_cmp text term.spelling) (sym (text_of terms i term at_i))
    ∙ ap (λ (text : List ℕ). slice_cmp nat_cmp (text_at (spellings terms) i) text) (sym (text_of terms j term at_j)) ∙ order)

-- terms that rise by their spellings are each at one place
pub one_place : (terms : List TextTerm) (i j : ℕ) (term : TextTerm) → Rising (spellings terms) → slice_get terms i ≡ Some term → slice_get terms j ≡ Some term → i ≡ j
one_place terms i j term rising at_i at_j = elim (cases_order i j) [
  | inl same ↦ same
  | inr other ↦ elim other [
    | inl less ↦ absurd (below terms i j term rising at_i at_j less)
    | inr more ↦ absurd (below terms j i term rising at_j at_i more)
  ]
]

module _ (part : Facts) (rules : KeepsRules part) where
  kinds : HasKinds part
  kinds = record {
    nodes = rules.lists.nodes.kinds;
    predicates = rules.lists.predicates.kinds;
    values = rules.lists.values.kinds;
    parent = λ none. omega (arith, (subst (λ parent. IfSome parent (λ a. (1 ≤ a) × (a < part.number))) none rules.lists.header.placed.parent).0);
  }

  same_number : (term : TextTerm) (a b : ℕ) (at_a : HasTerm part a term) (at_b : HasTerm part b term) → at_a.entry ≡ at_b.entry → a ≡ b
  same_number term a b at_a at_b e = at_a.numbered ∙ ap (λ entry. part.terms_before + 1 + outer_number part.kind part.term_map entry) e ∙ sym at_b.numbered

  one_node : (term : TextTerm) (a b : ℕ) → term.kind ≡ Node → HasTerm part a term → HasTerm part b term → a ≡ b
  one_node term a b node at_a at_b =
      let first_a = node_entry part at_a.entry term kinds at_a.stands node in
      let first_b = node_entry part at_b.entry term kinds at_b.stands node in
      same_number term a b at_a at_b
      (one_place part.nodes at_a.entry at_b.entry term rules.lists.nodes.rising
      (sym (first_entry part.nodes part.values at_a.entry first_a) ∙ at_a.stands) (sym (first_entry part.nodes part.values at_b.entry first_b) ∙ at_b.stands))

  one_value : (term : TextTerm) (a b : ℕ) → term.kind ≡ Value → HasTerm part a term → HasTerm part b term → a ≡ b
  one_value term a b value at_a at_b =
      let later_a = value_entry part at_a.entry term kinds at_a.stands value in
      let later_b = value_entry part at_b.entry term kinds at_b.stands value in
      let same = one_place part.values (at_a.entry - length part.nodes) (at_b.entry - length part.nodes) term rules.lists.values.rising later_a.1 later_b.1 in
      same_number term a b at_a at_b (omega (arith, later_a.0, later_b.0, same))

  one_predicate : (term : TextTerm) (a b : ℕ) → HasPredicate part a term → HasPredicate part b term → a ≡ b
  one_predicate term a b at_a at_b =
      at_a.numbered ∙ ap (λ entry. part.predicates_before + 1 + outer_number part.kind part.predicate_map entry)
      (one_place part.predicates at_a.entry at_b.entry term rules.lists.predicates.rising at_a.stands at_b.stands) ∙ sym at_b.numbered

  by_kind : (term : TextTerm) (a b : ℕ) (kind : TermKind) → term.kind ≡ kind → HasOfKind kind part a term → HasOfKind kind part b term → a ≡ b
  by_kind term a b Node is at_a at_b = one_node term a b is at_a at_b
  by_kind term a b Predicate is at_a at_b = one_predicate term a b at_a at_b
  by_kind term a b Value is at_a at_b = one_value term a b is at_a at_b

  pub one_new : (term : TextTerm) (a b : ℕ) → HasNew part term a → HasNew part term b → a ≡ b
  one_new term a b at_a at_b = by_kind term a b term.kind refl at_a at_b

pub one_id : (parts : List Facts) (term : TextTerm) (a b : ℕ) → All KeepsRules parts → HasId parts term a → HasId parts term b → a ≡ b
one_id [] term a b rules has_a has_b = absurd has_a
one_id (part ∷ parts) term a b rules (inl new_a) (inl new_b) = one_new part (All-head KeepsRules part parts rules) term a b new_a new_b
one_id (part ∷ parts) term a b rules (inl new_a) (inr later_b) = absurd (later_b.0 a new_a)
one_id (part ∷ parts) term a b rules (inr later_a) (inl new_b) = absurd (later_a.0 b new_b)
one_id (part ∷ parts) term a b rules (inr later_a) (inr later_b) = one_id parts term a b (All-tail KeepsRules part parts rules) later_a.1 later_b.1
