-- Terms that are named by the numbers that a base's triples use: they are the base's terms.
use Rattle.std.proofs.Common.{◌≡◌, inl, inr, ℕ, suc, ◌<◌, ◌≤◌, true, false, List, length, get_or, slice_get, Contains, Some, sym, ap, ◌∙◌, subst, arith}
use Rattle.std.specs.FinMap.{contains_key}
use Rattle.std.specs.List.Sorted.{IsPermutation, IsStrictlySortedBy}
use Rattle.std.specs.Ordering.{nat_cmp}
use Rattle.std.proofs.lemmas.List.Sorted.{Contains-permutation, IsPermutation-sym, length_permutation}
use Rattle.std.proofs.lemmas.Option.{slice_get-get_or, slice_get_within}
use Rattle.ts_model.specs.declared.term.TermKind.{TermKind}
use Rattle.ts_model.specs.declared.term.TermKind.TheVariants.{Node, Predicate}
use Rattle.ts_model.specs.History.{History, IsWellKept, content_at}
use Rattle.ts_model.specs.Limits.{number_limit}
use Rattle.ts_model.specs.Sets.{contains}
use Rattle.ts_model.specs.TextTerm.{TextTerm}
use Rattle.ts_model.specs.TextTriple.{TextTriple}
use Rattle.ts_plane.specs.declared.triple.IdTriple.{IdTriple}
use Rattle.ts_part.specs.Facts.{Facts}
use Rattle.ts_part.specs.Numbers.{id_triple, id_triples, number_of, numbered_with}
use Rattle.ts_part.proofs.IdOrder.{from_set, node_at, predicate_at, to_set}
use Rattle.ts_part.proofs.Mentioned.{node_or_value_of, predicate_of}
use Rattle.ts_part.proofs.Numbered.{own_term}
use Rattle.ts_part.proofs.Places.{number-once}
use Rattle.ts_part.proofs.TripleTerms.{IsTripleAt}
use Rattle.ts_chain.specs.Spelled.{AreNamed}
use Rattle.ts_chain.specs.Stands.{StandsFor}
use Rattle.ts_chain.specs.Views.{NamesPredicate, NamesTerm}
use Rattle.ts_chain.proofs.Elements.{contains_at}
use Rattle.ts_chain.proofs.NamesAtLayers.{names_predicate_at, names_term_at, node_or_value as no_predicate}
use Rattle.ts_squash.specs.NewNumbers.{AreDifferent, AreSameNumbers, new_number}
use Rattle.ts_squash.specs.Squashed.{ends_of, relations_of, squashed}
use Rattle.ts_squash.proofs.BaseTerms.{base_kept, base_triple, old_triple, stands_in}
use Rattle.ts_squash.proofs.Places.{distinct_order, new_at}
use Rattle.ts_squash.proofs.SameNumbers.{moved_same}
use Rattle.ts_squash.proofs.TermLists.{at_place, end_of, ends_has, node_or_value, relation_of, relations_have}

module _ (history : History) (kept : IsWellKept history) (k n : ℕ) (positive : 1 ≤ n) (fits : n < number_limit) (fresh : contains_key history n ≡ false) where
  abbrev base : History
  base = squashed history n k

  -- the term has a number at the layer, and the base has it
  pub record IsUsed (kind : TermKind) (id : ℕ) (term : TextTerm) : Type 0 where
    pub was : contains (numbered_with kind history (Some k)) term ≡ true
    pub number : number_of history k term ≡ id
    pub there : contains (numbered_with kind base (Some n)) term ≡ true

  abbrev Was : TermKind → TextTerm → Type 0
  Was kind term = contains (numbered_with kind history (Some k)) term ≡ true

  -- ---- what stands at a place of the entries

  module _ (kind : TermKind) (used ids : List ℕ) (entries : List TextTerm) (same : AreSameNumbers used ids) (rise : IsStrictlySortedBy nat_cmp used) (counted : length entries ≡ length used)
      (named : (p id : ℕ) (term : TextTerm) → slice_get ids p ≡ Some id → slice_get entries p ≡ Some term → Was kind term × (number_of history k term ≡ id))
      (user : (id : ℕ) → Contains used id → (term : TextTerm) × IsUsed kind id term)
      (uses : (term : TextTerm) → contains (numbered_with kind base (Some n)) term ≡ true → Was kind term × Contains used (number_of history k term)) where
    moved : IsPermutation used ids
    moved = moved_same used ids rise same

    as_many : length entries ≡ length ids
    as_many = counted ∙ sym (length_permutation used ids moved)

    pub entry_there : (p : ℕ) (term : TextTerm) → slice_get entries p ≡ Some term → contains (numbered_with kind base (Some n)) term ≡ true
    entry_there p term at =
        let within : p < length entries = slice_get_within entries p term at in
        let id : ℕ = get_or ids p 0 in
        let id_at : slice_get ids p ≡ Some id = slice_get-get_or ids p 0 (omega (arith, as_many)) in
        let is = named p id term id_at at in
        let found = user id (Contains-permutation ids used id (IsPermutation-sym used ids moved) (contains_at ids p id id_at)) in
        let one : found.0 ≡ term = number-once history kept k kind found.0 term found.1.was is.0 (found.1.number ∙ sym is.1) in
        subst (λ t. contains (numbered_with kind base (Some n)) t ≡ true) one found.1.there

    -- each term of the base has a place, at which its old number stands
    pub entry_of : (term : TextTerm) → contains (numbered_with kind base (Some n)) term ≡ true
        → (p : ℕ) × (slice_get entries p ≡ Some term) × (slice_get ids p ≡ Some (number_of history k term))
    entry_of term there =
        let use_it = uses term there in
        let id : ℕ = number_of history k term in
        let h : Contains ids id = Contains-permutation used ids id moved use_it.1 in
        let id_at : slice_get ids h.0 ≡ Some id = at_place ids id h in
        let below : h.0 < length ids = h.1 in
        let other : TextTerm = get_or entries h.0 term in
        let at : slice_get entries h.0 ≡ Some other = slice_get-get_or entries h.0 term (omega (arith, as_many)) in
        let is = named h.0 id other id_at at in
        let one : other ≡ term = number-once history kept k kind other term is.0 use_it.0 is.1 in
        (h.0, at ∙ ap Some one, id_at)

    pub new_is : (p : ℕ) (term : TextTerm) → slice_get ids p ≡ Some (number_of history k term) → new_number ids (number_of history k term) ≡ suc p
    new_is p term at = new_at ids p (number_of history k term) (distinct_order used ids rise same) at

  -- ---- nodes and values

  abbrev Here : TextTriple → Type 0
  Here q = IsTripleAt history (Some k) q

  module _ (used : List ℕ) (different : AreDifferent (ends_of (id_triples history k (content_at history k))) used) where
    pub term_user : (id : ℕ) → Contains used id → (term : TextTerm) × IsUsed Node id term
    unfolding id_triple
    term_user id h =
        let end = end_of (id_triples history k (content_at history k)) id ((different.same id).1 h) in
        let found = from_set history kept k (content_at history k) end.0 end.1 in
        let q : TextTriple = found.0 in
        let was = old_triple history kept k n positive fits fresh q found.1 in
        let now = base_triple history kept k n positive fits fresh q found.1 in
        elim end.2 as (λ _. (term : TextTerm) × IsUsed Node id term) [
          | inl subject ↦ (
            q.subject,
            record {
              was = node_at history kept (Some k) q.subject (inl was.is.0.0) was.subject;
              number = ap (λ (t : IdTriple). t.s) found.2 ∙ subject;
              there = node_at base (base_kept history kept k n positive fits fresh) (Some n) q.subject (inl was.is.0.0) now.subject;
            },
          )
          | inr object ↦ (
            q.object,
            record {
              was = node_at history kept (Some k) q.object was.is.0.2 was.object;
              number = ap (λ (t : IdTriple). t.o) found.2 ∙ object;
              there = node_at base (base_kept history kept k n positive fits fresh) (Some n) q.object was.is.0.2 now.object;
            },
          )
        ]

    pub term_uses : (term : TextTerm) → contains (numbered_with Node base (Some n)) term ≡ true → Was Node term × Contains used (number_of history k term)
    unfolding id_triple
    term_uses term there =
        let kind = node_or_value_of base (base_kept history kept k n positive fits fresh) (Some n) term there in
        let stands = stands_in history kept k n positive fits fresh term (own_term base (base_kept history kept k n positive fits fresh) Node (Some n) term there) in
        let q : TextTriple = stands.0 in
        let was = old_triple history kept k n positive fits fresh q stands.1 in
        let ends = ends_has (id_triples history k (content_at history k)) (id_triple history k q) (to_set history kept k (content_at history k) q stands.1) in
        let numbers : Contains used (number_of history k q.subject) × Contains used (number_of history k q.object) =
        ((different.same (number_of history k q.subject)).0 ends.0, (different.same (number_of history k q.object)).0 ends.1) in
        elim stands.2 as (λ _. Was Node term × Contains used (number_of history k term)) [
          | inl subject ↦ subst (λ t. Was Node t × Contains used (number_of history k t)) (sym subject) (node_at history kept (Some k) q.subject (inl was.is.0.0) was.subject, numbers.0)
          | inr (inl predicate) ↦ absurd (no_predicate term.kind kind (ap (λ (t : TextTerm). t.kind) predicate ∙ was.is.0.1))
          | inr (inr object) ↦ subst (λ t. Was Node t × Contains used (number_of history k t)) (sym object) (node_at history kept (Some k) q.object was.is.0.2 was.object, numbers.1)
        ]

    pub terms_named : (parts : List Facts) → StandsFor parts history k → (ids : List ℕ) (entries : List TextTerm) → AreNamed (NamesTerm parts) ids entries
        → (p id : ℕ) (term : TextTerm) → slice_get ids p ≡ Some id → slice_get entries p ≡ Some term → Was Node term × (number_of history k term ≡ id)
    terms_named parts stands ids entries named p id term id_at at =
        let is = names_term_at history k parts id term stands (named p id term id_at at) in
        (node_at history kept (Some k) term (node_or_value term.kind is.kind) is.there, is.number)

  -- ---- predicates

  module _ (used : List ℕ) (different : AreDifferent (relations_of (id_triples history k (content_at history k))) used) where
    pub predicate_user : (id : ℕ) → Contains used id → (term : TextTerm) × IsUsed Predicate id term
    unfolding id_triple
    predicate_user id h =
        let of = relation_of (id_triples history k (content_at history k)) id ((different.same id).1 h) in
        let found = from_set history kept k (content_at history k) of.0 of.1 in
        let q : TextTriple = found.0 in
        let was = old_triple history kept k n positive fits fresh q found.1 in
        let now = base_triple history kept k n positive fits fresh q found.1 in (
          q.predicate,
          record {
            was = predicate_at history kept (Some k) q.predicate was.is.0.1 was.predicate;
            number = ap (λ (t : IdTriple). t.p) found.2 ∙ of.2;
            there = predicate_at base (base_kept history kept k n positive fits fresh) (Some n) q.predicate was.is.0.1 now.predicate;
          },
        )

    pub predicate_uses : (term : TextTerm) → contains (numbered_with Predicate base (Some n)) term ≡ true → Was Predicate term × Contains used (number_of history k term)
    unfolding id_triple
    predicate_uses term there =
        let kind = predicate_of base (base_kept history kept k n positive fits fresh) (Some n) term there in
        let stands = stands_in history kept k n positive fits fresh term (own_term base (base_kept history kept k n positive fits fresh) Predicate (Some n) term there) in
        let q : TextTriple = stands.0 in
        let was = old_triple history kept k n positive fits fresh q stands.1 in
        let number : Contains used (number_of history k q.predicate) =
        (different.same (number_of history k q.predicate)).0 (relations_have (id_triples history k (content_at history k)) (id_triple history k q) (to_set history kept k (content_at history k) q stands.1)) in
        elim stands.2 as (λ _. Was Predicate term × Contains used (number_of history k term)) [
          | inl subject ↦ absurd (no_predicate q.subject.kind (inl was.is.0.0) (sym (ap (λ (t : TextTerm). t.kind) subject) ∙ kind))
          | inr (inl predicate) ↦ subst (λ t. Was Predicate t × Contains used (number_of history k t)) (sym predicate) (predicate_at history kept (Some k) q.predicate was.is.0.1 was.predicate, number)
          | inr (inr object) ↦ absurd (no_predicate q.object.kind was.is.0.2 (sym (ap (λ (t : TextTerm). t.kind) object) ∙ kind))
        ]

    pub predicates_named : (parts : List Facts) → StandsFor parts history k → (ids : List ℕ) (entries : List TextTerm) → AreNamed (NamesPredicate parts) ids entries
        → (p id : ℕ) (term : TextTerm) → slice_get ids p ≡ Some id → slice_get entries p ≡ Some term → Was Predicate term × (number_of history k term ≡ id)
    predicates_named parts stands ids entries named p id term id_at at =
        let is = names_predicate_at history k parts id term stands (named p id term id_at at) in
        (predicate_at history kept (Some k) term is.kind is.there, is.number)
