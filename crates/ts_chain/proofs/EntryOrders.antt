-- Entries in the order of their terms.
use Rattle.std.proofs.Common.{◌≡◌, ℕ, zero, suc, ◌+◌, ◌<◌, false, List, [], ◌∷◌, map, length, get_or, All, Contains, Some, refl, sym, ap, ◌∙◌, subst, true≢false, arith}
use Rattle.std.specs.Prelude.{slice_get, ◌↔◌}
use Rattle.std.specs.Option.{unwrap_or}
use Rattle.std.specs.declared.cmp.Ordering.{Ordering}
use Rattle.std.specs.declared.cmp.Ordering.TheVariants.{Less, Equal, Greater}
use Rattle.std.specs.Ordering.{nat_cmp, eq_by_cmp, is_eq, is_lt, ordering_reverse, ordering_then}
use Rattle.std.specs.Cmp.{nat_cmp_total, tied_itself}
use Rattle.std.specs.Cmp.Lexicographic.{slice_cmp, nat_list_cmp_total}
use Rattle.std.specs.FinSet.{nat_cmp-IsAntisymmetric, slice_cmp-IsAntisymmetric}
use Rattle.std.specs.List.{IsDistinct}
use Rattle.std.specs.List.Sorted.{IsSorted, IsStrictlySortedBy}
use Rattle.std.proofs.lemmas.List.{get_or-map, length-map}
use Rattle.std.proofs.lemmas.List.Elements.{All-contains}
use Rattle.std.proofs.lemmas.List.Sorted.{All-permutation, Contains-permutation, IsPermutation-map, IsPermutation-sym, length_permutation}
use Rattle.std.proofs.lemmas.Map.Keys.{IsDistinct-from_sorted, IsDistinct-head, IsDistinct-IsPermutation, IsDistinct-tail, sorted_from_all_adjacent}
use Rattle.ts_model.specs.declared.term.TermKind.{TermKind}
use Rattle.ts_model.specs.Order.{kind_place}
use Rattle.ts_model.specs.TextTerm.{TextTerm, IsTerm}
use Rattle.ts_part.specs.Facts.{spellings}
use Rattle.ts_part.specs.Rules.{TermsRule}
use Rattle.ts_chain.specs.declared.spelled.Entry.{Entry}
use Rattle.ts_chain.specs.Entries.{AreEntries, IsInOrder, entry_cmp, ids_of, terms_of_entries}
use Rattle.ts_chain.specs.Spelled.{AreNamed}

-- ---- neighbours

-- numbers that differ, differ from their neighbours
distinct_next : (ks : List ℕ) (k d : ℕ) → IsDistinct (eq_by_cmp nat_cmp) ks → suc k < length ks → eq_by_cmp nat_cmp (get_or ks k d) (get_or ks (suc k) d) ≡ false
distinct_next [] k d apart within = absurd (omega arith)
distinct_next (x ∷ []) k d apart within = absurd (omega arith)
distinct_next (x ∷ y ∷ ks) zero d apart within = (IsDistinct-head (eq_by_cmp nat_cmp) x (y ∷ ks) apart).0
distinct_next (x ∷ y ∷ ks) (suc k) d apart within = distinct_next (y ∷ ks) k d (IsDistinct-tail (eq_by_cmp nat_cmp) x (y ∷ ks) apart) (omega arith)

flips : (x y : ℕ) → eq_by_cmp nat_cmp x y ≡ eq_by_cmp nat_cmp y x
flips x y = grind (arith)

module _ (kind : TermKind) where
  -- one of two neighbours in order isn't above the other, so its spelling is below where the terms differ
  next_above : (a b : Entry) → is_lt (entry_cmp b a) ≡ false → a.term.kind ≡ kind → b.term.kind ≡ kind → (a.term ≡ b.term → ⊥) → slice_cmp nat_cmp a.term.spelling b.term.spelling ≡ Less
  next_above a b order first second differ = by (slice_cmp nat_cmp a.term.spelling b.term.spelling) refl
    where
      by : (r : Ordering) → slice_cmp nat_cmp a.term.spelling b.term.spelling ≡ r → slice_cmp nat_cmp a.term.spelling b.term.spelling ≡ Less
      by Less is = is
      by Equal is = absurd (differ (λ i. record { kind = (first ∙ sym second) i; spelling = slice_cmp-IsAntisymmetric nat_cmp-IsAntisymmetric a.term.spelling b.term.spelling is i }))
      by Greater is =
          let back : slice_cmp nat_cmp b.term.spelling a.term.spelling ≡ Less = nat_list_cmp_total.antisymm b.term.spelling a.term.spelling ∙ ap ordering_reverse is in
          absurd (true≢false (sym (ap (λ r. is_lt (ordering_then (ordering_then r (nat_cmp (kind_place b.term.kind) (kind_place a.term.kind))) (nat_cmp b.id a.id))) back) ∙ order))

  module _ (Names : ℕ → TextTerm → Type 0) (sorted : List Entry) (order : IsSorted entry_cmp sorted) (named : AreEntries Names kind sorted)
      (apart : IsDistinct (eq_by_cmp nat_cmp) (ids_of sorted)) (one : (i j : ℕ) (term : TextTerm) → Names i term → Names j term → i ≡ j) where
    abbrev spelling_of : Entry → List ℕ
    spelling_of entry = entry.term.spelling

    next_rises : (k : ℕ) (d : Entry) → k + 1 < length sorted → slice_cmp nat_cmp (spelling_of (get_or sorted k d)) (spelling_of (get_or sorted (k + 1) d)) ≡ Less
    next_rises k d within =
        let a = get_or sorted k d in
        let b = get_or sorted (k + 1) d in
        let first = named k d (omega arith) in
        let second = named (k + 1) d within in
        next_above a b (order k d (omega arith) within) first.1 second.1
        (λ same.
        let ids : a.id ≡ b.id = one a.id b.id b.term (subst (Names a.id) same first.0) second.0 in
        let long : length (ids_of sorted) ≡ length sorted = length-map sorted (λ (e : Entry). e.id) in
        let plus : suc k ≡ k + 1 = omega arith in
        let next = subst (λ n. eq_by_cmp nat_cmp (get_or (ids_of sorted) k d.id) (get_or (ids_of sorted) n d.id) ≡ false) plus (distinct_next (ids_of sorted) k d.id apart (omega arith)) in
        let a_is : get_or (ids_of sorted) k d.id ≡ a.id = get_or-map (λ (e : Entry). e.id) sorted k d d.id (omega arith) in
        let b_is : get_or (ids_of sorted) (k + 1) d.id ≡ b.id = get_or-map (λ (e : Entry). e.id) sorted (k + 1) d d.id within in
        true≢false (sym (ap is_eq (tied_itself nat_cmp_total b.id)) ∙ (λ i. eq_by_cmp nat_cmp ((sym ids ∙ sym a_is) i) (sym b_is i)) ∙ next))

    pub spelled_rise : IsStrictlySortedBy (slice_cmp nat_cmp) (map spelling_of sorted)
    spelled_rise = by sorted refl
      where
        by : (all : List Entry) → all ≡ sorted → IsStrictlySortedBy (slice_cmp nat_cmp) (map spelling_of sorted)
        by [] is = subst (λ l. IsStrictlySortedBy (slice_cmp nat_cmp) (map spelling_of l)) is (sorted_from_all_adjacent nat_list_cmp_total [] [] (λ k within. absurd (omega arith)))
        by (d ∷ rest) is =
            sorted_from_all_adjacent nat_list_cmp_total (map spelling_of sorted) (spelling_of d)
            (λ k within.
            let long : length (map spelling_of sorted) ≡ length sorted = length-map sorted spelling_of in
            (λ i. slice_cmp nat_cmp (get_or-map spelling_of sorted k d (spelling_of d) (omega arith) i) (get_or-map spelling_of sorted (k + 1) d (spelling_of d) (omega arith) i))
            ∙ next_rises k d (omega arith))

-- ---- a list that is put in order

map-map : (entries : List Entry) → spellings (terms_of_entries entries) ≡ map (λ entry. entry.term.spelling) entries
map-map [] = refl
map-map (e ∷ es) = ap (λ l. e.term.spelling ∷ l) (map-map es)

terms_all : (P : TextTerm → Type 0) (entries : List Entry) → All (λ entry. P entry.term) entries → All P (terms_of_entries entries)
terms_all P entries each k d within = from entries each k d within
  where
    from : (entries : List Entry) → All (λ entry. P entry.term) entries → (k : ℕ) (d : TextTerm) → k < length (terms_of_entries entries) → P (get_or (terms_of_entries entries) k d)
    from [] each k d within = absurd (omega arith)
    from (e ∷ es) each zero d within = each 0 e (omega arith)
    from (e ∷ es) each (suc k) d within = from es (λ j x inside. each (suc j) x (omega arith)) k d (omega arith)

module _ (Names : ℕ → TextTerm → Type 0) (kind : TermKind) (entries : List Entry) (named : AreEntries Names kind entries)
    (rise : IsStrictlySortedBy nat_cmp (ids_of entries)) (terms : List TextTerm) (old new : List ℕ) (put : IsInOrder entries terms old new) where
  sorted_named : AreEntries Names kind put.sorted
  sorted_named = All-permutation (λ e. Names e.id e.term × (e.term.kind ≡ kind) × IsTerm e.term) entries put.sorted put.moved named

  sorted_apart : IsDistinct (eq_by_cmp nat_cmp) (ids_of put.sorted)
  sorted_apart =
      IsDistinct-IsPermutation (eq_by_cmp nat_cmp) flips (ids_of entries) (ids_of put.sorted)
      (IsPermutation-map (λ (e : Entry). e.id) entries put.sorted put.moved) (IsDistinct-from_sorted nat_cmp (ids_of entries) rise)

  -- where each term has one number, the terms keep the rule of their list
  pub terms_rule : ((i j : ℕ) (term : TextTerm) → Names i term → Names j term → i ≡ j) → TermsRule kind terms
  terms_rule one =
      subst (TermsRule kind) (sym put.terms_are)
      (record {
        kinds = terms_all (λ term. term.kind ≡ kind) put.sorted (λ k d within. (sorted_named k d within).1);
        canonical = terms_all IsTerm put.sorted (λ k d within. (sorted_named k d within).2);
        rising = subst (IsStrictlySortedBy (slice_cmp nat_cmp)) (sym (map-map put.sorted)) (spelled_rise kind Names put.sorted put.order sorted_named sorted_apart one);
      })

  -- the same numbers, as many
  pub ids_moved : (id : ℕ) → Contains (ids_of put.sorted) id ↔ Contains (ids_of entries) id
  ids_moved id =
      let moved = IsPermutation-map (λ (e : Entry). e.id) entries put.sorted put.moved in (
        Contains-permutation (ids_of put.sorted) (ids_of entries) id (IsPermutation-sym (ids_of entries) (ids_of put.sorted) moved),
        Contains-permutation (ids_of entries) (ids_of put.sorted) id moved,
      )

  pub sorted_long : length put.sorted ≡ length entries
  sorted_long = length_permutation entries put.sorted put.moved

  pub terms_long : length terms ≡ length entries
  terms_long = ap length put.terms_are ∙ length-map put.sorted (λ (e : Entry). e.term) ∙ sorted_long

  pub names_sorted : (e : Entry) → Contains put.sorted e → Names e.id e.term
  names_sorted e among = (All-contains (λ e. Names e.id e.term × (e.term.kind ≡ kind) × IsTerm e.term) put.sorted e sorted_named among).0

-- ---- entry by entry

-- what stands in two mapped lists at one place comes from one entry
pub entry_at : (entries : List Entry) (i id : ℕ) (term : TextTerm) → slice_get (ids_of entries) i ≡ Some id → slice_get (terms_of_entries entries) i ≡ Some term
    → (e : Entry) × Contains entries e × (e.id ≡ id) × (e.term ≡ term)
entry_at [] i id term at here = let none : ⊥ = cc in absurd none
entry_at (e ∷ es) zero id term at here = (e, (0, omega arith, refl), ap (λ o. unwrap_or o id) at, ap (λ o. unwrap_or o term) here)
entry_at (e ∷ es) (suc i) id term at here =
    let found = entry_at es i id term at here in
    (found.0, (suc found.1.0, omega (arith, found.1.1), found.1.2), found.2, found.3)

pub are_named : (Names : ℕ → TextTerm → Type 0) (entries : List Entry) (ids : List ℕ) (terms : List TextTerm) → ids ≡ ids_of entries → terms ≡ terms_of_entries entries
    → ((e : Entry) → Contains entries e → Names e.id e.term) → AreNamed Names ids terms
are_named Names entries ids terms ids_are terms_are names i id term at here =
    let found = entry_at entries i id term (ap (λ l. slice_get l i) (sym ids_are) ∙ at) (ap (λ l. slice_get l i) (sym terms_are) ∙ here) in
    subst (λ n. Names n term) found.2 (subst (Names found.0.id) found.3 (names found.0 found.1))
