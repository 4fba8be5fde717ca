-- The different terms of a list, and those of them that no part has.
use Rattle.std.proofs.Common.{◌≡◌, ℕ, inl, inr, Bool, true, false, not, ◌||◌, List, [], ◌∷◌, map, slice_get, Some, refl, sym, ap, ◌∙◌, true≢false}
use Rattle.std.specs.declared.cmp.Ordering.{Ordering}
use Rattle.std.specs.Ordering.{eq_by_cmp, on}
use Rattle.std.specs.Cmp.{Equal-is, IsTotalOrder, on_total}
use Rattle.std.specs.FinMap.{IsAntisymmetric}
use Rattle.std.specs.List.{dedup, list_any}
use Rattle.std.specs.List.Sorted.{IsPermutation, IsSorted, IsStrictlySortedBy}
use Rattle.std.proofs.lemmas.Bool.{or_left, or_right}
use Rattle.std.proofs.lemmas.List.Elements.{All-head, All-tail}
use Rattle.std.proofs.lemmas.List.Kept.{IsStrictlySortedBy-dedup}
use Rattle.std.proofs.lemmas.List.Sorted.{list_any-IsPermutation}
use Rattle.ts_model.specs.declared.term.TermKind.{TermKind}
use Rattle.ts_model.specs.declared.term.TermKind.TheVariants.{Node, Predicate, Value}
use Rattle.ts_model.specs.TextTerm.{TextTerm}
use Rattle.ts_model.specs.Birth.{is_term}
use Rattle.ts_model.specs.Order.{term_cmp, term_cmp_total, term_cmp-IsAntisymmetric}
use Rattle.ts_model.specs.Sets.{contains, from_list, members}
use Rattle.ts_model.proofs.ListLaws.{list_any-map, list_any-dedup, IsStrictlySortedBy-map}
use Rattle.ts_model.proofs.SetLaws.{contains-from_list, members_are}
use Rattle.ts_part.specs.Facts.{Facts, entries_of}
use Rattle.ts_part.proofs.Ranks.{among_at, place_of}
use Rattle.ts_chain.specs.Ids.{HasId, HasNew, HasOfKind, Lacks, LacksNew}
use Rattle.ts_builder.specs.NewTerms.{is_new_to, numbered_by}

-- ---- sorted, and each once

module _ {X K : Type 0} {R : K → K → Ordering} (o : IsTotalOrder R) (same : IsAntisymmetric R) (key : X → K) where
  pub distinct_by : (E : X → X → Bool) → ((x y : X) → E x y ≡ eq_by_cmp (on key R) x y) → (xs sorted : List X) → IsPermutation xs sorted → IsSorted (on key R) sorted
      → map key (dedup E sorted) ≡ members (from_list {R = R} (map key xs))
  distinct_by E ties xs sorted moved up =
      let kept : List X = dedup E sorted in
      let rising : IsStrictlySortedBy R (map key kept) = IsStrictlySortedBy-map R key kept (IsStrictlySortedBy-dedup (on_total key o) ties sorted up) in
      let among : (q : K) → list_any (eq_by_cmp R q) (map key kept) ≡ contains (from_list {R = R} (map key xs)) q = λ q.
      list_any-map (eq_by_cmp R q) key kept
      ∙ list_any-dedup E (λ x. eq_by_cmp R q (key x)) (λ x k e. ap (λ t. eq_by_cmp R q t) (same (key x) (key k) ((Equal-is (R (key x) (key k))).0 (sym (ties x k) ∙ e)))) sorted
      ∙ sym (list_any-IsPermutation (λ x. eq_by_cmp R q (key x)) xs sorted moved)
      ∙ sym (list_any-map (eq_by_cmp R q) key xs)
      ∙ sym (contains-from_list R o (map key xs) q) in
      members_are R o same (from_list (map key xs)) (map key kept) rising among

  pub distinct_are : (xs sorted : List X) → IsPermutation xs sorted → IsSorted (on key R) sorted → map key (dedup (eq_by_cmp (on key R)) sorted) ≡ members (from_list {R = R} (map key xs))
  distinct_are = distinct_by (eq_by_cmp (on key R)) (λ x y. refl)

-- ---- terms that no part has

entry_of : (terms : List TextTerm) (term : TextTerm) → list_any (is_term term) terms ≡ true → (i : ℕ) × (slice_get terms i ≡ Some term)
entry_of terms term is = place_of term_cmp term_cmp_total term_cmp-IsAntisymmetric terms term is

pub new_entry : (part : Facts) (term : TextTerm) (id : ℕ) → HasNew part term id → list_any (is_term term) (numbered_by term.kind part) ≡ true
new_entry part term id has = by term.kind has
  where
    by : (kind : TermKind) → HasOfKind kind part id term → list_any (is_term term) (numbered_by kind part) ≡ true
    by Node has = among_at term_cmp term_cmp_total (entries_of part) has.entry term has.stands
    by Predicate has = among_at term_cmp term_cmp_total part.predicates has.entry term has.stands
    by Value has = among_at term_cmp term_cmp_total (entries_of part) has.entry term has.stands

lacks_entry : (part : Facts) (term : TextTerm) → LacksNew part term → list_any (is_term term) (numbered_by term.kind part) ≡ false
lacks_entry part term lacks = by term.kind lacks (list_any (is_term term) (numbered_by term.kind part)) refl
  where
    by : (kind : TermKind) → ((number : ℕ) → ¬ HasOfKind kind part number term) → (found : Bool) → list_any (is_term term) (numbered_by kind part) ≡ found → list_any (is_term term) (numbered_by kind part) ≡ false
    by kind lacks false is = is
    by Node lacks true is = let at = entry_of (entries_of part) term is in absurd (lacks _ (record { entry = at.0; stands = at.1; numbered = refl }))
    by Predicate lacks true is = let at = entry_of part.predicates term is in absurd (lacks _ (record { entry = at.0; stands = at.1; numbered = refl }))
    by Value lacks true is = let at = entry_of (entries_of part) term is in absurd (lacks _ (record { entry = at.0; stands = at.1; numbered = refl }))

abbrev pub has_some : List Facts → TextTerm → Bool
has_some parts term = list_any (λ part. list_any (is_term term) (numbered_by term.kind part)) parts

known_entry : (parts : List Facts) (term : TextTerm) (id : ℕ) → HasId parts term id → has_some parts term ≡ true
known_entry [] term id has = absurd has
known_entry (part ∷ parts) term id (inl new) = or_left (list_any (is_term term) (numbered_by term.kind part)) (has_some parts term) (new_entry part term id new)
known_entry (part ∷ parts) term id (inr later) = or_right (list_any (is_term term) (numbered_by term.kind part)) (has_some parts term) (known_entry parts term id later.1)

absent_entry : (parts : List Facts) (term : TextTerm) → Lacks parts term → has_some parts term ≡ false
absent_entry [] term lacks = refl
absent_entry (part ∷ parts) term lacks = λ i.
    lacks_entry part term (All-head (λ part. LacksNew part term) part parts lacks) i || absent_entry parts term (All-tail (λ part. LacksNew part term) part parts lacks) i

pub new_where_lacked : (parts : List Facts) (term : TextTerm) → Lacks parts term → is_new_to parts term ≡ true
new_where_lacked parts term lacks = ap not (absent_entry parts term lacks)

pub known_is_not_new : (parts : List Facts) (term : TextTerm) (id : ℕ) → HasId parts term id → is_new_to parts term ≡ false
known_is_not_new parts term id has = ap not (known_entry parts term id has)

pub not_both : (parts : List Facts) (term : TextTerm) (id : ℕ) → HasId parts term id → Lacks parts term → ⊥
not_both parts term id has lacks = true≢false (sym (new_where_lacked parts term lacks) ∙ known_is_not_new parts term id has)

new_from_entry : (part : Facts) (term : TextTerm) → list_any (is_term term) (numbered_by term.kind part) ≡ true → (number : ℕ) × HasNew part term number
new_from_entry part term is = by term.kind is
  where
    by : (kind : TermKind) → list_any (is_term term) (numbered_by kind part) ≡ true → (number : ℕ) × HasOfKind kind part number term
    by Node is = let at = entry_of (entries_of part) term is in (_, record { entry = at.0; stands = at.1; numbered = refl })
    by Predicate is = let at = entry_of part.predicates term is in (_, record { entry = at.0; stands = at.1; numbered = refl })
    by Value is = let at = entry_of (entries_of part) term is in (_, record { entry = at.0; stands = at.1; numbered = refl })

-- some part has the term, so the newest of these tells its number
pub id_where_some : (parts : List Facts) (term : TextTerm) → has_some parts term ≡ true → (id : ℕ) × HasId parts term id
id_where_some [] term is = absurd (true≢false (sym is))
id_where_some (part ∷ parts) term is = by (λ later. id_where_some parts term later) (list_any (is_term term) (numbered_by term.kind part)) refl
  where
    by : (has_some parts term ≡ true → (id : ℕ) × HasId parts term id) → (here : Bool) → list_any (is_term term) (numbered_by term.kind part) ≡ here → (id : ℕ) × HasId (part ∷ parts) term id
    by below true at = let new = new_from_entry part term at in (new.0, inl new.1)
    by below false at =
        let found = below (ap (λ b. b || has_some parts term) (sym at) ∙ is) in
        (found.0, inr (λ number has. true≢false (sym (new_entry part term number has) ∙ at), found.1))
