-- The number of a term is its place in birth order, and the birth order of an ancestor stands at the front.
use Rattle.std.proofs.Common.{◌≡◌, ℕ, zero, suc, ◌-◌, ◌<◌, ◌≤◌, inl, inr, Bool, true, List, [], ◌∷◌, length, slice_get, Some, refl, sym, ap, ◌∙◌, arith}
use Rattle.std.specs.Option.{unwrap_or}
use Rattle.std.specs.declared.cmp.Ordering.{Ordering}
use Rattle.std.specs.declared.cmp.Ordering.TheVariants.{Less}
use Rattle.std.specs.Ordering.{eq_by_cmp, is_lt, nat_cmp, ordering_reverse}
use Rattle.std.specs.Cmp.{IsTotalOrder, tied_itself, nat_cmp_total}
use Rattle.std.specs.List.{count_by}
use Rattle.std.specs.List.Sorted.{IsStrictlySortedBy, IsPermutation}
use Rattle.std.proofs.lemmas.Bool.{cases_order}
use Rattle.std.proofs.lemmas.List.Sorted.{list_any-IsPermutation, length_permutation}
use Rattle.ts_model.specs.declared.term.TermKind.{TermKind}
use Rattle.ts_model.specs.TextTerm.{TextTerm}
use Rattle.ts_model.specs.Order.{term_cmp, term_cmp_total, term_cmp-IsAntisymmetric}
use Rattle.ts_model.specs.Sets.{SetOf, contains, members, size, from_list}
use Rattle.ts_model.specs.History.{History, IsWellKept}
use Rattle.ts_model.specs.Listing.{key_cmp}
use Rattle.ts_model.proofs.BirthOrder.{key_cmp_total, key_cmp-IsAntisymmetric}
use Rattle.ts_model.proofs.SetLaws.{IsStrictlySortedBy-members, contains-members}
use Rattle.ts_part.specs.Numbers.{in_order, numbered_with, number_of}
use Rattle.ts_part.proofs.Ranks.{count-moved, among_at, each_at, place_of, rank_of, moved_rising}
use Rattle.ts_part.proofs.Mentioned.{numbered_together}
use Rattle.ts_part.proofs.Later.{nat_less}

-- ---- the order of places is that of the elements of a rising list

some_at : {X : Type 0} (xs : List X) (i : ℕ) → i < length xs → (x : X) × (slice_get xs i ≡ Some x)
some_at [] i below = absurd (omega arith)
some_at (x ∷ xs) zero below = (x, refl)
some_at (x ∷ xs) (suc i) below = some_at xs i (omega arith)

pub within_at : {X : Type 0} (xs : List X) (i : ℕ) (x : X) → slice_get xs i ≡ Some x → i < length xs
within_at [] i x e = let none : ⊥ = cc in absurd none
within_at (y ∷ ys) zero x e = omega arith
within_at (y ∷ ys) (suc i) x e = let below = within_at ys i x e in omega arith

module _ {K : Type 0} (R : K → K → Ordering) (o : IsTotalOrder R) where
  earlier : (xs : List K) (i j : ℕ) (x y : K) → IsStrictlySortedBy R xs → slice_get xs i ≡ Some x → slice_get xs j ≡ Some y → i < j → R x y ≡ Less
  unfolding IsStrictlySortedBy
  earlier [] i j x y rise a b before = let none : ⊥ = cc in absurd none
  earlier (z ∷ zs) i zero x y rise a b before = absurd (omega arith)
  earlier (z ∷ zs) zero (suc j) x y rise a b before =
      let first : z ≡ x = ap (λ o. unwrap_or o z) a in
      ap (λ w. R w y) (sym first) ∙ each_at (λ w. R z w ≡ Less) zs j y rise.0 b
  earlier (z ∷ zs) (suc i) (suc j) x y rise a b before = earlier zs i j x y rise.1 a b (omega arith)

  pub places_order : (xs : List K) (i j : ℕ) (x y : K) → IsStrictlySortedBy R xs → slice_get xs i ≡ Some x → slice_get xs j ≡ Some y → R x y ≡ nat_cmp (suc i) (suc j)
  places_order xs i j x y rise a b =
      elim (cases_order i j) as (λ _. R x y ≡ nat_cmp (suc i) (suc j)) [
        | inl here ↦ (
            let same : x ≡ y = ap (λ o. unwrap_or o x) (sym a ∙ ap (slice_get xs) here ∙ b) in
            ap (R x) (sym same) ∙ tied_itself o x ∙ sym (tied_itself nat_cmp_total (suc i)) ∙ ap (λ n. nat_cmp (suc i) (suc n)) here)
        | inr (inl before) ↦ earlier xs i j x y rise a b before ∙ sym (nat_less (suc i) (suc j) (omega arith))
        | inr (inr behind) ↦ o.antisymm x y ∙ ap ordering_reverse (earlier xs j i y x rise b a behind ∙ sym (nat_less (suc j) (suc i) (omega arith)))
            ∙ sym (nat_cmp_total.antisymm (suc i) (suc j))
      ]

-- ---- the terms of a layer in birth order

module _ (history : History) (kept : IsWellKept history) (k : ℕ) where
  abbrev all_of : TermKind → SetOf term_cmp
  all_of kind = numbered_with kind history (Some k)

  abbrev ordered : TermKind → List TextTerm
  ordered kind = in_order kind history (Some k)

  pub only_moved : (kind : TermKind) → IsPermutation (members (all_of kind)) (ordered kind)
  only_moved kind =
      moved_rising (key_cmp history k) (key_cmp_total history k) (key_cmp-IsAntisymmetric history k) term_cmp term_cmp_total (members (all_of kind)) (IsStrictlySortedBy-members term_cmp (all_of kind))

  pub ordered_rise : (kind : TermKind) → IsStrictlySortedBy (key_cmp history k) (ordered kind)
  ordered_rise kind = IsStrictlySortedBy-members (key_cmp history k) (from_list {R = key_cmp history k} (members (all_of kind)))

  -- there are as many as the layer has
  pub length-in_order : (kind : TermKind) → length (ordered kind) ≡ size (all_of kind)
  length-in_order kind = length_permutation (members (all_of kind)) (ordered kind) (only_moved kind)

  -- each of them has a place
  pub has_place : (kind : TermKind) (term : TextTerm) → contains (all_of kind) term ≡ true → (i : ℕ) × (slice_get (ordered kind) i ≡ Some term)
  has_place kind term is =
      let place = place_of term_cmp term_cmp_total term_cmp-IsAntisymmetric (members (all_of kind)) term (sym (contains-members term_cmp (all_of kind) term) ∙ is) in
      place_of (key_cmp history k) (key_cmp_total history k) (key_cmp-IsAntisymmetric history k) (ordered kind) term
      (sym (list_any-IsPermutation (eq_by_cmp (key_cmp history k) term) (members (all_of kind)) (ordered kind) (only_moved kind))
      ∙ among_at (key_cmp history k) (key_cmp_total history k) (members (all_of kind)) place.0 term place.1)

  -- what stands there is a term of the layer
  pub place_has : (kind : TermKind) (i : ℕ) (term : TextTerm) → slice_get (ordered kind) i ≡ Some term → contains (all_of kind) term ≡ true
  place_has kind i term at =
      let place = place_of (key_cmp history k) (key_cmp_total history k) (key_cmp-IsAntisymmetric history k) (members (all_of kind)) term
      (list_any-IsPermutation (eq_by_cmp (key_cmp history k) term) (members (all_of kind)) (ordered kind) (only_moved kind)
      ∙ among_at (key_cmp history k) (key_cmp_total history k) (ordered kind) i term at) in
      contains-members term_cmp (all_of kind) term ∙ among_at term_cmp term_cmp_total (members (all_of kind)) place.0 term place.1

  -- and its number is the place
  pub number-place : (kind : TermKind) (i : ℕ) (term : TextTerm) → slice_get (ordered kind) i ≡ Some term → number_of history k term ≡ suc i
  unfolding number_of
  number-place kind i term at =
      let lesser : TextTerm → Bool = λ other. is_lt (key_cmp history k other term) in
      ap suc (
      ap (λ set. count_by lesser (members set)) (sym (numbered_together history kept kind (Some k) term (place_has kind i term at) (Some k)))
      ∙ sym (count-moved lesser (members (all_of kind)) (ordered kind) (only_moved kind))
      ∙ rank_of (key_cmp history k) (key_cmp_total history k) (ordered kind) i term (ordered_rise kind) at)

  -- so a term stands where its number says
  pub place_at : (kind : TermKind) (i : ℕ) (term : TextTerm) → contains (all_of kind) term ≡ true → number_of history k term ≡ suc i → slice_get (ordered kind) i ≡ Some term
  place_at kind i term is number =
      let place = has_place kind term is in
      let same : number_of history k term ≡ suc place.0 = number-place kind place.0 term place.1 in
      let here : i ≡ place.0 = omega arith in
      ap (slice_get (ordered kind)) here ∙ place.1

  -- numbers are told apart, and rise, in birth order
  pub number-order : (kind : TermKind) (x y : TextTerm) → contains (all_of kind) x ≡ true → contains (all_of kind) y ≡ true → key_cmp history k x y ≡ nat_cmp (number_of history k x) (number_of history k y)
  number-order kind x y a b =
      let first = has_place kind x a in
      let second = has_place kind y b in
      places_order (key_cmp history k) (key_cmp_total history k) (ordered kind) first.0 second.0 x y (ordered_rise kind) first.1 second.1
      ∙ (λ i. nat_cmp (sym (number-place kind first.0 x first.1) i) (sym (number-place kind second.0 y second.1) i))

  -- they go from 1 on
  pub number-within : (kind : TermKind) (term : TextTerm) → contains (all_of kind) term ≡ true → (1 ≤ number_of history k term) × (number_of history k term ≤ size (all_of kind))
  number-within kind term is =
      let place = has_place kind term is in
      let number : number_of history k term ≡ suc place.0 = number-place kind place.0 term place.1 in
      let below : place.0 < length (ordered kind) = within_at (ordered kind) place.0 term place.1 in
      let long : length (ordered kind) ≡ size (all_of kind) = length-in_order kind in
      (omega arith, omega arith)

  -- to the total
  pub number-taken : (kind : TermKind) (number : ℕ) → 1 ≤ number → number ≤ size (all_of kind) → (term : TextTerm) × (contains (all_of kind) term ≡ true) × (number_of history k term ≡ number)
  number-taken kind number positive within =
      let long : length (ordered kind) ≡ size (all_of kind) = length-in_order kind in
      let below : number - 1 < length (ordered kind) = omega arith in
      let there = some_at (ordered kind) (number - 1) below in
      let is : number_of history k there.0 ≡ suc (number - 1) = number-place kind (number - 1) there.0 there.1 in
      (there.0, place_has kind (number - 1) there.0 there.1, omega arith)

  -- each once
  pub number-once : (kind : TermKind) (x y : TextTerm) → contains (all_of kind) x ≡ true → contains (all_of kind) y ≡ true → number_of history k x ≡ number_of history k y → x ≡ y
  number-once kind x y a b same =
      key_cmp-IsAntisymmetric history k x y (
      number-order kind x y a b ∙ ap (λ n. nat_cmp (number_of history k x) n) (sym same) ∙ tied_itself nat_cmp_total (number_of history k x))
