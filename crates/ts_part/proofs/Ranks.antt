-- Counts over lists, and the place of an element of a rising list by how many are less.
use Rattle.std.proofs.Common.{◌≡◌, ℕ, zero, suc, ◌+◌, Bool, true, false, ◌||◌, cond, List, [], ◌∷◌, ◌++◌, map, length, Some, None, refl, sym, ap, ◌∙◌, subst, true≢false, arith}
use Rattle.std.specs.Option.{unwrap_or}
use Rattle.std.specs.declared.cmp.Ordering.{Ordering}
use Rattle.std.specs.declared.cmp.Ordering.TheVariants.{Less, Equal, Greater}
use Rattle.std.specs.Ordering.{eq_by_cmp, is_eq, is_lt, ordering_reverse}
use Rattle.std.specs.Cmp.{IsTotalOrder, Equal-is, tied_itself}
use Rattle.std.specs.List.{list_any, AllByRecursion, IsDistinct, count_by, slice_get}
use Rattle.std.specs.List.Sorted.{IsStrictlySortedBy, IsPermutation}
use Rattle.std.specs.FinMap as finmap
use Rattle.std.specs.FinMap.{IsAntisymmetric, entries-insert}
use Rattle.std.specs.FinMap.Entries.{put, by_order}
use Rattle.std.proofs.lemmas.Bool.{or_right}
use Rattle.std.proofs.lemmas.List.Sums.{sum_by-cons, sum_by-append}
use Rattle.std.proofs.lemmas.List.Sorted.{sum_by-IsPermutation, IsPermutation-refl, IsPermutation-cons, IsPermutation-trans, IsPermutation-middle}
use Rattle.std.proofs.lemmas.Map.Keys.{IsDistinct-from_sorted, IsDistinct-head, IsDistinct-tail}
use Rattle.ts_model.specs.Sets.{SetOf, members, from_list}
use Rattle.ts_model.proofs.SetLaws.{contains-members, contains-from_list}
use Rattle.ts_model.proofs.SetAlgebra.{members-from_rising}

-- ---- counts

module _ {X : Type 0} where
  one_more : (p : X → Bool) (x : X) (xs : List X) → count_by p (x ∷ xs) ≡ cond (p x) 1 0 + count_by p xs
  one_more p x xs = sum_by-cons (λ y. cond (p y) 1 0) x xs

  pub count-append : (p : X → Bool) (xs ys : List X) → count_by p (xs ++ ys) ≡ count_by p xs + count_by p ys
  count-append p xs ys = sum_by-append (λ x. cond (p x) 1 0) xs ys

  pub count-moved : (p : X → Bool) (xs ys : List X) → IsPermutation xs ys → count_by p ys ≡ count_by p xs
  count-moved p xs ys moved = sum_by-IsPermutation (λ x. cond (p x) 1 0) xs ys moved

  pub count-agree : (p q : X → Bool) (xs : List X) → AllByRecursion (λ x. p x ≡ q x) xs → count_by p xs ≡ count_by q xs
  count-agree p q [] h = refl
  count-agree p q (x ∷ xs) h = one_more p x xs ∙ (λ i. cond (h.0 i) 1 0 + count-agree p q xs h.1 i) ∙ sym (one_more q x xs)

  pub count-none : (p : X → Bool) (xs : List X) → AllByRecursion (λ x. p x ≡ false) xs → count_by p xs ≡ 0
  count-none p [] h = refl
  count-none p (x ∷ xs) h = one_more p x xs ∙ (λ i. cond (h.0 i) 1 0 + count-none p xs h.1 i)

  pub count-all : (p : X → Bool) (xs : List X) → AllByRecursion (λ x. p x ≡ true) xs → count_by p xs ≡ length xs
  count-all p [] h = refl
  count-all p (x ∷ xs) h = one_more p x xs ∙ (λ i. cond (h.0 i) 1 0 + count-all p xs h.1 i) ∙ (omega arith)

-- ---- what holds of each element

some_same : {X : Type 0} (x y : X) → Some x ≡ Some y → x ≡ y
some_same x y e = ap (λ o. unwrap_or o x) e

module _ {X : Type 0} (P : X → Type 0) where
  pub each_at : (xs : List X) (i : ℕ) (x : X) → AllByRecursion P xs → slice_get xs i ≡ Some x → P x
  each_at [] i x h e = absurd (none_is_not x e)
    where
      none_is_not : (x : X) → None ≡ Some x → ⊥
      none_is_not x e = cc
  each_at (y ∷ ys) zero x h e = subst P (some_same y x e) h.0
  each_at (y ∷ ys) (suc i) x h e = each_at ys i x h.1 e

  pub each_weaker : (Q : X → Type 0) → ((x : X) → P x → Q x) → (xs : List X) → AllByRecursion P xs → AllByRecursion Q xs
  each_weaker Q f [] h = tt
  each_weaker Q f (x ∷ xs) h = (f x h.0, each_weaker Q f xs h.1)

no_pass : {X : Type 0} (p : X → Bool) (xs : List X) → AllByRecursion (λ x. p x ≡ false) xs → list_any p xs ≡ false
no_pass p [] h = refl
no_pass p (x ∷ xs) h = ap (λ b. b || list_any p xs) h.0 ∙ no_pass p xs h.1

module _ {K : Type 0} (R : K → K → Ordering) (o : IsTotalOrder R) where
  itself : (x : K) → eq_by_cmp R x x ≡ true
  itself x = ap is_eq (tied_itself o x)

  -- what holds of each that is among them
  pub each_among : (P : K → Type 0) (xs : List K) → ((x : K) → list_any (eq_by_cmp R x) xs ≡ true → P x) → AllByRecursion P xs
  each_among P [] each = tt
  each_among P (x ∷ xs) each =
      (each x (ap (λ b. b || list_any (eq_by_cmp R x) xs) (itself x)), each_among P xs (λ y is. each y (or_right (eq_by_cmp R y x) (list_any (eq_by_cmp R y) xs) is)))

  pub among_at : (xs : List K) (i : ℕ) (x : K) → slice_get xs i ≡ Some x → list_any (eq_by_cmp R x) xs ≡ true
  among_at xs i x e = each_at (λ y. list_any (eq_by_cmp R y) xs ≡ true) xs i x (each_among (λ y. list_any (eq_by_cmp R y) xs ≡ true) xs (λ y is. is)) e

  module _ (same : IsAntisymmetric R) where
    -- the place of an element
    pub place_of : (xs : List K) (x : K) → list_any (eq_by_cmp R x) xs ≡ true → (i : ℕ) × (slice_get xs i ≡ Some x)
    place_of [] x is = absurd (true≢false (sym is))
    place_of (y ∷ ys) x is =
        elim (eq_by_cmp R x y) as (λ b. eq_by_cmp R x y ≡ b → (b || list_any (eq_by_cmp R x) ys) ≡ true → (i : ℕ) × (slice_get (y ∷ ys) i ≡ Some x)) [
          | true ↦ λ here _. (0, ap (λ z. Some z) (sym (same x y ((Equal-is (R x y)).0 here))))
          | false ↦ λ there later. let found = place_of ys x later in (suc found.0, found.1)
        ] refl is

  -- ---- the place of an element of a rising list is how many are less

  not_less : (x y : K) → R x y ≡ Less → is_lt (R y x) ≡ false
  not_less x y less = ap is_lt (o.antisymm y x ∙ ap ordering_reverse less)

  pub rank_of : (xs : List K) (i : ℕ) (x : K) → IsStrictlySortedBy R xs → slice_get xs i ≡ Some x → count_by (λ y. is_lt (R y x)) xs ≡ i
  unfolding IsStrictlySortedBy
  rank_of [] i x rise e = absurd (true≢false (sym (among_at [] i x e)))
  rank_of (y ∷ ys) zero x rise e =
      let first : y ≡ x = some_same y x e in
      let none : AllByRecursion (λ z. is_lt (R z x) ≡ false) ys = each_weaker (λ z. R y z ≡ Less) (λ z. is_lt (R z x) ≡ false) (λ z less. ap (λ w. is_lt (R z w)) (sym first) ∙ not_less y z less) ys rise.0 in
      one_more (λ z. is_lt (R z x)) y ys
      ∙ (λ i. cond (is_lt (R (first i) x)) 1 0 + count-none (λ z. is_lt (R z x)) ys none i)
      ∙ ap (λ r. cond (is_lt r) 1 0 + 0) (tied_itself o x)
  rank_of (y ∷ ys) (suc i) x rise e =
      one_more (λ z. is_lt (R z x)) y ys
      ∙ (λ j. cond (is_lt (each_at (λ z. R y z ≡ Less) ys i x rise.0 e j)) 1 0 + rank_of ys i x rise.1 e j)
      ∙ omega arith

-- ---- a list in another order

moved_in : {K : Type 0} (S : K → K → Ordering) (k : K) (es : List (K × Unit {0})) → list_any (eq_by_cmp S k) (map (λ (e : K × Unit {0}). e.0) es) ≡ false
    → IsPermutation (k ∷ map (λ (e : K × Unit {0}). e.0) es) (map (λ (e : K × Unit {0}). e.0) (put S k tt es))
moved_in S k [] h = IsPermutation-refl (k ∷ [])
moved_in {K} S k (e ∷ es) h =
    let keys : List (K × Unit {0}) → List K = map (λ (e : K × Unit {0}). e.0) in
    elim (S k e.0) as (λ r. (is_eq r || list_any (eq_by_cmp S k) (keys es)) ≡ false → IsPermutation (k ∷ e.0 ∷ keys es) (keys (by_order r ((k, tt) ∷ e ∷ es) ((e.0, tt) ∷ es) (e ∷ put S k tt es)))) [
      | Less ↦ λ _. IsPermutation-refl (k ∷ e.0 ∷ keys es)
      | Equal ↦ λ apart. absurd (true≢false apart)
      | Greater ↦ λ apart. IsPermutation-trans (k ∷ e.0 ∷ keys es) (e.0 ∷ k ∷ keys es) (e.0 ∷ keys (put S k tt es))
          (IsPermutation-middle (k ∷ []) e.0 (keys es)) (IsPermutation-cons e.0 (k ∷ keys es) (keys (put S k tt es)) (moved_in S k es apart))
    ] h

module _ {K : Type 0} (S : K → K → Ordering) (o : IsTotalOrder S) (same : IsAntisymmetric S) where
  -- the members of the set that a list of distinct elements makes are that list in another order
  pub moved : (xs : List K) → IsDistinct (eq_by_cmp S) xs → IsPermutation xs (members (from_list {R = S} xs))
  unfolding IsStrictlySortedBy
  moved [] h = subst (IsPermutation []) (sym (members-from_rising S o same [] tt)) (IsPermutation-refl [])
  moved (x ∷ xs) h =
      let before : SetOf S = from_list xs in
      let new : list_any (eq_by_cmp S x) (members before) ≡ false =
      sym (contains-members S before x) ∙ contains-from_list S o xs x ∙ no_pass (eq_by_cmp S x) xs (IsDistinct-head (eq_by_cmp S) x xs h) in
      let entry : members (from_list {R = S} (x ∷ xs)) ≡ map (λ (e : K × Unit {0}). e.0) (put S x tt (finmap.entries before)) =
      ap (map (λ (e : K × Unit {0}). e.0)) (entries-insert o before x tt) in
      IsPermutation-trans (x ∷ xs) (x ∷ members before) (members (from_list {R = S} (x ∷ xs)))
      (IsPermutation-cons x xs (members before) (moved xs (IsDistinct-tail (eq_by_cmp S) x xs h)))
      (subst (IsPermutation (x ∷ members before)) (sym entry) (moved_in S x (finmap.entries before) new))

  module _ (R : K → K → Ordering) (total : IsTotalOrder R) where
    apart : (x : K) (ys : List K) → AllByRecursion (λ y. eq_by_cmp R x y ≡ false) ys → AllByRecursion (λ y. eq_by_cmp S x y ≡ false) ys
    apart x ys = each_weaker (λ y. eq_by_cmp R x y ≡ false) (λ y. eq_by_cmp S x y ≡ false) (λ y differ.
        elim (eq_by_cmp S x y) as (λ b. eq_by_cmp S x y ≡ b → b ≡ false) [
          | true ↦ λ e. let one : x ≡ y = same x y ((Equal-is (S x y)).0 e) in absurd (true≢false (sym (ap is_eq (tied_itself total x)) ∙ ap (eq_by_cmp R x) one ∙ differ))
          | false ↦ λ e. refl
        ] refl) ys

    -- what differs in the one order differs in the other
    pub still_distinct : (xs : List K) → IsDistinct (eq_by_cmp R) xs → IsDistinct (eq_by_cmp S) xs
    unfolding IsDistinct
    still_distinct [] h = tt
    still_distinct (x ∷ xs) h = (apart x xs h.0, still_distinct xs h.1)

    -- a rising list, moved into the other order
    pub moved_rising : (xs : List K) → IsStrictlySortedBy R xs → IsPermutation xs (members (from_list {R = S} xs))
    moved_rising xs rise = moved xs (still_distinct xs (IsDistinct-from_sorted R xs rise))
