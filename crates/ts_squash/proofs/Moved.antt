-- Lists whose elements are changed from the front on, and lists in another order.
use Rattle.std.proofs.Common.{◌≡◌, ℕ, zero, suc, ◌+◌, ◌<◌, false, List, [], ◌∷◌, ◌++◌, map, length, get_or, set, take, drop, refl, sym, ap, ◌∙◌, true≢false, arith}
use Rattle.std.specs.declared.cmp.Ordering.{Ordering}
use Rattle.std.specs.declared.cmp.Ordering.TheVariants.{Less, Equal, Greater}
use Rattle.std.specs.Ordering.{eq_by_cmp, is_eq, is_lt, ordering_reverse}
use Rattle.std.specs.Cmp.{IsTotalOrder}
use Rattle.std.specs.FinMap.{IsAntisymmetric}
use Rattle.std.specs.List.{IsDistinct}
use Rattle.std.specs.List.Sorted.{IsPermutation, IsSorted, IsStrictlySortedBy}
use Rattle.std.proofs.lemmas.List.Sorted.{list_any-IsPermutation}
use Rattle.std.proofs.lemmas.Map.Keys.{IsDistinct-from_sorted, IsDistinct-IsPermutation, apart_from_distinct, sorted_from_all_adjacent}
use Rattle.ts_model.specs.Sets.{from_list}
use Rattle.ts_model.proofs.SetAlgebra.{members-from_rising}
use Rattle.ts_model.proofs.SetLaws.{contains-from_list, members_are}

-- ---- the first elements changed

pub map_front : {X : Type 0} (f : X → X) (xs : List X) (i next : ℕ) (d : X) → next ≡ suc i → i < length xs
    → set (map f (take i xs) ++ drop i xs) i (f (get_or xs i d)) ≡ map f (take next xs) ++ drop next xs
map_front {X} f xs i next d is below = go xs i below ∙ ap (λ n. map f (take n xs) ++ drop n xs) (sym is)
  where
    go : (xs : List X) (i : ℕ) → i < length xs → set (map f (take i xs) ++ drop i xs) i (f (get_or xs i d)) ≡ map f (take (suc i) xs) ++ drop (suc i) xs
    go [] i below = absurd (omega arith)
    go (x ∷ xs) zero below = refl
    go (x ∷ xs) (suc i) below = ap (λ l. f x ∷ l) (go xs i (omega arith))

pub next_one : {X : Type 0} (f : X → X) (xs : List X) (i : ℕ) (d : X) → i < length xs → get_or (map f (take i xs) ++ drop i xs) i d ≡ get_or xs i d
next_one f [] i d below = absurd (omega arith)
next_one f (x ∷ xs) zero d below = refl
next_one f (x ∷ xs) (suc i) d below = next_one f xs i d (omega arith)

-- ---- a sorted list is the only one of its elements

module _ {K : Type 0} (R : K → K → Ordering) (o : IsTotalOrder R) (same : IsAntisymmetric R) where
  is_eq-reverse : (r : Ordering) → is_eq (ordering_reverse r) ≡ is_eq r
  is_eq-reverse Less = refl
  is_eq-reverse Equal = refl
  is_eq-reverse Greater = refl

  flips : (x y : K) → eq_by_cmp R x y ≡ eq_by_cmp R y x
  flips x y = ap is_eq (o.antisymm x y) ∙ is_eq-reverse (R y x)

  less_than : (r back : Ordering) → back ≡ ordering_reverse r → is_lt back ≡ false → is_eq r ≡ false → r ≡ Less
  less_than Less back e up apart = refl
  less_than Equal back e up apart = absurd (true≢false apart)
  less_than Greater back e up apart = absurd (true≢false (sym (ap is_lt e) ∙ up))

  pub sorted_same : (d : K) (xs ys : List K) → IsStrictlySortedBy R xs → IsPermutation xs ys → IsSorted R ys → ys ≡ xs
  sorted_same d xs ys rise moved up =
      let apart : IsDistinct (eq_by_cmp R) ys = IsDistinct-IsPermutation (eq_by_cmp R) flips xs ys moved (IsDistinct-from_sorted R xs rise) in
      let rises : IsStrictlySortedBy R ys = sorted_from_all_adjacent o ys d (λ k within.
      less_than (R (get_or ys k d) (get_or ys (k + 1) d)) (R (get_or ys (k + 1) d) (get_or ys k d)) (o.antisymm (get_or ys (k + 1) d) (get_or ys k d)) (up k d (omega arith) within)
      (apart_from_distinct (eq_by_cmp R) ys k (k + 1) d apart (omega arith) within)) in
      members_are R o same (from_list xs) ys rises (λ q. sym (list_any-IsPermutation (eq_by_cmp R q) xs ys moved) ∙ sym (contains-from_list R o xs q))
      ∙ members-from_rising R o same xs rise
