-- Lists that rise: one more at the end, and two that have nothing in common.
use Rattle.std.proofs.Common.{◌≡◌, ℕ, ◌+◌, zero, suc, true, true≢false, List, [], ◌∷◌, ◌++◌, length, get_or, refl, sym, arith}
use Rattle.std.specs.declared.cmp.Ordering.{Ordering}
use Rattle.std.specs.declared.cmp.Ordering.TheVariants.{Less, Equal, Greater}
use Rattle.std.specs.Ordering.{is_lt}
use Rattle.std.specs.Cmp.{IsTotalOrder}
use Rattle.std.specs.List.{AllByRecursion}
use Rattle.std.specs.List.Sorted.{IsStrictlySortedBy}

pub less_is : (r : Ordering) → is_lt r ≡ true → r ≡ Less
less_is Less h = refl
less_is Equal h = absurd (true≢false (sym h))
less_is Greater h = absurd (true≢false (sym h))

module _ {X : Type 0} (R : X → X → Ordering) where
  abbrev Above : X → List X → Type 0
  Above x xs = AllByRecursion (λ y. R x y ≡ Less) xs

  above_more : (x y : X) (xs : List X) → Above x xs → R x y ≡ Less → Above x (xs ++ y ∷ [])
  above_more x y [] h k = (k, tt)
  above_more x y (z ∷ zs) h k = (h.0, above_more x y zs h.1 k)

  pub above_last : (x y : X) (xs behind : List X) → Above x (xs ++ y ∷ behind) → R x y ≡ Less
  above_last x y [] behind h = h.0
  above_last x y (z ∷ zs) behind h = above_last x y zs behind h.1

  pub rises_front : (xs behind : List X) (y : X) → IsStrictlySortedBy R (xs ++ y ∷ behind) → IsStrictlySortedBy R (xs ++ y ∷ [])
  unfolding IsStrictlySortedBy
  rises_front [] behind y h = (tt, tt)
  rises_front (x ∷ xs) behind y h = (front xs h.0, rises_front xs behind y h.1)
    where
      front : (zs : List X) → Above x (zs ++ y ∷ behind) → Above x (zs ++ y ∷ [])
      front [] k = (k.0, tt)
      front (z ∷ zs) k = (k.0, front zs k.1)

  -- the last of them is below the next
  pub last_below : (xs : List X) (k : ℕ) (y d : X) → k + 1 ≡ length xs → IsStrictlySortedBy R (xs ++ y ∷ []) → R (get_or xs k d) y ≡ Less
  unfolding IsStrictlySortedBy
  last_below [] k y d last h = absurd (omega arith)
  last_below (x ∷ []) zero y d last h = h.0.0
  last_below (x ∷ []) (suc k) y d last h = absurd (omega arith)
  last_below (x ∷ z ∷ zs) zero y d last h = absurd (omega arith)
  last_below (x ∷ z ∷ zs) (suc k) y d last h = last_below (z ∷ zs) k y d (omega arith) h.1

  pub rises_alone : (y : X) → IsStrictlySortedBy R (y ∷ [])
  unfolding IsStrictlySortedBy
  rises_alone y = (tt, tt)

  module _ (o : IsTotalOrder R) where
    pub rises_more : (xs : List X) (k : ℕ) (y d : X) → k + 1 ≡ length xs → IsStrictlySortedBy R xs → R (get_or xs k d) y ≡ Less → IsStrictlySortedBy R (xs ++ y ∷ [])
    unfolding IsStrictlySortedBy
    rises_more [] k y d last h below = absurd (omega arith)
    rises_more (x ∷ []) zero y d last h below = ((below, tt), (tt, tt))
    rises_more (x ∷ []) (suc k) y d last h below = absurd (omega arith)
    rises_more (x ∷ z ∷ zs) zero y d last h below = absurd (omega arith)
    rises_more (x ∷ z ∷ zs) (suc k) y d last h below =
        let others = rises_more (z ∷ zs) k y d (omega arith) h.1 below in
        (above_more x y (z ∷ zs) h.0 (o.trans x z y h.0.0 (above_last z y zs [] others.0)), others)
