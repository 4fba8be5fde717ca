-- The first element that passes a test, among the elements that a filter or a `dedup` leaves; and rising lists.
use Rattle.std.proofs.Common.{◌≡◌, Bool, true, false, ◌||◌, cond, List, [], ◌∷◌, ◌++◌, flat_map, map, filter, find, Option, Some, None, refl, sym, ap, ◌∙◌, true≢false}
use Rattle.std.specs.Option.{is_some}
use Rattle.std.specs.declared.cmp.Ordering.{Ordering}
use Rattle.std.specs.declared.cmp.Ordering.TheVariants.{Less}
use Rattle.std.specs.Ordering.{on}
use Rattle.std.specs.List.{list_any, AllByRecursion, dedup, dedup_from}
use Rattle.std.specs.List.Sorted.{IsStrictlySortedBy}

-- ---- the first that passes a test

module _ {X : Type 0} where
  abbrev pub head_of : List X → Option X
  head_of [] = None
  head_of (x ∷ xs) = Some x

  pub find-filter : (p : X → Bool) (xs : List X) → find p xs ≡ head_of (filter p xs)
  find-filter p [] = refl
  find-filter p (x ∷ xs) = elim (p x) as (λ b. cond b (Some x) (find p xs) ≡ head_of (cond b (x ∷ filter p xs) (filter p xs))) [ true ↦ refl | false ↦ find-filter p xs ]

  pub is_some-find : (p : X → Bool) (xs : List X) → is_some (find p xs) ≡ list_any p xs
  is_some-find p [] = refl
  is_some-find p (x ∷ xs) = elim (p x) as (λ b. is_some (cond b (Some x) (find p xs)) ≡ (b || list_any p xs)) [ true ↦ refl | false ↦ is_some-find p xs ]

  -- what is dropped passes the test just where the one that is kept does
  find-dedup_from : (same : X → X → Bool) (p : X → Bool) → ((x k : X) → same x k ≡ true → p x ≡ p k)
      → (k : X) (xs : List X) → find p (dedup_from same k xs) ≡ find p (k ∷ xs)
  find-dedup_from same p alike k [] = refl
  find-dedup_from same p alike k (x ∷ xs) =
      elim (same x k) as (λ b. same x k ≡ b → find p (cond b (dedup_from same k xs) (k ∷ dedup_from same x xs)) ≡ find p (k ∷ x ∷ xs)) [
        | true ↦ λ e. find-dedup_from same p alike k xs ∙ passed (p k) (p x) (alike x k e)
        | false ↦ λ e. ap (cond (p k) (Some k)) (find-dedup_from same p alike x xs)
      ] refl
    where
      passed : (kept gone : Bool) → gone ≡ kept → cond kept (Some k) (find p xs) ≡ cond kept (Some k) (cond gone (Some x) (find p xs))
      passed true gone e = refl
      passed false true e = absurd (true≢false e)
      passed false false e = refl

  pub find-dedup : (same : X → X → Bool) (p : X → Bool) → ((x k : X) → same x k ≡ true → p x ≡ p k) → (xs : List X) → find p (dedup same xs) ≡ find p xs
  find-dedup same p alike [] = refl
  find-dedup same p alike (x ∷ xs) = find-dedup_from same p alike x xs

pub list_any-map : {X Y : Type 0} (p : Y → Bool) (f : X → Y) (xs : List X) → list_any p (map f xs) ≡ list_any (λ x. p (f x)) xs
list_any-map p f [] = refl
list_any-map p f (x ∷ xs) = ap (λ b. p (f x) || b) (list_any-map p f xs)

-- what a `dedup` drops passes a test just where what is kept does
pub list_any-dedup : {X : Type 0} (same : X → X → Bool) (p : X → Bool) → ((x k : X) → same x k ≡ true → p x ≡ p k) → (xs : List X) → list_any p (dedup same xs) ≡ list_any p xs
list_any-dedup same p alike xs = sym (is_some-find p (dedup same xs)) ∙ ap is_some (find-dedup same p alike xs) ∙ is_some-find p xs

pub flat_map-map : {X Y Z : Type 0} (g : Y → List Z) (f : X → Y) (xs : List X) → flat_map (λ x. g (f x)) xs ≡ flat_map g (map f xs)
flat_map-map g f [] = refl
flat_map-map g f (x ∷ xs) = ap (λ l. g (f x) ++ l) (flat_map-map g f xs)

module _ {X K : Type 0} (R : K → K → Ordering) (key : X → K) where
  above-map : (x : X) (xs : List X) → AllByRecursion (λ y. on key R x y ≡ Less) xs → AllByRecursion (λ k. R (key x) k ≡ Less) (map key xs)
  above-map x [] a = tt
  above-map x (y ∷ ys) a = (a.0, above-map x ys a.1)

  -- the keys rise where the elements rise by them
  pub IsStrictlySortedBy-map : (xs : List X) → IsStrictlySortedBy (on key R) xs → IsStrictlySortedBy R (map key xs)
  unfolding IsStrictlySortedBy
  IsStrictlySortedBy-map [] h = tt
  IsStrictlySortedBy-map (x ∷ xs) h = (above-map x xs h.0, IsStrictlySortedBy-map xs h.1)
