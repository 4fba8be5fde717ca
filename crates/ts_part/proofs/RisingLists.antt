-- Lists that pass tests alike, and lists that rise in one order and in another.
use Rattle.std.proofs.Common.{◌≡◌, Bool, true, cond, List, [], ◌∷◌, ◌++◌, filter, map, refl}
use Rattle.std.specs.declared.cmp.Ordering.{Ordering}
use Rattle.std.specs.declared.cmp.Ordering.TheVariants.{Less}
use Rattle.std.specs.List.{AllByRecursion}
use Rattle.std.specs.List.Sorted.{IsStrictlySortedBy}
use Rattle.ts_part.proofs.Ranks.{each_weaker}

pub filter-agree : {A : Type 0} (p q : A → Bool) (xs : List A) → AllByRecursion (λ x. p x ≡ q x) xs → filter p xs ≡ filter q xs
filter-agree p q [] h = refl
filter-agree p q (x ∷ xs) h = λ i. cond (h.0 i) (x ∷ filter-agree p q xs h.1 i) (filter-agree p q xs h.1 i)

pub filter-every : {A : Type 0} (p : A → Bool) (xs : List A) → AllByRecursion (λ x. p x ≡ true) xs → filter p xs ≡ xs
filter-every p [] h = refl
filter-every p (x ∷ xs) h = λ i. cond (h.0 i) (x ∷ filter-every p xs h.1 i) (filter-every p xs h.1 i)

module _ {K : Type 0} (S : K → K → Ordering) where
  -- a list that rises in one order rises in another that agrees with it there
  pub rises_too : (R : K → K → Ordering) (P : K → Type 0) → ((x y : K) → P x → P y → R x y ≡ Less → S x y ≡ Less) → (xs : List K) → AllByRecursion P xs → IsStrictlySortedBy R xs → IsStrictlySortedBy S xs
  unfolding IsStrictlySortedBy
  rises_too R P agree [] each rise = tt
  rises_too R P agree (x ∷ xs) each rise = (above xs each.1 rise.0, rises_too R P agree xs each.1 rise.1)
    where
      above : (ys : List K) → AllByRecursion P ys → AllByRecursion (λ y. R x y ≡ Less) ys → AllByRecursion (λ y. S x y ≡ Less) ys
      above [] each rise = tt
      above (y ∷ ys) others rise = (agree x y each.0 others.0 rise.0, above ys others.1 rise.1)

  -- one rising list behind another that lies below it
  pub rises-append : (P Q : K → Type 0) → ((x y : K) → P x → Q y → S x y ≡ Less) → (xs ys : List K) → AllByRecursion P xs → AllByRecursion Q ys → IsStrictlySortedBy S xs → IsStrictlySortedBy S ys
      → IsStrictlySortedBy S (xs ++ ys)
  unfolding IsStrictlySortedBy
  rises-append P Q below [] ys each others rise above = above
  rises-append P Q below (x ∷ xs) ys each others rise above = (front xs rise.0, rises-append P Q below xs ys each.1 others rise.1 above)
    where
      behind : (zs : List K) → AllByRecursion Q zs → AllByRecursion (λ z. S x z ≡ Less) zs
      behind zs these = each_weaker Q (λ z. S x z ≡ Less) (λ z q. below x z each.0 q) zs these

      front : (zs : List K) → AllByRecursion (λ z. S x z ≡ Less) zs → AllByRecursion (λ z. S x z ≡ Less) (zs ++ ys)
      front [] h = behind ys others
      front (z ∷ zs) h = (h.0, front zs h.1)

-- what a rising list is mapped to rises where its order is kept
pub rises-map : {X Y : Type 0} (R : X → X → Ordering) (S : Y → Y → Ordering) (f : X → Y) (P : X → Type 0) → ((x y : X) → P x → P y → R x y ≡ Less → S (f x) (f y) ≡ Less)
    → (xs : List X) → AllByRecursion P xs → IsStrictlySortedBy R xs → IsStrictlySortedBy S (map f xs)
unfolding IsStrictlySortedBy
rises-map R S f P keeps [] each rise = tt
rises-map {X} R S f P keeps (x ∷ xs) each rise = (above xs each.1 rise.0, rises-map R S f P keeps xs each.1 rise.1)
  where
    above : (ys : List X) → AllByRecursion P ys → AllByRecursion (λ y. R x y ≡ Less) ys → AllByRecursion (λ z. S (f x) z ≡ Less) (map f ys)
    above [] others less = tt
    above (y ∷ ys) others less = (keeps x y each.0 others.0 less.0, above ys others.1 less.1)

-- what holds of each element of a mapped list
pub each-map : {X Y : Type 0} (f : X → Y) (P : X → Type 0) (Q : Y → Type 0) → ((x : X) → P x → Q (f x)) → (xs : List X) → AllByRecursion P xs → AllByRecursion Q (map f xs)
each-map f P Q gives [] each = tt
each-map f P Q gives (x ∷ xs) each = (gives x each.0, each-map f P Q gives xs each.1)
