-- References to elements, as the list of what they lend: sorting the one sorts the other, and so with what passes a test.
use Rattle.std.proofs.Common.{◌≡◌, ◌+◌, ◌<◌, Bool, true, false, cond, All, List, [], ◌∷◌, map, filter, length, refl, sym, ap, ◌∙◌, arith, Bor}
use Rattle.std.specs.declared.cmp.Ordering.{Ordering}
use Rattle.std.specs.Ordering.{is_lt}
use Rattle.std.specs.List.{dedup, dedup_from}
use Rattle.std.specs.List.Sorted.{IsSorted, IsStable, ties}
use Rattle.std.proofs.lemmas.List.{length-map, get_or-map}
use Rattle.std.proofs.lemmas.List.Elements.{All-nil, All-cons, All-head, All-tail}

module _ {X : Type 0} where
  abbrev pub lent : List (Bor X) → List X
  lent xs = map (λ x. x.now) xs

  filter-lent : (p : X → Bool) (xs : List (Bor X)) → filter p (lent xs) ≡ lent (filter (λ x. p x.now) xs)
  filter-lent p [] = refl
  filter-lent p (x ∷ xs) =
      let later = filter-lent p xs in
      elim (p x.now) as (λ b. cond b (x.now ∷ filter p (lent xs)) (filter p (lent xs)) ≡ lent (cond b (x ∷ filter (λ y. p y.now) xs) (filter (λ y. p y.now) xs))) [
        | true ↦ ap (λ l. x.now ∷ l) later
        | false ↦ later
      ]

  dedup_from-lent : (same : X → X → Bool) (k : Bor X) (xs : List (Bor X)) → dedup_from same k.now (lent xs) ≡ lent (dedup_from (λ x y. same x.now y.now) k xs)
  dedup_from-lent same k [] = refl
  dedup_from-lent same k (x ∷ xs) =
      elim (same x.now k.now) as (λ b. cond b (dedup_from same k.now (lent xs)) (k.now ∷ dedup_from same x.now (lent xs)) ≡ lent (cond b (dedup_from (λ y z. same y.now z.now) k xs) (k ∷ dedup_from (λ y z. same y.now z.now) x xs))) [
        | true ↦ dedup_from-lent same k xs
        | false ↦ ap (λ l. k.now ∷ l) (dedup_from-lent same x xs)
      ]

  pub dedup-lent : (same : X → X → Bool) (xs : List (Bor X)) → dedup same (lent xs) ≡ lent (dedup (λ x y. same x.now y.now) xs)
  dedup-lent same [] = refl
  dedup-lent same (x ∷ xs) = dedup_from-lent same x xs

  pub map-lent : {Y : Type 0} (f : X → Y) (xs : List (Bor X)) → map (λ x. f x.now) xs ≡ map f (lent xs)
  map-lent f [] = refl
  map-lent f (x ∷ xs) = ap (λ l. f x.now ∷ l) (map-lent f xs)

  pub All-from_lent : (P : X → Type 0) (xs : List (Bor X)) → All P (lent xs) → All (λ x. P x.now) xs
  All-from_lent P [] h = All-nil (λ x. P x.now)
  All-from_lent P (x ∷ xs) h = All-cons (λ x. P x.now) x xs (All-head P x.now (lent xs) h) (All-from_lent P xs (All-tail P x.now (lent xs) h))

  pub IsSorted-lent : (cmp : X → X → Ordering) (xs : List (Bor X)) → IsSorted (λ x y. cmp x.now y.now) xs → IsSorted cmp (lent xs)
  IsSorted-lent cmp [] h k d low high = absurd (omega arith)
  IsSorted-lent cmp (x ∷ xs) h k d low high =
      let within : k + 1 < length (x ∷ xs) = omega (arith, length-map (x ∷ xs) (λ (y : Bor X). y.now)) in
      let here = get_or-map (λ (y : Bor X). y.now) (x ∷ xs) k x d (omega arith) in
      let next = get_or-map (λ (y : Bor X). y.now) (x ∷ xs) (k + 1) x d within in
      (λ i. is_lt (cmp (next i) (here i))) ∙ h k x low within

  -- an element to compare with is lent at any place
  pub IsStable-lent : (cmp : X → X → Ordering) (xs ys : List (Bor X)) → IsStable (λ x y. cmp x.now y.now) xs ys → IsStable cmp (lent xs) (lent ys)
  IsStable-lent cmp xs ys stable s =
      let tied : X → Bool = ties (λ x y. is_lt (cmp x y)) s in
      filter-lent tied ys ∙ ap lent (stable (record { ref_ptr = (0, 0); now = s })) ∙ sym (filter-lent tied xs)
