-- Births along a chain: the terms of an ancestor keep theirs, and other terms are born later.
use Rattle.std.proofs.Common.{◌≡◌, ℕ, zero, suc, ◌+◌, ◌<◌, ◌≤◌, ◌⊎◌, inl, inr, Bool, true, false, ◌||◌, cond, List, [], ◌∷◌, ◌++◌, length, get_or, Contains, Option, Some, None, IsTrue, IfSome, refl, sym, ap, ◌∙◌, subst, arith}
use Rattle.std.specs.Option.{is_some, option_map, option_and_then, unwrap_or}
use Rattle.std.specs.List.{AllByRecursion, list_any}
use Rattle.std.proofs.lemmas.List.Elements.{All-contains, All-from_recursion}
use Rattle.std.specs.FinMap.{get, contains_key}
use Rattle.std.proofs.lemmas.List.{append-nil}
use Rattle.ts_model.specs.History.{LayerRecord, History, IsAncestor, IsWellKept, parent_at, chain_within, chain_of}
use Rattle.ts_model.specs.Birth.{first_place}
use Rattle.ts_model.proofs.HistoryLaws.{chain_from, chain_within-none, chain_of-parent, Found, found}

-- ---- the first place in two lists, one behind the other

abbrev pub after : ℕ → Option ℕ → Option ℕ → Option ℕ
after n (Some i) later = Some i
after n None later = option_map (λ j. n + j) later

module _ {A : Type 0} (test : A → Bool) where
  pub first_place-append : (xs ys : List A) → first_place test (xs ++ ys) ≡ after (length xs) (first_place test xs) (first_place test ys)
  first_place-append [] ys = none_before (first_place test ys)
    where
      none_before : (o : Option ℕ) → o ≡ option_map (λ j. 0 + j) o
      none_before None = refl
      none_before (Some j) = ap (λ n. Some n) (omega arith)
  first_place-append (x ∷ xs) ys =
      elim (test x) as (λ b. cond b (Some 0) (option_map suc (first_place test (xs ++ ys))) ≡ after (suc (length xs)) (cond b (Some 0) (option_map suc (first_place test xs))) (first_place test ys)) [
        | true ↦ refl
        | false ↦ ap (option_map suc) (first_place-append xs ys) ∙ later (length xs) (first_place test xs) (first_place test ys)
      ]
    where
      later : (n : ℕ) (a b : Option ℕ) → option_map suc (after n a b) ≡ after (suc n) (option_map suc a) b
      later n (Some i) b = refl
      later n None None = refl
      later n None (Some j) = ap (λ n. Some n) (omega arith)

  pub first_place-below : (xs : List A) (i : ℕ) → first_place test xs ≡ Some i → i < length xs
  first_place-below [] i e = let none : ⊥ = cc in absurd none
  first_place-below (x ∷ xs) i e =
      (elim (test x) as (λ b. cond b (Some 0) (option_map suc (first_place test xs)) ≡ Some i → i < suc (length xs)) [
        | true ↦ λ e. let first : i ≡ 0 = cc in omega arith
        | false ↦ λ e. later (first_place test xs) (λ j is. first_place-below xs j is) e
      ]) e
    where
      later : (o : Option ℕ) → ((j : ℕ) → o ≡ Some j → j < length xs) → option_map suc o ≡ Some i → i < suc (length xs)
      later None small e = let none : ⊥ = cc in absurd none
      later (Some j) small e =
          let next : suc j ≡ i = ap (λ o. unwrap_or o 0) e in
          let below : j < length xs = small j refl in
          omega arith

  pub is_some-first_place : (xs : List A) → is_some (first_place test xs) ≡ list_any test xs
  is_some-first_place [] = refl
  is_some-first_place (x ∷ xs) =
      elim (test x) as (λ b. is_some (cond b (Some 0) (option_map suc (first_place test xs))) ≡ (b || list_any test xs)) [
        | true ↦ refl
        | false ↦ still (first_place test xs) ∙ is_some-first_place xs
      ]
    where
      still : (o : Option ℕ) → is_some (option_map suc o) ≡ is_some o
      still None = refl
      still (Some j) = refl

-- ---- the chain of a layer goes on as that of each of its ancestors

-- the front of a layer's chain, up to an ancestor of it, or all of it
pub record IsOver (history : History) (from : Option ℕ) (k : ℕ) : Type 0 where
  pub front : List ℕ
  pub chain : chain_of history k ≡ front ++ chain_from history from

contains_first : (x : ℕ) (xs : List ℕ) (y : ℕ) → Contains (x ∷ xs) y → (x ≡ y) ⊎ Contains xs y
contains_first x xs y h = at h.0 h.1 h.2
  where
    at : (i : ℕ) → i < suc (length xs) → get_or (x ∷ xs) i y ≡ y → (x ≡ y) ⊎ Contains xs y
    at zero below is = inl is
    at (suc i) below is = inr (i, omega arith, is)

pub over_none : (history : History) (k : ℕ) → IsOver history None k
over_none history k = record { front = chain_of history k; chain = sym (append-nil (chain_of history k)) }

module _ (history : History) (kept : IsWellKept history) where
  -- up to an ancestor of the parent, where it is over that
  up : (k a : ℕ) (parent : Option ℕ) → IfSome parent (λ p. (p < k) × IsTrue (contains_key history p)) → ((p : ℕ) → p < k → IsAncestor history a p → IsOver history (Some a) p)
      → chain_of history k ≡ k ∷ chain_from history parent → Contains (chain_from history parent) a → IsOver history (Some a) k
  up k a None stands below is there = absurd (omega (arith, there.1))
  up k a (Some p) stands below is there =
      let rest : IsOver history (Some a) p = below p stands.0 there in
      record { front = k ∷ rest.front; chain = is ∙ ap (λ c. k ∷ c) rest.chain }

  over_first : (k a : ℕ) (parent : Option ℕ) → IfSome parent (λ p. (p < k) × IsTrue (contains_key history p)) → ((p : ℕ) → p < k → IsAncestor history a p → IsOver history (Some a) p)
      → chain_of history k ≡ k ∷ chain_from history parent → IsAncestor history a k → IsOver history (Some a) k
  over_first k a parent stands below is h =
      elim (contains_first k (chain_from history parent) a (subst (λ c. Contains c a) is h)) as (λ _. IsOver history (Some a) k) [
        | inl here ↦ record { front = []; chain = ap (chain_of history) here }
        | inr there ↦ up k a parent stands below is there
      ]

  -- a number without a layer is a chain by itself
  alone : (k a : ℕ) → get history k ≡ None → IsAncestor history a k → chain_of history k ≡ k ∷ []
  alone zero a none h = absurd (omega (arith, h.1))
  alone (suc k) a none h =
      ap (λ o. suc k ∷ chain_within k history (option_and_then (λ (layer : LayerRecord). layer.parent) o)) none ∙ ap (λ c. suc k ∷ c) (chain_within-none k history)

  by_record : (k a : ℕ) (o : Option LayerRecord) → get history k ≡ o → ((p : ℕ) → p < k → IsAncestor history a p → IsOver history (Some a) p)
      → IsAncestor history a k → IsOver history (Some a) k
  by_record k a None none below h = over_first k a None tt below (alone k a none h) h
  by_record k a (Some layer) is below h = over_first k a layer.parent (kept k layer is).parent below (chain_of-parent history kept k layer is) h

  within : (n k a : ℕ) → k ≤ n → IsAncestor history a k → IsOver history (Some a) k
  within zero zero a small h = absurd (omega (arith, h.1))
  within zero (suc k) a small h = absurd (omega arith)
  within (suc n) k a small h = by_record k a (get history k) refl (λ p below. within n p a (omega arith)) h

  pub over_ancestor : (a k : ℕ) → IsAncestor history a k → IsOver history (Some a) k
  over_ancestor a k h = within k k a (omega arith) h

  -- one layer up from the parent
  pub over_parent_of : (k : ℕ) → IsTrue (contains_key history k) → (over : IsOver history (parent_at history k) k) × (over.front ≡ k ∷ [])
  over_parent_of k stands =
      let it : Found history k = found history k stands in
      let is : it.0.parent ≡ parent_at history k = sym (ap (option_and_then (λ (layer : LayerRecord). layer.parent)) it.1) in
      (record { front = k ∷ []; chain = chain_of-parent history kept k it.0 it.1 ∙ ap (λ o. k ∷ chain_from history o) is }, refl)

  -- the numbers of a chain are at least 1, and none is more than the layer's
  parent_bound : (k top : ℕ) → k ≤ top → IfSome (parent_at history k) (λ p. (1 ≤ p) × (p ≤ top))
  parent_bound k top small = by_record (get history k) refl
    where
      of_parent : (parent : Option ℕ) → IfSome parent (λ p. (p < k) × IsTrue (contains_key history p)) → IfSome parent (λ p. (1 ≤ p) × (p ≤ top))
      of_parent None h = tt
      of_parent (Some p) h =
          let it : Found history p = found history p h.1 in
          let below : p < k = h.0 in
          ((kept p it.0 it.1).number.0, omega arith)

      by_record : (o : Option LayerRecord) → get history k ≡ o → IfSome (parent_at history k) (λ p. (1 ≤ p) × (p ≤ top))
      by_record None none = subst (λ o. IfSome (option_and_then (λ (layer : LayerRecord). layer.parent) o) (λ p. (1 ≤ p) × (p ≤ top))) (sym none) tt
      by_record (Some layer) is = subst (λ o. IfSome (option_and_then (λ (layer : LayerRecord). layer.parent) o) (λ p. (1 ≤ p) × (p ≤ top))) (sym is) (of_parent layer.parent (kept k layer is).parent)

  chain_bound : (most top : ℕ) (o : Option ℕ) → IfSome o (λ k. (1 ≤ k) × (k ≤ top)) → AllByRecursion (λ j. (1 ≤ j) × (j ≤ top)) (chain_within most history o)
  chain_bound zero top None h = tt
  chain_bound (suc most) top None h = tt
  chain_bound zero top (Some k) h = tt
  chain_bound (suc most) top (Some k) h = (h, chain_bound most top (parent_at history k) (parent_bound k top h.1))

  pub ancestor_bound : (a k : ℕ) → IsAncestor history a k → (1 ≤ a) × (a ≤ k)
  ancestor_bound a zero h = absurd (omega (arith, h.1))
  ancestor_bound a (suc k) h =
      let each : AllByRecursion (λ j. (1 ≤ j) × (j ≤ suc k)) (chain_of history (suc k)) = chain_bound (suc k) (suc k) (Some (suc k)) (omega arith, omega arith) in
      All-contains (λ j. (1 ≤ j) × (j ≤ suc k)) (chain_of history (suc k)) a (All-from_recursion (λ j. (1 ≤ j) × (j ≤ suc k)) (chain_of history (suc k)) each) h

  -- the ancestors of a layer that stands do too
  parent_stands : (k : ℕ) → IsTrue (contains_key history k) → IfSome (parent_at history k) (λ p. IsTrue (contains_key history p))
  parent_stands k stands =
      let it : Found history k = found history k stands in
      subst (λ o. IfSome o (λ p. IsTrue (contains_key history p))) (sym (ap (option_and_then (λ (layer : LayerRecord). layer.parent)) it.1)) (of_parent it.0.parent (kept k it.0 it.1).parent)
    where
      of_parent : (parent : Option ℕ) → IfSome parent (λ p. (p < k) × IsTrue (contains_key history p)) → IfSome parent (λ p. IsTrue (contains_key history p))
      of_parent None h = tt
      of_parent (Some p) h = h.1

  chain_stands : (most : ℕ) (o : Option ℕ) → IfSome o (λ k. IsTrue (contains_key history k)) → AllByRecursion (λ j. IsTrue (contains_key history j)) (chain_within most history o)
  chain_stands zero None h = tt
  chain_stands (suc most) None h = tt
  chain_stands zero (Some k) h = tt
  chain_stands (suc most) (Some k) h = (h, chain_stands most (parent_at history k) (parent_stands k h))

  pub ancestor_stands : (a k : ℕ) → IsAncestor history a k → IsTrue (contains_key history k) → IsTrue (contains_key history a)
  ancestor_stands a k h stands =
      All-contains (λ j. IsTrue (contains_key history j)) (chain_of history k) a
      (All-from_recursion (λ j. IsTrue (contains_key history j)) (chain_of history k) (chain_stands k (Some k) stands)) h

  -- a parent is an ancestor
  pub parent_is_ancestor : (k p : ℕ) (layer : LayerRecord) → get history k ≡ Some layer → layer.parent ≡ Some p → IsTrue (contains_key history p) → IsAncestor history p k
  parent_is_ancestor k p layer is parent stands =
      let it : Found history p = found history p stands in
      let chain : chain_of history k ≡ k ∷ p ∷ chain_from history it.0.parent =
      chain_of-parent history kept k layer is ∙ ap (λ o. k ∷ chain_from history o) parent ∙ ap (λ c. k ∷ c) (chain_of-parent history kept p it.0 it.1) in
      subst (λ c. Contains c p) (sym chain) (1, omega arith, refl)
