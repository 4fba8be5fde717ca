-- The place of a number in an order of different ones.
use Rattle.std.proofs.Common.{◌≡◌, ◌≢◌, inl, inr, eqb, ℕ, zero, suc, ◌<◌, ◌≤◌, Bool, true, false, cond, List, [], ◌∷◌, length, get_or, slice_get, take, set, Contains, Option, None, Some, Ok, Err, refl, sym, ap, ◌∙◌, true≢false, arith}
use Rattle.std.specs.List.{IsDistinct, dedup}
use Rattle.std.specs.List.Sorted.{IsBinarySearchResult, IsPermutation, IsSorted, IsStrictlySortedBy}
use Rattle.std.specs.Option.{option_map, unwrap_or}
use Rattle.std.specs.Ordering.{nat_cmp}
use Rattle.std.proofs.lemmas.Option.{slice_get-get_or}
use Rattle.std.proofs.lemmas.Bool.{cases_order}
use Rattle.std.proofs.lemmas.Grind.{get_or-set_at}
use Rattle.std.proofs.lemmas.List.{get_or_default, get_or-set_other}
use Rattle.std.proofs.lemmas.List.Kept.{Contains-dedup_nat, Contains-from_dedup}
use Rattle.std.proofs.lemmas.List.Sorted.{Contains-permutation, IsPermutation-sym, searched}
use Rattle.std.proofs.lemmas.Map.Keys.{IsStrictlyIncreasing-dedup, below_from_sorted, sorted_from_strictly_increasing, IsDistinct-from_sorted, IsDistinct-head, IsDistinct-IsPermutation, IsDistinct-tail}
use Rattle.ts_model.specs.Birth.{first_place}
use Rattle.ts_part.proofs.Ranks.{each_at}
use Rattle.ts_squash.specs.NewNumbers.{AreDifferent, AreSameNumbers, new_number}
use Rattle.ts_squash.proofs.SameNumbers.{moved_same}
use Rattle.ts_squash.proofs.TermLists.{same, same_is, same_itself}

pub same_turned : (x y : ℕ) → same x y ≡ same y x
same_turned x y =
    (elim (same x y) as (λ b. same x y ≡ b → b ≡ same y x) [
      | true ↦ λ e. (let is = same_is x y e in sym (ap (λ z. same z x) (sym is) ∙ same_itself x))
      | false ↦ λ e.
          elim (same y x) as (λ b. same y x ≡ b → false ≡ b) [
            | true ↦ λ f. (let is = same_is y x f in absurd (true≢false (sym (same_itself x) ∙ ap (same x) (sym is) ∙ e)))
            | false ↦ λ f. refl
          ] refl
    ]) refl

-- numbers that each come as often as among rising ones come once
pub distinct_order : (old order : List ℕ) → IsStrictlySortedBy nat_cmp old → AreSameNumbers old order → IsDistinct same order
distinct_order old order rise as_often = IsDistinct-IsPermutation same same_turned old order (moved_same old order rise as_often) (IsDistinct-from_sorted nat_cmp old rise)

-- the first place is the only one
pub first_at : (order : List ℕ) (i id : ℕ) → IsDistinct same order → slice_get order i ≡ Some id → first_place (same id) order ≡ Some i
first_at [] i id apart at = let none : ⊥ = cc in absurd none
first_at (x ∷ xs) zero id apart at =
    let is : x ≡ id = cc in
    ap (λ b. cond b (Some 0) (option_map suc (first_place (same id) xs))) (ap (same id) is ∙ same_itself id)
first_at (x ∷ xs) (suc i) id apart at =
    let other : same id x ≡ false = same_turned id x ∙ each_at (λ y. same x y ≡ false) xs i id (IsDistinct-head same x xs apart) at in
    ap (λ b. cond b (Some 0) (option_map suc (first_place (same id) xs))) other ∙ ap (option_map suc) (first_at xs i id (IsDistinct-tail same x xs apart) at)

pub new_at : (order : List ℕ) (i id : ℕ) → IsDistinct same order → slice_get order i ≡ Some id → new_number order id ≡ suc i
new_at order i id apart at = ap (λ o. unwrap_or (option_map suc o) 0) (first_at order i id apart at)

-- a number that isn't there
pub first_none : (order : List ℕ) (id : ℕ) → ¬ Contains order id → first_place (same id) order ≡ None
first_none [] id absent = refl
first_none (x ∷ xs) id absent =
    (elim (same id x) as (λ b. same id x ≡ b → cond b (Some 0) (option_map suc (first_place (same id) xs)) ≡ None) [
      | true ↦ λ e. absurd (absent (0, omega arith, sym (same_is id x e)))
      | false ↦ λ e. ap (option_map suc) (first_none xs id (λ h. absent (suc h.0, omega (arith, h.1), h.2)))
    ]) refl

pub new_none : (order : List ℕ) (id : ℕ) → ¬ Contains order id → new_number order id ≡ 0
new_none order id absent = ap (λ o. unwrap_or (option_map suc o) 0) (first_none order id absent)

next_place : (first here : Bool) (o rest : Option ℕ) (i : ℕ) → o ≡ cond here (Some i) rest → (here ≡ true → first ≡ false)
    → cond first (Some 0) (option_map suc o) ≡ cond here (Some (suc i)) (cond first (Some 0) (option_map suc rest))
next_place true true o rest i e apart = absurd (true≢false (apart refl))
next_place false true o rest i e apart = ap (option_map suc) e
next_place true false o rest i e apart = refl
next_place false false o rest i e apart = ap (option_map suc) e

-- one number more of an order
pub one_more : (order : List ℕ) (i : ℕ) → i < length order → IsDistinct same order → (id : ℕ)
    → first_place (same id) (take (suc i) order) ≡ cond (same id (get_or order i 0)) (Some i) (first_place (same id) (take i order))
one_more [] i below apart id = absurd (omega arith)
one_more (x ∷ xs) zero below apart id = refl
one_more (x ∷ xs) (suc i) below apart id =
    next_place (same id x) (same id (get_or xs i 0)) (first_place (same id) (take (suc i) xs)) (first_place (same id) (take i xs)) i
    (one_more xs i (omega arith) (IsDistinct-tail same x xs apart) id)
    (λ e.
    let at : slice_get xs i ≡ Some id = slice_get-get_or xs i 0 (omega arith) ∙ ap Some (sym (same_is id (get_or xs i 0) e)) in
    same_turned id x ∙ each_at (λ y. same x y ≡ false) xs i id (IsDistinct-head same x xs apart) at)

-- a sort and a `dedup` leave the different numbers, rising
pub different : (ids sorted : List ℕ) → IsPermutation ids sorted → IsSorted nat_cmp sorted → AreDifferent ids (dedup eqb sorted)
different ids sorted moved up = record {
  rise = sorted_from_strictly_increasing (dedup eqb sorted) (IsStrictlyIncreasing-dedup sorted up);
  same = λ id. (
    λ h. Contains-dedup_nat sorted id (Contains-permutation ids sorted id moved h),
    λ h. Contains-permutation sorted ids id (IsPermutation-sym ids sorted moved) (Contains-from_dedup eqb sorted id h),
  );
}

-- ---- the numbers that an order gives to the old ones, as far as it was gone through

number_step : (order : List ℕ) (i id : ℕ) → i < length order → IsDistinct same order
    → new_number (take (suc i) order) id ≡ cond {A = ℕ} (same id (get_or order i 0)) (suc i) (new_number (take i order) id)
number_step order i id below apart =
    ap (λ o. unwrap_or (option_map suc o) 0) (one_more order i below apart id) ∙ through (same id (get_or order i 0))
  where
    through : (b : Bool) → unwrap_or (option_map suc (cond b (Some i) (first_place (same id) (take i order)))) 0 ≡ cond {A = ℕ} b (suc i) (new_number (take i order) id)
    through true = refl
    through false = refl

abbrev pub AreSoFar : List ℕ → List ℕ → List ℕ → ℕ → Type 0
AreSoFar old new order i = (q : ℕ) → q < length old → get_or new q 0 ≡ new_number (take i order) (get_or old q 0)

differ : (x y : ℕ) → x ≢ y → same x y ≡ false
differ x y apart =
    elim (same x y) as (λ b. same x y ≡ b → b ≡ false) [
      | true ↦ λ e. absurd (apart (same_is x y e))
      | false ↦ λ e. refl
    ] refl

module _ (old new order : List ℕ) (i next : ℕ) (is_next : next ≡ suc i) (below : i < length order) (apart : IsDistinct same order) (so_far : AreSoFar old new order i) where
  step_to : (id : ℕ) (b : Bool) → same id (get_or order i 0) ≡ b → new_number (take next order) id ≡ cond {A = ℕ} b (suc i) (new_number (take i order) id)
  step_to id b e = ap (λ n. new_number (take n order) id) is_next ∙ number_step order i id below apart ∙ ap (λ b. cond {A = ℕ} b (suc i) (new_number (take i order) id)) e

  pub one_absent : ((q : ℕ) → q < length old → get_or old q 0 ≢ get_or order i 0) → AreSoFar old new order next
  one_absent absent q within = so_far q within ∙ sym (step_to (get_or old q 0) false (differ (get_or old q 0) (get_or order i 0) (absent q within)))

  pub one_found : (place : ℕ) → place < length old → get_or old place 0 ≡ get_or order i 0 → length new ≡ length old → IsStrictlySortedBy nat_cmp old → AreSoFar old (set new place next) order next
  one_found place inside is as_many rise q within =
      elim (cases_order q place) as (λ _. get_or (set new place next) q 0 ≡ new_number (take next order) (get_or old q 0)) [
        | inl here ↦
            (let hit : same (get_or old q 0) (get_or order i 0) ≡ true = ap (λ n. same (get_or old n 0) (get_or order i 0)) here ∙ ap (same (get_or old place 0)) (sym is) ∙ same_itself (get_or old place 0) in
            get_or-set_at new place q next 0 here (omega arith) ∙ is_next ∙ sym (step_to (get_or old q 0) true hit))
        | inr other ↦
            (let others : get_or old q 0 ≢ get_or order i 0 = λ e.
            elim other as (λ _. ⊥) [
              | inl low ↦ (let less = below_from_sorted old q place 0 rise low inside in omega arith)
              | inr high ↦ (let less = below_from_sorted old place q 0 rise high within in omega arith)
            ] in
            let elsewhere : q ≢ place = elim other as (λ _. q ≢ place) [ inl low ↦ λ e. omega arith | inr high ↦ λ e. omega arith ] in
            get_or-set_other new place q next 0 elsewhere
            ∙ so_far q within
            ∙ sym (step_to (get_or old q 0) false (differ (get_or old q 0) (get_or order i 0) others)))
      ]

-- ---- a search among rising numbers

rises_on : (xs : List ℕ) → IsStrictlySortedBy nat_cmp xs → (i j : ℕ) → i ≤ j → j < length xs → get_or xs i 0 ≤ get_or xs j 0
rises_on xs rise i j low high =
    elim (cases_order i j) as (λ _. get_or xs i 0 ≤ get_or xs j 0) [
      | inl here ↦ (let same : get_or xs i 0 ≡ get_or xs j 0 = ap (λ n. get_or xs n 0) here in omega arith)
      | inr (inl less) ↦ (let under = below_from_sorted xs i j 0 rise less high in omega arith)
      | inr (inr more) ↦ absurd (omega arith)
    ]

pub found_at : (xs : List ℕ) (x place : ℕ) → IsStrictlySortedBy nat_cmp xs → IsBinarySearchResult (λ y. nat_cmp y x) xs (Ok place) → (place < length xs) × (get_or xs place 0 ≡ x)
found_at xs x place rise is = searched xs x (Ok place) is (rises_on xs rise)

pub found_none : (xs : List ℕ) (x place q : ℕ) → IsStrictlySortedBy nat_cmp xs → IsBinarySearchResult (λ y. nat_cmp y x) xs (Err place) → q < length xs → get_or xs q 0 ≢ x
found_none xs x place q rise is within e =
    let away = searched xs x (Err place) is (rises_on xs rise) in
    elim (cases_order q place) as (λ _. ⊥) [
      | inl here ↦ (let more = away.2 q (omega arith) within in omega arith)
      | inr (inl low) ↦ (let less = away.1 q low in omega arith)
      | inr (inr high) ↦ (let more = away.2 q (omega arith) within in omega arith)
    ]

-- a number that isn't among the old ones has no place in their order
pub new_absent : (old order : List ℕ) (id place : ℕ) → IsStrictlySortedBy nat_cmp old → AreSameNumbers old order → IsBinarySearchResult (λ y. nat_cmp y id) old (Err place) → 0 ≡ new_number order id
new_absent old order id place rise as_often is =
    sym (new_none order id (λ there.
    let h = Contains-permutation order old id (IsPermutation-sym old order (moved_same old order rise as_often)) there in
    found_none old id place h.0 rise is h.1 (get_or_default old h.0 0 id h.1 ∙ h.2)))
