use Rattle.std.proofs.Common.{◌≡◌, ◌≢◌, ℕ, zero, suc, ◌+◌, ◌<◌, ◌≤◌, ◌⊎◌, inl, inr, true, List, [], ◌∷◌, length, get_or, sym, ◌∙◌, ap, subst, arith}
use Rattle.std.specs.Prelude.{All, AllPairs}
use Rattle.std.specs.List.{list_any, IsDistinct}
use Rattle.std.proofs.Math.Dec.{eqb}
use Rattle.std.proofs.lemmas.Bool.{cases_eq, cases_lt, eqb-true}
use Rattle.std.proofs.lemmas.Bool.Decides.{Decides-eqb, nat_tests}
use Rattle.std.proofs.lemmas.List.{get_or_default}
use Rattle.std.proofs.lemmas.List.Folds.{Any-from_list_any}
use Rattle.std.proofs.lemmas.List.FromFn.{length-map-range_with_len, get_or-map-range_with_len, fill_by_all}
use Rattle.std.proofs.lemmas.List.Kept.{AllPairs-cons}
use Rattle.std.proofs.lemmas.Map.Made.{IsDistinct-from_AllPairs}
use Rattle.std.proofs.lemmas.Map.Steps.{length-le_from_distinct_below}
use Rattle.ts_idmap.specs.Permutation.{Permutes, place_in, inverse_of, AreInverse}

pub length-inverse_of : (xs : List ℕ) → length (inverse_of xs) ≡ length xs
unfolding inverse_of
length-inverse_of xs = length-map-range_with_len (place_in xs) 0 (length xs)

pub get_or-inverse_of : (xs : List ℕ) (x : ℕ) → x < length xs → get_or (inverse_of xs) x 0 ≡ place_in xs x
unfolding inverse_of
get_or-inverse_of xs x h = get_or-map-range_with_len (place_in xs) 0 (length xs) x x 0 h (omega arith)

pub number_below : (xs : List ℕ) (i : ℕ) → Permutes xs → i < length xs → get_or xs i 0 < length xs
number_below xs i p h = p.within i 0 h

distinct_rest : (x : ℕ) (xs : List ℕ) → AllPairs (λ a b. a ≢ b) (x ∷ xs) → AllPairs (λ a b. a ≢ b) xs
distinct_rest x xs h i j d k l = h (suc i) (suc j) d (omega arith) (omega arith)

-- where a number stands that stands at a place
place_of_stands : (xs : List ℕ) (i : ℕ) → AllPairs (λ a b. a ≢ b) xs → i < length xs → place_in xs (get_or xs i 0) ≡ i
unfolding place_in
place_of_stands [] i h k = absurd (omega arith)
place_of_stands (x ∷ xs) zero h k = grind (arith, nat_tests)
place_of_stands (x ∷ xs) (suc i) h k =
    let other : x ≢ get_or xs i 0 = h 0 (suc i) 0 (omega arith) k in
    let rest : place_in xs (get_or xs i 0) ≡ i = place_of_stands xs i (distinct_rest x xs h) (omega arith) in
    grind (arith, nat_tests)

pub place_in-get_or : (xs : List ℕ) (i : ℕ) → Permutes xs → i < length xs → place_in xs (get_or xs i 0) ≡ i
place_in-get_or xs i p h = place_of_stands xs i p.distinct h

not_in_more : (x y : ℕ) (xs : List ℕ) → y ≢ x → ((i : ℕ) → i < length xs → get_or xs i 0 ≢ x)
    → (i : ℕ) → i < length (y ∷ xs) → get_or (y ∷ xs) i 0 ≢ x
not_in_more x y xs h none zero k = h
not_in_more x y xs h none (suc i) k = none i (omega arith)

stands_or_not : (xs : List ℕ) (x : ℕ) → ((i : ℕ) × ((i < length xs) × (get_or xs i 0 ≡ x))) ⊎ ((i : ℕ) → i < length xs → get_or xs i 0 ≢ x)
stands_or_not [] x = inr (λ i h. absurd (omega arith))
stands_or_not (y ∷ ys) x =
    elim (cases_eq y x) [
      | inl same ↦ inl (0, (omega arith, same))
      | inr other ↦
          elim (stands_or_not ys x) [
            | inl found ↦ inl (suc found.0, (let h : found.0 < length ys = found.1.0 in omega arith, found.1.1))
            | inr none ↦ inr (not_in_more x y ys other none)
          ]
    ]

below_with : (x : ℕ) (xs : List ℕ) → Permutes xs → x < length xs → (i : ℕ) → i < length (x ∷ xs) → get_or (x ∷ xs) i 0 < length xs
below_with x xs p h zero k = h
below_with x xs p h (suc i) k = p.within i 0 (omega arith)

-- by counting, each number below the length stands at some place
pub stands : (xs : List ℕ) (x : ℕ) → Permutes xs → x < length xs → (i : ℕ) × ((i < length xs) × (get_or xs i 0 ≡ x))
stands xs x p h =
    elim (stands_or_not xs x) [
      | inl found ↦ found
      | inr none ↦
          let apart : All (λ y. x ≢ y) xs = λ k d l same. none k l (get_or_default xs k 0 d l ∙ sym same) in
          let distinct : IsDistinct eqb (x ∷ xs) =
          IsDistinct-from_AllPairs Decides-eqb (x ∷ xs) (AllPairs-cons (λ a b. a ≢ b) x xs apart p.distinct) in
          let below : (q : ℕ) → list_any (eqb q) (x ∷ xs) ≡ true → q < length xs =
          λ q any.
          let found = Any-from_list_any (eqb q) (x ∷ xs) any in
          let at : get_or (x ∷ xs) found.0 0 ≡ q =
          get_or_default (x ∷ xs) found.0 0 found.1 found.2 ∙ found.3 ∙ sym (eqb-true q found.1 found.4) in
          subst (λ n. n < length xs) at (below_with x xs p h found.0 found.2) in
          let many : length (x ∷ xs) ≤ length xs = length-le_from_distinct_below (x ∷ xs) (length xs) distinct below in
          absurd (omega arith)
    ]

pub place_below : (xs : List ℕ) (x : ℕ) → Permutes xs → x < length xs → place_in xs x < length xs
place_below xs x p h =
    let at : (i : ℕ) × ((i < length xs) × (get_or xs i 0 ≡ x)) = stands xs x p h in
    let place : place_in xs x ≡ at.0 = ap (place_in xs) (sym at.1.1) ∙ place_in-get_or xs at.0 p at.1.0 in
    subst (λ n. n < length xs) (sym place) at.1.0

pub get_or-place_in : (xs : List ℕ) (x : ℕ) → Permutes xs → x < length xs → get_or xs (place_in xs x) 0 ≡ x
get_or-place_in xs x p h =
    let at : (i : ℕ) × ((i < length xs) × (get_or xs i 0 ≡ x)) = stands xs x p h in
    let place : place_in xs x ≡ at.0 = ap (place_in xs) (sym at.1.1) ∙ place_in-get_or xs at.0 p at.1.0 in
    ap (λ n. get_or xs n 0) place ∙ at.1.1

-- the second list leads back from each of the first numbers of the first list
pub record LeadsBack (outer inverse : List ℕ) (upto : ℕ) : Type 0 where
  pub within : (k : ℕ) → k < upto → get_or outer k 0 < length outer
  pub back : (k : ℕ) → k < upto → get_or inverse (get_or outer k 0) 0 ≡ k

permutes_by : (outer inverse : List ℕ) → LeadsBack outer inverse (length outer) → Permutes outer
permutes_by outer inverse leads = record {
  within = (λ k d h. subst (λ n. n < length outer) (get_or_default outer k 0 d h) (leads.within k h));
  distinct = (λ i j d h k same.
      let first : i < length outer = omega arith in
      let equal : get_or outer i 0 ≡ get_or outer j 0 = get_or_default outer i 0 d first ∙ same ∙ get_or_default outer j d 0 k in
      let places : i ≡ j = sym (leads.back i first) ∙ ap (λ n. get_or inverse n 0) equal ∙ leads.back j k in
      omega arith);
}

inverts_by : (outer inverse : List ℕ) → Permutes outer → length inverse ≡ length outer → LeadsBack outer inverse (length outer) → inverse ≡ inverse_of outer
unfolding inverse_of
inverts_by outer inverse p many leads =
    fill_by_all (place_in outer) inverse (length outer) 0 many (λ k h.
    let at : (i : ℕ) × ((i < length outer) × (get_or outer i 0 ≡ k)) = stands outer k p h in
    ap (λ n. get_or inverse n 0) (sym at.1.1) ∙ leads.back at.0 at.1.0 ∙ sym (place_in-get_or outer at.0 p at.1.0) ∙ ap (place_in outer) at.1.1)

-- a list as long that leads back from each number of the first is its inverse, and the first a permutation
pub inverse_by : (outer inverse : List ℕ) → length inverse ≡ length outer → LeadsBack outer inverse (length outer) → AreInverse outer inverse
inverse_by outer inverse many leads =
    let p : Permutes outer = permutes_by outer inverse leads in
    record { permutes = p; inverts = inverts_by outer inverse p many leads }

-- and an inverse leads back
pub leads_back : (outer inverse : List ℕ) (k : ℕ) → AreInverse outer inverse → k < length outer
    → (get_or outer k 0 < length outer) × (get_or inverse (get_or outer k 0) 0 ≡ k)
leads_back outer inverse k are h =
    let below : get_or outer k 0 < length outer = number_below outer k are.permutes h in
    (below, ap (λ l. get_or l (get_or outer k 0) 0) are.inverts ∙ get_or-inverse_of outer (get_or outer k 0) below ∙ place_in-get_or outer k are.permutes h)

pub leads_more : (outer inverse : List ℕ) (k : ℕ) → LeadsBack outer inverse k → get_or outer k 0 < length outer
    → get_or inverse (get_or outer k 0) 0 ≡ k → LeadsBack outer inverse (k + 1)
leads_more outer inverse k leads below here = record {
  within = (λ i h. elim (cases_lt i k) [
    | inl before ↦ leads.within i before
    | inr same ↦ (let at : k ≡ i = omega arith in subst (λ n. get_or outer n 0 < length outer) at below)
  ]);
  back = (λ i h. elim (cases_lt i k) [
    | inl before ↦ leads.back i before
    | inr same ↦ (let at : k ≡ i = omega arith in subst (λ n. get_or inverse (get_or outer n 0) 0 ≡ n) at here)
  ]);
}

pub length_of_inverse : (outer inverse : List ℕ) → AreInverse outer inverse → length inverse ≡ length outer
length_of_inverse outer inverse are = ap length are.inverts ∙ length-inverse_of outer
