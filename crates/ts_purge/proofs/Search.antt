-- What a search by halves finds among rising numbers.
use Rattle.std.proofs.Common.{◌≡◌, ℕ, zero, suc, ◌+◌, ◌<◌, ◌≤◌, ◌==◌, false, List, length, get_or, Ok, Err, Result, None, sym, ap, ◌∙◌, subst, inl, inr, arith}
use Rattle.std.specs.Result.{is_ok}
use Rattle.std.specs.List.{HoldsAt}
use Rattle.std.specs.List.Sorted.{IsStrictlyIncreasing, IsBinarySearchResult, IsSortedBy}
use Rattle.std.specs.declared.cmp.Ordering.TheVariants.{Less, Equal, Greater}
use Rattle.std.specs.Ordering.{nat_cmp, is_lt}
use Rattle.std.specs.Cmp.{nat_cmp_is}
use Rattle.std.specs.FinMap.{nat_cmp-IsAntisymmetric}
use Rattle.std.proofs.lemmas.Cmp.{nat_cmp_total}
use Rattle.std.proofs.lemmas.Bool.{cases_lt, cases_eq}
use Rattle.std.proofs.lemmas.Bool.Decides.{nat_tests}
use Rattle.std.proofs.lemmas.Grind.{get_or_default_zero}
use Rattle.std.proofs.lemmas.List.{get_or-map, length-map}
use Rattle.std.proofs.lemmas.List.Folds.{list_any_at, list_any_none}
use Rattle.std.proofs.lemmas.List.Elements.{All-from_get_or}
use Rattle.std.proofs.lemmas.List.Sorted.{searched, searchable_from_sorted}
use Rattle.ts_purge.specs.declared.rows.LayerRow.{LayerRow}
use Rattle.ts_purge.specs.Plan.{is_among}
use Rattle.ts_purge.specs.Rows.{numbers_of, StandsAmong}

-- a row for places past the end
abbrev pub no_row : LayerRow
no_row = record { number = 0; parent = None }

pub number_at : (rows : List LayerRow) (i : ℕ) (d : LayerRow) → i < length rows → get_or (numbers_of rows) i 0 ≡ (get_or rows i d).number
number_at rows i d below = get_or-map (λ (row : LayerRow). row.number) rows i d 0 below

pub as_many : (rows : List LayerRow) → length (numbers_of rows) ≡ length rows
as_many rows = length-map rows (λ (row : LayerRow). row.number)

pub rises : (xs : List ℕ) (i j : ℕ) → IsStrictlyIncreasing xs → i < j → j < length xs → get_or xs i 0 < get_or xs j 0
rises xs i zero rise order below = absurd (omega arith)
rises xs i (suc j) rise order below =
    let here : get_or xs j 0 < get_or xs (suc j) 0 = subst (λ k. get_or xs j 0 < get_or xs k 0) (omega arith) (rise j (omega arith)) in
    elim (cases_lt i j) [
      | inl before ↦ (let there : get_or xs i 0 < get_or xs j 0 = rises xs i j rise before (omega arith) in omega arith)
      | inr at ↦ (let same : i ≡ j = omega arith in subst (λ k. get_or xs k 0 < get_or xs (suc j) 0) (sym same) here)
    ]

-- a lesser number stands before
pub before : (xs : List ℕ) (i j : ℕ) → IsStrictlyIncreasing xs → i < length xs → j < length xs → get_or xs i 0 < get_or xs j 0 → i < j
before xs i j rise first second less = elim (cases_lt i j) [
  | inl order ↦ order
  | inr back ↦ elim (cases_eq i j) [
    | inl same ↦ absurd (let at : get_or xs i 0 ≡ get_or xs j 0 = ap (λ k. get_or xs k 0) same in omega arith)
    | inr other ↦ absurd (let at : get_or xs j 0 < get_or xs i 0 = rises xs j i rise (omega arith) first in omega arith)
  ]
]

pub one_place : (xs : List ℕ) (i j : ℕ) → IsStrictlyIncreasing xs → i < length xs → j < length xs → get_or xs i 0 ≡ get_or xs j 0 → i ≡ j
one_place xs i j rise first second same = elim (cases_lt i j) [
  | inl order ↦ absurd (let at : get_or xs i 0 < get_or xs j 0 = rises xs i j rise order second in omega arith)
  | inr back ↦ elim (cases_eq i j) [
    | inl equal ↦ equal
    | inr other ↦ absurd (let at : get_or xs j 0 < get_or xs i 0 = rises xs j i rise (omega arith) first in omega arith)
  ]
]

never_falls : (xs : List ℕ) → IsStrictlyIncreasing xs → (i j : ℕ) → i ≤ j → j < length xs → get_or xs i 0 ≤ get_or xs j 0
never_falls xs rise i j order below = elim (cases_eq i j) [
  | inl same ↦ (let at : get_or xs i 0 ≡ get_or xs j 0 = ap (λ k. get_or xs k 0) same in omega arith)
  | inr other ↦ (let at : get_or xs i 0 < get_or xs j 0 = rises xs i j rise (omega arith) below in omega arith)
]

-- a number is among others exactly where the search finds it
pub is_found : (xs : List ℕ) (x : ℕ) (r : Result ℕ ℕ) → IsStrictlyIncreasing xs → IsBinarySearchResult (λ y. nat_cmp y x) xs r
    → is_ok r ≡ is_among xs x
is_found xs x (Ok i) rise found =
    let at = searched xs x (Ok i) found (never_falls xs rise) in
    sym (list_any_at (λ n. n == x) xs i 0 at.0 (let is : get_or xs i 0 ≡ x = at.1 in grind (arith, nat_tests)))
is_found xs x (Err i) rise found =
    let at = searched xs x (Err i) found (never_falls xs rise) in
    sym (list_any_none (λ n. n == x) xs (All-from_get_or (λ n. (n == x) ≡ false) xs 0 (λ k below. elim (cases_lt k i) [
      | inl first ↦ (let less : get_or xs k 0 < x = at.1 k first in grind (arith, nat_tests))
      | inr last ↦ (let more : x < get_or xs k 0 = at.2 k last below in grind (arith, nat_tests))
    ])))

sorted_rows : (rows : List LayerRow) → IsStrictlyIncreasing (numbers_of rows) → IsSortedBy (λ a b. is_lt (nat_cmp a.number b.number)) rows
sorted_rows rows rise = λ k d _ below.
    let first : get_or (numbers_of rows) k 0 ≡ (get_or rows k d).number = number_at rows k d (omega arith) in
    let second : get_or (numbers_of rows) (k + 1) 0 ≡ (get_or rows (k + 1) d).number = number_at rows (k + 1) d below in
    let order : get_or (numbers_of rows) k 0 < get_or (numbers_of rows) (k + 1) 0 = rises (numbers_of rows) k (k + 1) rise (omega arith) (omega (arith, as_many rows)) in
    ap is_lt (sym (nat_cmp_is (get_or rows (k + 1) d).number (get_or rows k d).number Greater (omega arith)))

-- a number that stands is found
pub not_missed : (rows : List LayerRow) (number i : ℕ) → IsStrictlyIncreasing (numbers_of rows) → StandsAmong rows number
    → IsBinarySearchResult (λ row. nat_cmp row.number number) rows (Err i) → ⊥
not_missed rows number i rise stands found =
    let point = found (searchable_from_sorted nat_cmp_total (λ (row : LayerRow). row.number) rows number (sorted_rows rows rise)) in
    let place = stands.0 in
    let below : place < length rows = omega (arith, as_many rows, stands.1) in
    let is : (get_or rows place no_row).number ≡ number =
    sym (number_at rows place no_row below) ∙ sym (get_or_default_zero (numbers_of rows) place number stands.1) ∙ stands.2 in
    let tied : Equal ≡ nat_cmp (get_or rows place no_row).number number = nat_cmp_is (get_or rows place no_row).number number Equal is in
    elim (cases_lt place i) [
      | inl first ↦ (let less : nat_cmp (get_or rows place no_row).number number ≡ Less = point.0 place no_row (omega arith) first in cc)
      | inr last ↦ (let more : nat_cmp (get_or rows place no_row).number number ≡ Greater = point.1 place no_row last below in cc)
    ]

pub found_number : (rows : List LayerRow) (number i : ℕ) → i < length rows → HoldsAt (λ row. nat_cmp row.number number ≡ Equal) rows i
    → get_or (numbers_of rows) i 0 ≡ number
found_number rows number i below equal = number_at rows i no_row below ∙ nat_cmp-IsAntisymmetric _ _ (equal no_row)
