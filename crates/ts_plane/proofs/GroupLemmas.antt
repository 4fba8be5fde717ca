-- Groups of neighbours with one key, by the marks of their last elements.
use Rattle.std.proofs.Common.{◌≡◌, ℕ, zero, suc, ◌+◌, ◌<◌, ◌≤◌, Bool, true, false, not, List, [], ◌∷◌, length, get_or, refl, sym, ◌∙◌, ap, arith, inl, inr}
use Rattle.std.proofs.lemmas.Bool.{cases_Bool, cond-true, cond-false}
use Rattle.std.specs.List.{dedup, dedup_from}
use Rattle.ts_bits.specs.Rank.{rank}
use Rattle.ts_bits.proofs.Ranks.{digit_of, rank-add}
use Rattle.ts_plane.specs.Groups.{marks_from, last_marks}

first_one : (c : Bool) (cs : List Bool) → rank (c ∷ cs) 1 ≡ digit_of c
first_one true cs = refl
first_one false cs = refl

-- the ones of a longer list
pub rank_cons : (b : Bool) (bits : List Bool) (j : ℕ) → rank (b ∷ bits) (suc j) ≡ digit_of b + rank bits j
rank_cons b bits j =
    let e : suc j ≡ 1 + j = omega arith in
    let first : rank (b ∷ bits) 1 ≡ digit_of b = first_one b bits in
    ap (rank (b ∷ bits)) e ∙ rank-add (b ∷ bits) 1 j ∙ ap (λ n. n + rank bits j) first

pub length-marks_from : {K : Type 0} (same : K → K → Bool) (k : K) (xs : List K) → length (marks_from same k xs) ≡ suc (length xs)
unfolding marks_from
length-marks_from same k [] = refl
length-marks_from same k (x ∷ xs) = ap suc (length-marks_from same x xs)

-- what a group is kept by is its first element
pub first_kept : {K : Type 0} (same : K → K → Bool) (k : K) (xs : List K) (d : K) → get_or (dedup_from same k xs) 0 d ≡ k
first_kept same k [] d = refl
first_kept same k (x ∷ xs) d = elim (cases_Bool (same x k)) [
  | inl is_same ↦ ap (λ l. get_or l 0 d) (cond-true (same x k) (dedup_from same k xs) (k ∷ dedup_from same x xs) is_same) ∙ first_kept same k xs d
  | inr other ↦ ap (λ l. get_or l 0 d) (cond-false (same x k) (dedup_from same k xs) (k ∷ dedup_from same x xs) other)
]

-- as many groups as marks before an element: the key there is the element's
pub kept_at : {K : Type 0} (same : K → K → Bool) → ((a b : K) → same a b ≡ true → a ≡ b) → (k : K) (xs : List K) (j : ℕ) (d : K)
    → j ≤ length xs → get_or (dedup_from same k xs) (rank (marks_from same k xs) j) d ≡ get_or (k ∷ xs) j d
unfolding marks_from
kept_at same equal k xs zero d h = first_kept same k xs d
kept_at same equal k [] (suc j) d h = absurd (omega arith)
kept_at same equal k (x ∷ xs) (suc j) d h =
    let rest = kept_at same equal x xs j d (omega arith) in
    let counted : rank (marks_from same k (x ∷ xs)) (suc j) ≡ digit_of (not (same x k)) + rank (marks_from same x xs) j =
    rank_cons (not (same x k)) (marks_from same x xs) j in
    elim (cases_Bool (same x k)) [
      | inl is_same ↦
          let none : digit_of (not (same x k)) ≡ 0 = ap (λ b. digit_of (not b)) is_same in
          let there : rank (marks_from same k (x ∷ xs)) (suc j) ≡ rank (marks_from same x xs) j = omega (arith, counted, none) in
          ap (λ n. get_or (dedup_from same k (x ∷ xs)) n d) there
          ∙ ap (λ l. get_or l (rank (marks_from same x xs) j) d)
          (cond-true (same x k) (dedup_from same k xs) (k ∷ dedup_from same x xs) is_same ∙ ap (λ y. dedup_from same y xs) (sym (equal x k is_same)))
          ∙ rest
      | inr other ↦
          let one : digit_of (not (same x k)) ≡ 1 = ap (λ b. digit_of (not b)) other in
          let there : rank (marks_from same k (x ∷ xs)) (suc j) ≡ suc (rank (marks_from same x xs) j) = omega (arith, counted, one) in
          ap (λ n. get_or (dedup_from same k (x ∷ xs)) n d) there
          ∙ ap (λ l. get_or l (suc (rank (marks_from same x xs) j)) d) (cond-false (same x k) (dedup_from same k xs) (k ∷ dedup_from same x xs) other)
          ∙ rest
    ]

-- the same of a whole list: the row of an element by the marks is the place of its key among the distinct
pub distinct_at : {K : Type 0} (same : K → K → Bool) → ((a b : K) → same a b ≡ true → a ≡ b) → (xs : List K) (j : ℕ) (d : K)
    → j < length xs → get_or (dedup same xs) (rank (last_marks same xs) j) d ≡ get_or xs j d
unfolding last_marks
distinct_at same equal [] j d h = absurd (omega arith)
distinct_at same equal (x ∷ xs) j d h = kept_at same equal x xs j d (omega arith)
