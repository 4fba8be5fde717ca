-- Laws of `rank` and of the places of ones, which the crates above cite too.
use Rattle.std.proofs.Common.{◌≡◌, ℕ, zero, suc, ◌+◌, ◌-◌, ◌<◌, ◌≤◌, Bool, true, false, cond, Some, List, [], ◌∷◌, ◌++◌, length, take, drop, get_or, refl, sym, ap, ◌∙◌, arith, inl, inr}
use Rattle.std.proofs.lemmas.Bool.{cases_lt, cases_Bool, cases_order}
use Rattle.std.proofs.lemmas.List.{take_all, length-take}
use Rattle.std.proofs.lemmas.List.Sums.{sum_by-append, sum_by_more, count_by-le-length}
use Rattle.std.proofs.lemmas.Option.{slice_get-get_or, slice_get_within, get_or_from_slice_get}
use Rattle.ts_bits.specs.Rank.{ones, rank}
use Rattle.ts_bits.specs.Select.{IsPlaceOfOne}

-- a bit as a digit
abbrev pub digit_of : Bool → ℕ
digit_of bit = cond bit 1 0

-- one more part of a list
pub take-add : {X : Type 0} (m n : ℕ) (xs : List X) → take (m + n) xs ≡ take m xs ++ take n (drop m xs)
take-add zero n xs = let e : 0 + n ≡ n = omega arith in rw e refl
take-add {X} (suc m) n [] = take_all {A = X} (suc m + n) [] (omega arith) ∙ sym (take_all {A = X} n [] (omega arith))
take-add (suc m) n (x ∷ xs) = let e : suc m + n ≡ suc (m + n) = omega arith in rw e (ap (λ ys. x ∷ ys) (take-add m n xs))

-- the ones of a front and of what follows
pub rank-add : (bits : List Bool) (m n : ℕ) → rank bits (m + n) ≡ rank bits m + rank (drop m bits) n
rank-add bits m n = ap ones (take-add m n bits) ∙ sum_by-append digit_of (take m bits) (take n (drop m bits))

-- no more ones than places
pub rank-le : (bits : List Bool) (i : ℕ) → rank bits i ≤ i
rank-le bits i = omega (arith, count_by-le-length (λ bit. bit) (take i bits), length-take i bits)

pub rank-le-length : (bits : List Bool) (i : ℕ) → rank bits i ≤ length bits
rank-le-length bits i = omega (arith, count_by-le-length (λ bit. bit) (take i bits), length-take i bits)

-- a longer front has no fewer ones, and at most as many more as it has places more
pub rank-mono : (bits : List Bool) (i j : ℕ) → i ≤ j → (rank bits i ≤ rank bits j) × (rank bits j ≤ rank bits i + (j - i))
rank-mono bits i j h =
    let e : j ≡ i + (j - i) = omega arith in
    let add : rank bits j ≡ rank bits i + rank (drop i bits) (j - i) = ap (rank bits) e ∙ rank-add bits i (j - i) in
    let most = rank-le (drop i bits) (j - i) in
    (omega arith, omega arith)

-- a front that reaches the end has all ones
pub rank_whole : (bits : List Bool) (i : ℕ) → length bits ≤ i → rank bits i ≡ ones bits
rank_whole bits i h = ap ones (take_all i bits h)

-- the place behind which the ones are more than n
pub place_is : (bits : List Bool) (n place : ℕ) → rank bits place ≤ n → n < rank bits (place + 1) → IsPlaceOfOne bits n place
place_is bits n place low high = elim (cases_lt place (length bits)) [
  | inl within ↦
      let more = sum_by_more digit_of bits place false within in
      elim (cases_Bool (get_or bits place false)) [
        | inl is_one ↦
            let digit : digit_of (get_or bits place false) ≡ 1 = ap digit_of is_one in
            record {
              one = slice_get-get_or bits place false within ∙ ap (λ (b : Bool). Some b) is_one;
              before = omega (arith, more, digit);
            }
        | inr is_zero ↦
            let digit : digit_of (get_or bits place false) ≡ 0 = ap digit_of is_zero in
            absurd (omega (arith, more, digit))
      ]
  | inr behind ↦
      let here = rank_whole bits place behind in
      let next = rank_whole bits (place + 1) (omega arith) in
      absurd (omega (arith, here, next))
]

-- one place more
pub rank_more : (bits : List Bool) (place : ℕ) → place < length bits → rank bits (place + 1) ≡ rank bits place + digit_of (get_or bits place false)
rank_more bits place within = sum_by_more digit_of bits place false within

-- a one stands within the bits
pub place_within : (bits : List Bool) (n place : ℕ) → IsPlaceOfOne bits n place → place < length bits
place_within bits n place is = slice_get_within bits place true is.one

-- behind the place of a one there is one more
pub rank_after_place : (bits : List Bool) (n place : ℕ) → IsPlaceOfOne bits n place → rank bits (place + 1) ≡ n + 1
rank_after_place bits n place is =
    let digit : digit_of (get_or bits place false) ≡ 1 = ap digit_of (get_or_from_slice_get bits place true false is.one) in
    omega (arith, rank_more bits place (place_within bits n place is), digit, is.before)

-- later ones stand at later places
pub place_rises : (bits : List Bool) (m n p q : ℕ) → IsPlaceOfOne bits m p → IsPlaceOfOne bits n q → m < n → p < q
place_rises bits m n p q is_p is_q h = elim (cases_lt p q) [
  | inl lower ↦ lower
  | inr upper ↦
      let mono = rank-mono bits q p upper in
      absurd (omega (arith, mono.0, is_p.before, is_q.before))
]

-- there is one place for each number of ones before it
pub place_only : (bits : List Bool) (n p q : ℕ) → IsPlaceOfOne bits n p → IsPlaceOfOne bits n q → p ≡ q
place_only bits n p q is_p is_q = elim (cases_order p q) [
  | inl same ↦ same
  | inr other ↦ elim other [
    | inl lower ↦
        let mono = rank-mono bits (p + 1) q (omega arith) in
        absurd (omega (arith, mono.0, rank_after_place bits n p is_p, is_q.before))
    | inr upper ↦
        let mono = rank-mono bits (q + 1) p (omega arith) in
        absurd (omega (arith, mono.0, rank_after_place bits n q is_q, is_p.before))
  ]
]
