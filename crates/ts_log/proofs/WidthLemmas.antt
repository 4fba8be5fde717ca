use Rattle.std.proofs.Common.{◌≡◌, ℕ, zero, suc, ◌-◌, ◌^◌, ◌<◌, ◌≤◌, max, List, [], ◌∷◌, ◌++◌, length, get_or, ◌⊎◌, inl, inr, subst, arith}
use Rattle.std.specs.Int.Digits.{digits_of, number_from_digits}
use Rattle.std.proofs.Math.Nat.{pow-le-pow_right}
use Rattle.std.proofs.lemmas.Bool.{cases_lt}
use Rattle.std.proofs.lemmas.Int.Digits.{length-digits_of-le, all_below_base_digits_of, number_lt, number_digits_of}
use Rattle.ts_log.specs.LogArray.{greatest, width_of}
use Rattle.ts_log.proofs.GroupsLemmas.{Below, Below-from_get_or}

-- a number is below two to the number of its digits
below_digits : (n : ℕ) → n < 2 ^ length (digits_of 2 n)
below_digits n =
    let small : number_from_digits 2 (digits_of 2 n) < 2 ^ length (digits_of 2 n) =
    number_lt 2 (digits_of 2 n) (all_below_base_digits_of 2 n (omega arith)) in
    subst (λ m. m < 2 ^ length (digits_of 2 n)) (number_digits_of 2 n (omega arith)) small

pow_mono : (i j : ℕ) → i ≤ j → 2 ^ i ≤ 2 ^ j
pow_mono i j h = pow-le-pow_right {n = 2} (omega arith) h

pub le_greatest : (xs : List ℕ) (i : ℕ) → i < length xs → get_or xs i 0 ≤ greatest xs
unfolding greatest
le_greatest [] i h = absurd (omega arith)
le_greatest (x ∷ xs) zero h = omega arith
le_greatest (x ∷ xs) (suc i) h = omega (arith, le_greatest xs i (omega arith))

pub greatest_lt : (b : ℕ) (xs : List ℕ) → 0 < b → Below b xs → greatest xs < b
unfolding greatest
greatest_lt b [] p h = p
greatest_lt b (x ∷ xs) p h = omega (arith, greatest_lt b xs p h.1, h.0)

-- the greatest number stands in the list, unless it is 0
pub greatest_stands : (xs : List ℕ) → 0 < greatest xs → (i : ℕ) × ((i < length xs) × (get_or xs i 0 ≡ greatest xs))
unfolding greatest
greatest_stands [] p = absurd (omega arith)
greatest_stands (x ∷ xs) p =
    elim (cases_lt (greatest xs) x) [
      | inl h ↦ (0, (omega arith, omega arith))
      | inr h ↦
          let rest : (i : ℕ) × ((i < length xs) × (get_or xs i 0 ≡ greatest xs)) = greatest_stands xs (omega arith) in
          (suc rest.0, (omega (arith, rest.1.0), omega (arith, rest.1.1)))
    ]

pub width_pos : (xs : List ℕ) → 1 ≤ width_of xs
unfolding width_of
width_pos xs = omega arith

pub greatest_below_width : (xs : List ℕ) → greatest xs < 2 ^ width_of xs
unfolding width_of
greatest_below_width xs =
    let digits : ℕ = length (digits_of 2 (greatest xs)) in
    omega (arith, below_digits (greatest xs), pow_mono digits (max 1 digits) (omega arith))

-- the elements fit the width
pub Below_width : (xs : List ℕ) → Below (2 ^ width_of xs) xs
Below_width xs =
    Below-from_get_or (2 ^ width_of xs) xs (λ i h. omega (arith, le_greatest xs i h, greatest_below_width xs))

-- and no list of numbers below a power of two needs more digits
pub width_le : (w : ℕ) (xs : List ℕ) → 1 ≤ w → greatest xs < 2 ^ w → width_of xs ≤ w
unfolding width_of
width_le w xs p h = omega (arith, length-digits_of-le 2 w (greatest xs) (omega arith) h)

-- where the width is above 1, the greatest number uses it whole
pub width_needed : (xs : List ℕ) → 1 < width_of xs → 2 ^ (width_of xs - 1) ≤ greatest xs
width_needed xs h =
    elim (cases_lt (greatest xs) (2 ^ (width_of xs - 1))) [
      | inl small ↦ absurd (omega (arith, width_le (width_of xs - 1) xs (omega arith) small))
      | inr large ↦ large
    ]

-- a width that the elements fit and need is the width
pub width_is : (w : ℕ) (xs : List ℕ) → 1 ≤ w → Below (2 ^ w) xs
    → (w ≡ 1) ⊎ ((i : ℕ) × ((i < length xs) × (2 ^ (w - 1) ≤ get_or xs i 0))) → width_of xs ≡ w
width_is w xs p h (inl one) =
    omega (arith, width_pos xs, width_le w xs p (greatest_lt (2 ^ w) xs (omega (arith, pow_mono 0 w (omega arith))) h))
width_is w xs p h (inr needs) =
    let upper : width_of xs ≤ w = width_le w xs p (greatest_lt (2 ^ w) xs (omega (arith, pow_mono 0 w (omega arith))) h) in
    let reached : 2 ^ (w - 1) ≤ greatest xs = omega (arith, needs.1.1, le_greatest xs needs.0 needs.1.0) in
    elim (cases_lt (width_of xs) w) [
      | inl less ↦ absurd (omega (arith, greatest_below_width xs, pow_mono (width_of xs) (w - 1) (omega arith)))
      | inr same ↦ omega arith
    ]

-- a width that the greatest number fills
pub width_by_greatest : (j : ℕ) (xs : List ℕ) → greatest xs < 2 ^ suc j → 2 ^ j ≤ greatest xs → width_of xs ≡ suc j
width_by_greatest j xs below above =
    let upper : width_of xs ≤ suc j = width_le (suc j) xs (omega arith) below in
    elim (cases_lt (width_of xs) (suc j)) [
      | inl less ↦ absurd (omega (arith, greatest_below_width xs, pow_mono (width_of xs) j (omega arith)))
      | inr same ↦ omega arith
    ]

pub width_of_zeros : (xs : List ℕ) → greatest xs ≡ 0 → width_of xs ≡ 1
width_of_zeros xs e = omega (arith, width_pos xs, width_le 1 xs (omega arith) (omega arith))

pub greatest_push : (xs : List ℕ) (x : ℕ) → greatest (xs ++ x ∷ []) ≡ max (greatest xs) x
unfolding greatest
greatest_push [] x = omega arith
greatest_push (y ∷ xs) x = omega (arith, greatest_push xs x)

pub greatest_fits : (xs : List ℕ) → ((i : ℕ) → get_or xs i 0 < 2 ^ 64) → greatest xs < 2 ^ 64
greatest_fits xs h = greatest_lt (2 ^ 64) xs (omega arith) (Below-from_get_or (2 ^ 64) xs (λ i k. h i))

pub width_of_words : (xs : List ℕ) → ((i : ℕ) → get_or xs i 0 < 2 ^ 64) → width_of xs ≤ 64
width_of_words xs h = width_le 64 xs (omega arith) (greatest_fits xs h)
