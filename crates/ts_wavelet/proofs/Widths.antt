-- How many digits the greatest number has.
use Rattle.std.proofs.Common.{◌≡◌, ℕ, suc, ◌+◌, ◌-◌, ◌^◌, ◌<◌, ◌≤◌, List, length, get_or, refl, sym, ap, subst, arith, inl, inr}
use Rattle.std.proofs.lemmas.Bool.{cases_lt}
use Rattle.std.proofs.lemmas.List.{get_or_default}
use Rattle.std.proofs.lemmas.Nat.{leading_top}
use lib.Count.{count_leading_zeros}
use Rattle.ts_wavelet.specs.WaveletTree.{IsWidth}

-- the greatest of the first i numbers, and 0 where there is none
pub record IsGreatest (xs : List ℕ) (i greatest : ℕ) : Type 0 where
  pub most : (j : ℕ) → j < i → get_or xs j 0 ≤ greatest
  pub met : 0 < greatest → (j : ℕ) × (j < i) × (get_or xs j 0 ≡ greatest)

pub greatest_none : (xs : List ℕ) → IsGreatest xs 0 0
greatest_none xs = record { most = λ j h. absurd (omega arith); met = λ h. absurd (omega arith) }

pub greatest_takes : (xs : List ℕ) (i greatest : ℕ) → IsGreatest xs i greatest → greatest < get_or xs i 0 → IsGreatest xs (i + 1) (get_or xs i 0)
greatest_takes xs i greatest is more = record {
  most = λ j h. elim (cases_lt j i) [
    | inl before ↦ omega (arith, is.most j before)
    | inr here ↦ let e : j ≡ i = omega arith in rw e (omega arith)
  ];
  met = λ _. (i, omega arith, refl);
}

pub greatest_keeps : (xs : List ℕ) (i greatest : ℕ) → IsGreatest xs i greatest → get_or xs i 0 ≤ greatest → IsGreatest xs (i + 1) greatest
greatest_keeps xs i greatest is less = record {
  most = λ j h. elim (cases_lt j i) [
    | inl before ↦ is.most j before
    | inr here ↦ let e : j ≡ i = omega arith in rw e less
  ];
  met = λ some. let at = is.met some in (at.0, omega (arith, at.1), at.2);
}

pub width_zero : (xs : List ℕ) (i : ℕ) → length xs ≤ i → IsGreatest xs i 0 → IsWidth 1 xs
width_zero xs i all is = record {
  some = omega arith;
  fits = λ j d h. rw (get_or_default xs j d 0 h) (omega (arith, is.most j (omega arith)));
  least = λ more. absurd (omega arith);
}

pub width_is : (xs : List ℕ) (i greatest width : ℕ) → length xs ≤ i → i ≤ length xs → IsGreatest xs i greatest → 0 < greatest → greatest < 2 ^ 64
    → width ≡ 64 - count_leading_zeros 64 greatest → IsWidth width xs
width_is xs i greatest width all within is some fits e =
    let top = leading_top 64 greatest some fits in
    let w : width ≡ suc top.0 = omega (arith, e, top.1) in
    let high : greatest < 2 ^ suc top.0 = top.3 in
    let low : 2 ^ top.0 ≤ greatest = top.2 in
    let at = is.met some in
    subst (λ (w : ℕ). IsWidth w xs) (sym w) (record {
      some = omega arith;
      fits = λ j d h. rw (get_or_default xs j d 0 h) (omega (arith, is.most j (omega arith), high));
      least = λ more none. let below = none at.0 0 (omega (arith, at.1)) in let same : 2 ^ (suc top.0 - 1) ≡ 2 ^ top.0 = ap (λ (m : ℕ). 2 ^ m) (omega arith) in omega (arith, at.2, low, below, same);
    })

-- it is one of the numbers, or 0
pub greatest_fits : (xs : List ℕ) (i greatest : ℕ) → IsGreatest xs i greatest → ((j : ℕ) → get_or xs j 0 < 2 ^ 64) → greatest < 2 ^ 64
greatest_fits xs i greatest is fits = elim (cases_lt 0 greatest) [
  | inl some ↦ let at = is.met some in omega (arith, at.2, fits at.0)
  | inr none ↦ omega arith
]
