use Rattle.std.proofs.Common.{◌≡◌, ◌≢◌, ◌∙◌, ap, ℕ, zero, suc, ◌+◌, ◌-◌, ◌<◌, ◌≤◌, List, get_or, arith, subst, inl, inr}
use Rattle.std.proofs.lemmas.Bool.{cases_lt}
use Rattle.ts_log.specs.Rising.{RisesBetween}

rises_by : (xs : List ℕ) (from to i d : ℕ) → RisesBetween xs from to → from ≤ i → i + suc d < to → get_or xs i 0 < get_or xs (i + suc d) 0
rises_by xs from to i zero h k l = h i k (omega arith)
rises_by xs from to i (suc d) h k l =
    let before : get_or xs i 0 < get_or xs (i + suc d) 0 = rises_by xs from to i d h k (omega arith) in
    let step : get_or xs (i + suc d) 0 < get_or xs (i + suc d + 1) 0 = h (i + suc d) (omega arith) (omega arith) in
    let place : i + suc d + 1 ≡ i + suc (suc d) = omega arith in
    subst (λ p. get_or xs i 0 < get_or xs p 0) place (let both : get_or xs i 0 < get_or xs (i + suc d + 1) 0 = omega arith in both)

-- among places where numbers rise, a later one has the greater number
pub rises : (xs : List ℕ) (from to i j : ℕ) → RisesBetween xs from to → from ≤ i → i < j → j < to → get_or xs i 0 < get_or xs j 0
rises xs from to i j h k l m =
    let place : i + suc (j - i - 1) ≡ j = omega arith in
    subst (λ p. get_or xs i 0 < get_or xs p 0) place (rises_by xs from to i (j - i - 1) h k (omega arith))

-- what is below a number at a place is below it at all earlier ones
pub below_here : (xs : List ℕ) (from to m x : ℕ) → RisesBetween xs from to → m < to → get_or xs m 0 < x
    → (k : ℕ) → from ≤ k → k < m + 1 → get_or xs k 0 < x
below_here xs from to m x h l b k f g =
    elim (cases_lt k m) [
      | inl e ↦ (let r : get_or xs k 0 < get_or xs m 0 = rises xs from to k m h f e l in omega arith)
      | inr e ↦ subst (λ p. get_or xs p 0 < x) (let p : m ≡ k = omega arith in p) b
    ]

-- and what is at least it there is at least it at all later ones
pub reached_here : (xs : List ℕ) (from to m x : ℕ) → RisesBetween xs from to → from ≤ m → x ≤ get_or xs m 0
    → (k : ℕ) → m ≤ k → k < to → x ≤ get_or xs k 0
reached_here xs from to m x h l b k f g =
    elim (cases_lt m k) [
      | inl e ↦ (let r : get_or xs m 0 < get_or xs k 0 = rises xs from to m k h l e g in omega arith)
      | inr e ↦ subst (λ p. x ≤ get_or xs p 0) (let p : m ≡ k = omega arith in p) b
    ]

-- so a number is at no place where it isn't at the first place whose number is at least it
pub absent_from : (xs : List ℕ) (from to m x : ℕ) → RisesBetween xs from to → from ≤ m
    → ((k : ℕ) → from ≤ k → k < m → get_or xs k 0 < x) → ((k : ℕ) → m ≤ k → k < to → x ≤ get_or xs k 0)
    → (m < to → get_or xs m 0 ≢ x) → (k : ℕ) → from ≤ k → k < to → get_or xs k 0 ≢ x
absent_from xs from to m x h l below reached other k f g =
    elim (cases_lt k m) [
      | inl e ↦ (λ same. let less : get_or xs k 0 < x = below k f e in omega arith)
      | inr e ↦
          elim (cases_lt m k) [
            | inl later ↦
                (λ same.
                let least : x ≤ get_or xs m 0 = reached m (omega arith) (omega arith) in
                let more : get_or xs m 0 < get_or xs k 0 = rises xs from to m k h l later g in
                omega arith)
            | inr here ↦ (λ same. let at : m ≡ k = omega arith in other (omega arith) (ap (λ p. get_or xs p 0) at ∙ same))
          ]
    ]
