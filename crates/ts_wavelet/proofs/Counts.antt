-- How many numbers there are with given top digits, and how the next digit parts them.
use Rattle.std.proofs.Common.{◌≡◌, ℕ, zero, suc, ◌+◌, ◌*◌, ◌/◌, ◌^◌, ◌<◌, ◌≤◌, eqb, ltb, List, [], ◌∷◌, length, take, get_or, refl, sym, ap, ◌∙◌, arith, inl, inr}
use Rattle.std.proofs.lemmas.Bool.{cases_lt, eq-eqb, ne_eqb, le-ltb}
use Rattle.std.proofs.lemmas.Bool.Decides.{nat_tests}
use Rattle.std.proofs.lemmas.List.{take_all}
use Rattle.std.proofs.lemmas.List.Sums.{count_by-le-length}
use Rattle.std.proofs.Math.Nat.{div-div-eq-div-mul, pow-suc, div-eq_of_lt}
use Rattle.std.specs.List.{count_by}
use Rattle.ts_wavelet.specs.Nodes.{lesser, among, digit_of}
use Rattle.ts_wavelet.proofs.Filters.{count-cons, count_sum, count_same, count_more}

-- a digit more is shifted out
pub half : (x r : ℕ) → x / 2 ^ suc r ≡ x / 2 ^ r / 2
half x r = ap (λ (m : ℕ). x / m) (pow-suc 2 r) ∙ sym (div-div-eq-div-mul x (2 ^ r) 2)

-- the tests of a half
half_is : (y v : ℕ) → digit_of (eqb (y / 2) v) ≡ digit_of (eqb y (2 * v)) + digit_of (eqb y (2 * v + 1))
half_is y v = grind (arith, nat_tests)

half_below : (y v : ℕ) → digit_of (ltb (y / 2) v) ≡ digit_of (ltb y (2 * v))
half_below y v = grind (arith, nat_tests)

below_more : (y v : ℕ) → digit_of (ltb y (v + 1)) ≡ digit_of (ltb y v) + digit_of (eqb y v)
below_more y v = grind (arith, nat_tests)

-- the numbers of a node are those of its two parts
pub among_split : (xs : List ℕ) (r v j : ℕ) → among xs (suc r) v j ≡ among xs r (2 * v) j + among xs r (2 * v + 1) j
among_split xs r v j =
    count_sum (λ x. eqb (x / 2 ^ suc r) v) (λ x. eqb (x / 2 ^ r) (2 * v)) (λ x. eqb (x / 2 ^ r) (2 * v + 1))
    (λ x. ap (λ (y : ℕ). digit_of (eqb y v)) (half x r) ∙ half_is (x / 2 ^ r) v) (take j xs)

-- those below stay below
pub lesser_even : (xs : List ℕ) (r v : ℕ) → lesser xs (suc r) v ≡ lesser xs r (2 * v)
lesser_even xs r v =
    count_same (λ x. ltb (x / 2 ^ suc r) v) (λ x. ltb (x / 2 ^ r) (2 * v))
    (λ x. ap (λ (y : ℕ). digit_of (ltb y v)) (half x r) ∙ half_below (x / 2 ^ r) v) xs

-- those below the next
pub lesser_more : (xs : List ℕ) (s v : ℕ) → lesser xs s (v + 1) ≡ lesser xs s v + among xs s v (length xs)
lesser_more xs s v =
    count_sum (λ x. ltb (x / 2 ^ s) (v + 1)) (λ x. ltb (x / 2 ^ s) v) (λ x. eqb (x / 2 ^ s) v) (λ x. below_more (x / 2 ^ s) v) xs
    ∙ ap (λ ys. lesser xs s v + count_by (λ x. eqb (x / 2 ^ s) v) ys) (sym (take_all (length xs) xs (omega arith)))

-- no more numbers than there are
pub lesser-le : (xs : List ℕ) (s v : ℕ) → lesser xs s v ≤ length xs
lesser-le xs s v = count_by-le-length (λ x. ltb (x / 2 ^ s) v) xs

-- one number more
pub among_more : (xs : List ℕ) (s v j : ℕ) → j < length xs → among xs s v (j + 1) ≡ among xs s v j + digit_of (eqb (get_or xs j 0 / 2 ^ s) v)
among_more xs s v j h = count_more (λ x. eqb (x / 2 ^ s) v) xs j 0 h

pub among_more_yes : (xs : List ℕ) (s v j : ℕ) → j < length xs → get_or xs j 0 / 2 ^ s ≡ v → among xs s v (j + 1) ≡ among xs s v j + 1
among_more_yes xs s v j h is = among_more xs s v j h ∙ ap (λ b. among xs s v j + digit_of b) (eq-eqb _ v is)

pub among_more_no : (xs : List ℕ) (s v j : ℕ) → j < length xs → (get_or xs j 0 / 2 ^ s ≡ v → ⊥) → among xs s v (j + 1) ≡ among xs s v j
among_more_no xs s v j h is = among_more xs s v j h ∙ ap (λ b. among xs s v j + digit_of b) (ne_eqb _ v is) ∙ omega arith

-- an earlier front has no more
pub among_mono : (xs : List ℕ) (s v j k : ℕ) → k ≤ length xs → j ≤ k → among xs s v j ≤ among xs s v k
among_mono xs s v j zero within h = let e : j ≡ 0 = omega arith in rw e (omega arith)
among_mono xs s v j (suc k) within h = elim (cases_lt k j) [
  | inl last ↦ let e : j ≡ suc k = omega arith in rw e (omega arith)
  | inr more ↦
      let ih = among_mono xs s v j k (omega arith) more in
      let step = among_more xs s v k (omega arith) in
      let e : k + 1 ≡ suc k = omega arith in
      let same = ap (among xs s v) e in
      omega (arith, ih, step, same)
]

-- nothing before the first number
pub among-zero : (xs : List ℕ) (s v : ℕ) → among xs s v 0 ≡ 0
among-zero xs s v = refl

-- the numbers of a node end within the level
pub node_within : (xs : List ℕ) (s v j : ℕ) → j ≤ length xs → lesser xs s v + among xs s v j ≤ length xs
node_within xs s v j h =
    omega (arith, lesser_more xs s v, lesser-le xs s (v + 1), among_mono xs s v j (length xs) (omega arith) h)

-- all numbers agree in no digits
pub among_all : (xs : List ℕ) (s j : ℕ) → ((k : ℕ) → get_or xs k 0 < 2 ^ s) → j ≤ length xs → among xs s 0 j ≡ j
among_all xs s zero fits h = refl
among_all xs s (suc j) fits h =
    let ih = among_all xs s j fits (omega arith) in
    let e : j + 1 ≡ suc j = omega arith in
    ap (among xs s 0) (sym e) ∙ among_more_yes xs s 0 j (omega arith) (div-eq_of_lt (fits j)) ∙ omega (arith, ih)

-- and none is below
pub lesser-zero : (xs : List ℕ) (s : ℕ) → lesser xs s 0 ≡ 0
lesser-zero [] s = refl
lesser-zero (x ∷ xs) s =
    let ih = lesser-zero xs s in
    let none : digit_of (ltb (x / 2 ^ s) 0) ≡ 0 = ap (λ b. digit_of b) (le-ltb (x / 2 ^ s) 0 (omega arith)) in
    omega (arith, count-cons (λ y. ltb (y / 2 ^ s) 0) x xs, ih, none)
