use Rattle.std.proofs.Common.{◌≡◌, ℕ, zero, suc, ◌+◌, ◌*◌, ◌/◌, ◌%◌, ◌^◌, ◌<◌, List, [], ◌∷◌, length, take, drop, refl, sym, ◌∙◌, ap, arith, length-append}
use Rattle.std.proofs.Math.Nat.{mod-eq_of_lt}
use Rattle.std.proofs.lemmas.Nat.{pow-add, mod-pow-add, mod_below}
use Rattle.std.proofs.lemmas.List.{take-append-drop, length-drop, length-take-le}
use Rattle.std.specs.List.{flat_map}
use Rattle.std.specs.Int.Digits.{number_from_digits, number_from_digits_after}
use Rattle.ts_log.specs.BinaryDigits.{binary_digits, bytes_of_digits}
use Rattle.ts_log.specs.Groups.{joined}
use Rattle.ts_log.proofs.GroupsLemmas.{Below, Below-append, Below-take, Below-drop, joined-append, joined-lt}

pub length-binary_digits : (n x : ℕ) → length (binary_digits n x) ≡ n
unfolding binary_digits
length-binary_digits zero x = refl
length-binary_digits (suc n) x = ap suc (length-binary_digits n x)

pub Below-binary_digits : (n x : ℕ) → Below 2 (binary_digits n x)
unfolding binary_digits
Below-binary_digits zero x = tt
Below-binary_digits (suc n) x = (mod_below (x / 2 ^ n) 2 (omega arith), Below-binary_digits n x)

-- the lowest digits of a number make what is left of it by that power
pub joined-binary_digits : (n x : ℕ) → joined 1 (binary_digits n x) ≡ x % 2 ^ n
unfolding binary_digits joined
joined-binary_digits zero x = omega arith
joined-binary_digits (suc n) x =
    let many : 1 * length (binary_digits n x) ≡ n = omega (arith, length-binary_digits n x) in
    rw (many, joined-binary_digits n x)
    (sym (ap (λ p. x % 2 ^ p) (let e : suc n ≡ 1 + n = omega arith in e) ∙ mod-pow-add x 1 n))

-- the number that binary digits write is the number that they make
number_after-joined : (n : ℕ) (ds : List ℕ) → number_from_digits_after 2 n ds ≡ n * 2 ^ length ds + joined 1 ds
unfolding joined
number_after-joined n [] = omega arith
number_after-joined n (d ∷ ds) =
    let more : suc (length ds) ≡ 1 + length ds = omega arith in
    let p : 2 ^ suc (length ds) ≡ 2 * 2 ^ length ds = ap (λ n. 2 ^ n) more ∙ pow-add 2 1 (length ds) in
    let q : 1 * length ds ≡ length ds = omega arith in
    number_after-joined (n * 2 + d) ds ∙ rw (p, q) (grind arith)

pub number-joined : (ds : List ℕ) → number_from_digits 2 ds ≡ joined 1 ds
number-joined ds = number_after-joined 0 ds ∙ omega arith

-- the digits of numbers, one after another, make the number that the numbers make
pub length-flat_digits : (w : ℕ) (xs : List ℕ) → length (flat_map (binary_digits w) xs) ≡ w * length xs
length-flat_digits w [] = omega arith
length-flat_digits w (x ∷ xs) =
    omega (arith, length-append (binary_digits w x) (flat_map (binary_digits w) xs), length-binary_digits w x, length-flat_digits w xs)

pub Below-flat_digits : (w : ℕ) (xs : List ℕ) → Below 2 (flat_map (binary_digits w) xs)
Below-flat_digits w [] = tt
Below-flat_digits w (x ∷ xs) = Below-append 2 (binary_digits w x) (flat_map (binary_digits w) xs) (Below-binary_digits w x) (Below-flat_digits w xs)

pub joined-flat_digits : (w : ℕ) (xs : List ℕ) → Below (2 ^ w) xs → joined 1 (flat_map (binary_digits w) xs) ≡ joined w xs
unfolding joined
joined-flat_digits w [] h = refl
joined-flat_digits w (x ∷ xs) h =
    let many : 1 * length (flat_map (binary_digits w) xs) ≡ w * length xs = omega (arith, length-flat_digits w xs) in
    joined-append 1 (binary_digits w x) (flat_map (binary_digits w) xs)
    ∙ rw (joined-binary_digits w x, mod-eq_of_lt h.0, many, joined-flat_digits w xs h.1) refl

pub length-bytes_of_digits : (n : ℕ) (ds : List ℕ) → length (bytes_of_digits n ds) ≡ n
unfolding bytes_of_digits
length-bytes_of_digits zero ds = refl
length-bytes_of_digits (suc n) ds = ap suc (length-bytes_of_digits n (drop 8 ds))

pub Below-bytes_of_digits : (n : ℕ) (ds : List ℕ) → Below 2 ds → length ds ≡ 8 * n → Below (2 ^ 8) (bytes_of_digits n ds)
unfolding bytes_of_digits
Below-bytes_of_digits zero ds h l = tt
Below-bytes_of_digits (suc n) ds h l =
    let many : length (take 8 ds) ≡ 8 = length-take-le 8 ds (omega arith) in
    let small : joined 1 (take 8 ds) < 2 ^ (1 * length (take 8 ds)) = joined-lt 1 (take 8 ds) (Below-take 2 8 ds h) in
    let byte : number_from_digits 2 (take 8 ds) < 2 ^ 8 =
    rw (number-joined (take 8 ds)) (rw many at small) in
    (byte, Below-bytes_of_digits n (drop 8 ds) (Below-drop 2 8 ds h) (omega (arith, length-drop 8 ds)))

pub joined-bytes_of_digits : (n : ℕ) (ds : List ℕ) → length ds ≡ 8 * n → joined 8 (bytes_of_digits n ds) ≡ joined 1 ds
unfolding bytes_of_digits joined
joined-bytes_of_digits zero [] l = refl
joined-bytes_of_digits zero (d ∷ ds) l = absurd (omega arith)
joined-bytes_of_digits (suc n) ds l =
    let rest : length (drop 8 ds) ≡ 8 * n = omega (arith, length-drop 8 ds) in
    let place : 1 * length (drop 8 ds) ≡ 8 * length (bytes_of_digits n (drop 8 ds)) =
    omega (arith, length-bytes_of_digits n (drop 8 ds)) in
    let whole : joined 1 ds ≡ joined 1 (take 8 ds) * 2 ^ (1 * length (drop 8 ds)) + joined 1 (drop 8 ds) =
    ap (joined 1) (sym (take-append-drop 8 ds)) ∙ joined-append 1 (take 8 ds) (drop 8 ds) in
    sym (whole ∙ rw (place, ← number-joined (take 8 ds), ← joined-bytes_of_digits n (drop 8 ds) rest) refl)
