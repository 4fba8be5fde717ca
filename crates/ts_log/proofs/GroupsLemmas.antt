use Rattle.std.proofs.Common.{◌≡◌, ℕ, zero, suc, ◌+◌, ◌-◌, ◌*◌, ◌/◌, ◌%◌, ◌^◌, ◌<◌, ◌≤◌, List, [], ◌∷◌, ◌++◌, length, get_or, take, drop, replicate, refl, sym, ◌∙◌, ap, arith, length-append, append_assoc}
use Rattle.std.specs.Prelude.{All}
use Rattle.std.proofs.Math.Nat.{mod-eq_of_lt}
use Rattle.std.proofs.lemmas.Nat.{pow_pos, pow-add, shr_split, mod-pow-add, field_of, shr_high, mod_low, mod_below, shr_below, mul-add-lt}
use Rattle.std.proofs.lemmas.List.{take-append-drop, length-drop, length-take-le}
use Rattle.ts_log.specs.Groups.{groups, joined}

-- each number is below b
abbrev pub Below : ℕ → List ℕ → Type 0
Below b [] = Unit {0}
Below b (x ∷ xs) = (x < b) × Below b xs

pub Below-append : (b : ℕ) (xs ys : List ℕ) → Below b xs → Below b ys → Below b (xs ++ ys)
Below-append b [] ys h k = k
Below-append b (x ∷ xs) ys h k = (h.0, Below-append b xs ys h.1 k)

pub Below-take : (b n : ℕ) (xs : List ℕ) → Below b xs → Below b (take n xs)
Below-take b zero xs h = tt
Below-take b (suc n) [] h = tt
Below-take b (suc n) (x ∷ xs) h = (h.0, Below-take b n xs h.1)

pub Below-drop : (b n : ℕ) (xs : List ℕ) → Below b xs → Below b (drop n xs)
Below-drop b zero xs h = h
Below-drop b (suc n) [] h = tt
Below-drop b (suc n) (x ∷ xs) h = Below-drop b n xs h.1

pub Below-replicate : (b n x : ℕ) → x < b → Below b (replicate n x)
Below-replicate b zero x h = tt
Below-replicate b (suc n) x h = (h, Below-replicate b n x h)

pub Below-get_or : (b : ℕ) (xs : List ℕ) (i : ℕ) → Below b xs → i < length xs → get_or xs i 0 < b
Below-get_or b [] i h k = absurd (omega arith)
Below-get_or b (x ∷ xs) zero h k = h.0
Below-get_or b (x ∷ xs) (suc i) h k = Below-get_or b xs i h.1 (omega arith)

pub Below-from_get_or : (b : ℕ) (xs : List ℕ) → ((i : ℕ) → i < length xs → get_or xs i 0 < b) → Below b xs
Below-from_get_or b [] h = tt
Below-from_get_or b (x ∷ xs) h = (h 0 (omega arith), Below-from_get_or b xs (λ i k. h (suc i) (omega arith)))

-- so each is, in std's word
pub Below-All : (b : ℕ) (xs : List ℕ) → Below b xs → All (λ x. x < b) xs
Below-All b [] h k d l = absurd (omega arith)
Below-All b (x ∷ xs) h zero d l = h.0
Below-All b (x ∷ xs) h (suc k) d l = Below-All b xs h.1 k d (omega arith)

pub length-groups : (w n x : ℕ) → length (groups w n x) ≡ n
unfolding groups
length-groups w zero x = refl
length-groups w (suc n) x = ap suc (length-groups w n (x % 2 ^ (w * n)))

pow_same : (m n : ℕ) → m ≡ n → 2 ^ m ≡ 2 ^ n
pow_same m n e = ap (λ k. 2 ^ k) e

pow-row : (w n : ℕ) → 2 ^ (w * suc n) ≡ 2 ^ (w * n) * 2 ^ w
pow-row w n = pow_same (w * suc n) (w * n + w) (omega arith) ∙ pow-add 2 (w * n) w

pow-none : (w : ℕ) → 2 ^ (w * 0) ≡ 1
pow-none w = pow_same (w * 0) 0 (omega arith)

-- the groups make a number of as many digits as they have together
pub joined-lt : (w : ℕ) (xs : List ℕ) → Below (2 ^ w) xs → joined w xs < 2 ^ (w * length xs)
unfolding joined
joined-lt w [] h = pow_pos (w * 0)
joined-lt w (x ∷ xs) h =
    rw (pow-row w (length xs)) (mul-add-lt x (2 ^ (w * length xs)) (joined w xs) (2 ^ w) h.0 (joined-lt w xs h.1))

pub groups-joined : (w : ℕ) (xs : List ℕ) → Below (2 ^ w) xs → groups w (length xs) (joined w xs) ≡ xs
unfolding groups joined
groups-joined w [] h = refl
groups-joined w (x ∷ xs) h =
    let low : joined w xs < 2 ^ (w * length xs) = joined-lt w xs h.1 in
    rw (shr_high x (w * length xs) (joined w xs) low, mod_low x (w * length xs) (joined w xs) low)
    (ap (λ ys. x ∷ ys) (groups-joined w xs h.1))

pub joined-groups : (w n x : ℕ) → x < 2 ^ (w * n) → joined w (groups w n x) ≡ x
unfolding groups joined
joined-groups w zero x h = let one : 2 ^ (w * 0) ≡ 1 = pow-none w in omega arith
joined-groups w (suc n) x h =
    rw (length-groups w n (x % 2 ^ (w * n)), joined-groups w n (x % 2 ^ (w * n)) (mod_below x (2 ^ (w * n)) (pow_pos (w * n))))
    (shr_split x (w * n))

pub Below-groups : (w n x : ℕ) → x < 2 ^ (w * n) → Below (2 ^ w) (groups w n x)
unfolding groups
Below-groups w zero x h = tt
Below-groups w (suc n) x h = (
  shr_below x w (w * n) (let e : 2 ^ (w * suc n) ≡ 2 ^ (w + w * n) = pow_same (w * suc n) (w + w * n) (omega arith) in omega arith),
  Below-groups w n (x % 2 ^ (w * n)) (mod_below x (2 ^ (w * n)) (pow_pos (w * n))),
)

-- the lowest k digits of the lowest j + k
pub mod-mod_pow : (y j k : ℕ) → y % 2 ^ (j + k) % 2 ^ k ≡ y % 2 ^ k
mod-mod_pow y j k =
    rw (mod-pow-add y j k) (mod_low (y / 2 ^ k % 2 ^ j) k (y % 2 ^ k) (mod_below y (2 ^ k) (pow_pos k)))

-- the digits from e upward, k of them, of the lowest m
pub window : (x m e j k : ℕ) → m ≡ j + k + e → x % 2 ^ m / 2 ^ e % 2 ^ k ≡ x / 2 ^ e % 2 ^ k
window x m e j k h =
    ap (λ p. x % 2 ^ p / 2 ^ e % 2 ^ k) h
    ∙ ap (λ y. y % 2 ^ k) (field_of x (j + k) e)
    ∙ mod-mod_pow (x / 2 ^ e) j k

pub get_or-groups : (w n x i e : ℕ) → x < 2 ^ (w * n) → i < n → e + w * i + w ≡ w * n
    → get_or (groups w n x) i 0 ≡ x / 2 ^ e % 2 ^ w
unfolding groups
get_or-groups w zero x i e h k f = absurd (omega arith)
get_or-groups w (suc n) x zero e h k f =
    let at : e ≡ w * n = omega arith in
    let top : x / 2 ^ (w * n) < 2 ^ w =
    shr_below x w (w * n) (let g : 2 ^ (w * suc n) ≡ 2 ^ (w + w * n) = pow_same (w * suc n) (w + w * n) (omega arith) in omega arith) in
    sym (ap (λ p. x / 2 ^ p % 2 ^ w) at ∙ mod-eq_of_lt top)
get_or-groups w (suc n) x (suc i) e h k f =
    get_or-groups w n (x % 2 ^ (w * n)) i e (mod_below x (2 ^ (w * n)) (pow_pos (w * n))) (omega arith) (omega arith)
    ∙ window x (w * n) e (w * i) w (omega arith)

pub joined-append : (w : ℕ) (xs ys : List ℕ) → joined w (xs ++ ys) ≡ joined w xs * 2 ^ (w * length ys) + joined w ys
unfolding joined
joined-append w [] ys = omega arith
joined-append w (x ∷ xs) ys =
    let both : 2 ^ (w * length (xs ++ ys)) ≡ 2 ^ (w * length xs) * 2 ^ (w * length ys) =
    pow_same (w * length (xs ++ ys)) (w * length xs + w * length ys) (ap (λ n. w * n) (length-append xs ys) ∙ omega arith) ∙ pow-add 2 (w * length xs) (w * length ys) in
    rw (both, joined-append w xs ys) (grind arith)

-- the groups between others are digits of the number that all make
pub joined-between : (w : ℕ) (xs ys zs : List ℕ) → Below (2 ^ w) ys → Below (2 ^ w) zs
    → joined w (xs ++ (ys ++ zs)) / 2 ^ (w * length zs) % 2 ^ (w * length ys) ≡ joined w ys
joined-between w xs ys zs h k =
    ap (λ n. n / 2 ^ (w * length zs) % 2 ^ (w * length ys))
    (ap (joined w) (sym (append_assoc xs ys zs)) ∙ joined-append w (xs ++ ys) zs)
    ∙ ap (λ n. n % 2 ^ (w * length ys)) (shr_high (joined w (xs ++ ys)) (w * length zs) (joined w zs) (joined-lt w zs k))
    ∙ ap (λ n. n % 2 ^ (w * length ys)) (joined-append w xs ys)
    ∙ mod_low (joined w xs) (w * length ys) (joined w ys) (joined-lt w ys h)

-- as many groups as asked for stand at a place
pub joined-at : (w at n e : ℕ) (xs : List ℕ) → Below (2 ^ w) xs → at + n ≤ length xs → e + w * (at + n) ≡ w * length xs
    → joined w xs / 2 ^ e % 2 ^ (w * n) ≡ joined w (take n (drop at xs))
joined-at w at n e xs h k f =
    let ys : List ℕ = take n (drop at xs) in
    let zs : List ℕ = drop n (drop at xs) in
    let all : xs ≡ take at xs ++ (ys ++ zs) =
    sym (take-append-drop at xs) ∙ ap (λ t. take at xs ++ t) (sym (take-append-drop n (drop at xs))) in
    let rest : length (drop at xs) ≡ length xs - at = length-drop at xs in
    let many : length ys ≡ n = length-take-le n (drop at xs) (omega arith) in
    let after : length zs ≡ length (drop at xs) - n = length-drop n (drop at xs) in
    let split : length xs ≡ at + n + length zs = omega arith in
    let place : e ≡ w * length zs =
    omega (arith, ap (λ m. w * m) split) in
    rw (place, ap (joined w) all, ap (λ m. 2 ^ (w * m)) (sym many))
    (joined-between w (take at xs) ys zs (Below-take (2 ^ w) n (drop at xs) (Below-drop (2 ^ w) at xs h)) (Below-drop (2 ^ w) n (drop at xs) (Below-drop (2 ^ w) at xs h)))

-- two lists of groups of one length that make one number are equal
pub same_from_joined : (w : ℕ) (xs ys : List ℕ) → Below (2 ^ w) xs → Below (2 ^ w) ys → length xs ≡ length ys
    → joined w xs ≡ joined w ys → xs ≡ ys
same_from_joined w xs ys h k l j =
    sym (groups-joined w xs h) ∙ ap (λ n. groups w n (joined w xs)) l ∙ ap (groups w (length ys)) j ∙ groups-joined w ys k

pub joined-replicate : (w n : ℕ) → joined w (replicate n 0) ≡ 0
unfolding joined
joined-replicate w zero = refl
joined-replicate w (suc n) = omega (arith, joined-replicate w n)
