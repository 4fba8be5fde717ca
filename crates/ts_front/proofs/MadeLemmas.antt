use Rattle.std.proofs.Common.{◌≡◌, ℕ, zero, suc, ◌-◌, ◌<◌, ◌≤◌, List, [], ◌∷◌, ◌++◌, length, take, refl, ◌∙◌, ap, arith, slice_get}

-- a byte of a text that is made of the start of another and a rest
pub get_past : (s : ℕ) (xs rest : List ℕ) (at : ℕ) → s ≤ length xs → s ≤ at → slice_get (take s xs ++ rest) at ≡ slice_get rest (at - s)
get_past zero xs rest at h k = ap (slice_get rest) (let e : at ≡ at - 0 = omega arith in e)
get_past (suc s) [] rest at h k = absurd (omega arith)
get_past (suc s) (x ∷ xs) rest zero h k = absurd (omega arith)
get_past (suc s) (x ∷ xs) rest (suc at) h k =
    get_past s xs rest at (omega arith) (omega arith) ∙ ap (slice_get rest) (let e : at - s ≡ suc at - suc s = omega arith in e)

pub get_before : (s : ℕ) (xs rest : List ℕ) (at : ℕ) → s ≤ length xs → at < s → slice_get (take s xs ++ rest) at ≡ slice_get xs at
get_before zero xs rest at h k = absurd (omega arith)
get_before (suc s) [] rest at h k = absurd (omega arith)
get_before (suc s) (x ∷ xs) rest zero h k = refl
get_before (suc s) (x ∷ xs) rest (suc at) h k = get_before s xs rest at (omega arith) (omega arith)

-- as much of two lists as the first has, and more
pub take_past : (xs ys : List ℕ) (n : ℕ) → length xs ≤ n → take n (xs ++ ys) ≡ xs ++ take (n - length xs) ys
take_past [] ys n h = ap (λ k. take k ys) (let e : n ≡ n - 0 = omega arith in e)
take_past (x ∷ xs) ys zero h = absurd (omega arith)
take_past (x ∷ xs) ys (suc n) h =
    ap (λ t. x ∷ t) (take_past xs ys n (omega arith) ∙ ap (λ k. xs ++ take k ys) (let e : n - length xs ≡ suc n - suc (length xs) = omega arith in e))
