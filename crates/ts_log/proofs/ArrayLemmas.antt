use Rattle.std.proofs.Common.{◌≡◌, ℕ, ◌+◌, ◌-◌, ◌*◌, ◌/◌, ◌%◌, ◌^◌, ◌<◌, ◌≤◌, List, length, get_or, replicate, sym, ◌∙◌, ap, subst, arith, length-append}
use Rattle.std.specs.List.{flat_map}
use Rattle.std.proofs.lemmas.Nat.{pow_pos, shl-shr, shr_below, shr_split}
use Rattle.std.proofs.Math.Nat.{mul-mod_left}
use Rattle.std.proofs.lemmas.List.{length-replicate}
use Rattle.ts_log.specs.BinaryDigits.{binary_digits}
use Rattle.ts_log.specs.Groups.{groups, joined, elements_in, element_in}
use Rattle.ts_log.specs.LogArray.{words_for, packed_digits, packed, width_of, greatest}
use Rattle.ts_log.proofs.GroupsLemmas.{Below, Below-append, Below-replicate, Below-groups, joined-append, joined-lt, joined-replicate, groups-joined, joined-groups, length-groups, same_from_joined}
use Rattle.ts_log.proofs.BitsLemmas.{length-flat_digits, Below-flat_digits, joined-flat_digits, length-bytes_of_digits, Below-bytes_of_digits, joined-bytes_of_digits}
use Rattle.ts_log.proofs.ElementLemmas.{get_or-elements_in}
use Rattle.ts_log.proofs.WidthLemmas.{Below_width, width_needed, greatest_stands}

-- the padding after `count` elements of `width` digits
abbrev pub padding_for : ℕ → ℕ → ℕ
padding_for width count = 64 * words_for width count - width * count

pub words_enough : (w n : ℕ) → w * n ≤ 64 * words_for w n
unfolding words_for
words_enough w n = omega arith

pub padding_small : (w n : ℕ) → padding_for w n < 64
unfolding words_for
padding_small w n = omega arith

-- what a list's words are: so many bytes, which make the number that the elements make, shifted by the padding
pub length-packed : (w : ℕ) (xs : List ℕ) → length (packed w xs) ≡ 8 * words_for w (length xs)
unfolding packed
length-packed w xs = length-bytes_of_digits (8 * words_for w (length xs)) (packed_digits w xs)

length-packed_digits : (w : ℕ) (xs : List ℕ) → length (packed_digits w xs) ≡ 8 * (8 * words_for w (length xs))
unfolding packed_digits
length-packed_digits w xs =
    omega (arith, length-append (flat_map (binary_digits w) xs) (replicate (padding_for w (length xs)) 0), length-flat_digits w xs, length-replicate {A = ℕ} (padding_for w (length xs)) 0, words_enough w (length xs))

Below-packed_digits : (w : ℕ) (xs : List ℕ) → Below 2 (packed_digits w xs)
unfolding packed_digits
Below-packed_digits w xs =
    Below-append 2 (flat_map (binary_digits w) xs) (replicate (padding_for w (length xs)) 0) (Below-flat_digits w xs) (Below-replicate 2 (padding_for w (length xs)) 0 (omega arith))

pub Below-packed : (w : ℕ) (xs : List ℕ) → Below (2 ^ 8) (packed w xs)
unfolding packed
Below-packed w xs = Below-bytes_of_digits (8 * words_for w (length xs)) (packed_digits w xs) (Below-packed_digits w xs) (length-packed_digits w xs)

pub joined-packed : (w : ℕ) (xs : List ℕ) → Below (2 ^ w) xs → joined 8 (packed w xs) ≡ joined w xs * 2 ^ padding_for w (length xs)
unfolding packed packed_digits
joined-packed w xs h =
    let zeros : List ℕ = replicate (padding_for w (length xs)) 0 in
    let many : 1 * length zeros ≡ padding_for w (length xs) = omega (arith, length-replicate {A = ℕ} (padding_for w (length xs)) 0) in
    joined-bytes_of_digits (8 * words_for w (length xs)) (packed_digits w xs) (length-packed_digits w xs)
    ∙ joined-append 1 (flat_map (binary_digits w) xs) zeros
    ∙ rw (many, joined-replicate 1 (padding_for w (length xs)), joined-flat_digits w xs h) (omega arith)

-- no other bytes are so
pub packed_from_joined : (w : ℕ) (xs bytes : List ℕ) → Below (2 ^ w) xs → Below (2 ^ 8) bytes
    → length bytes ≡ 8 * words_for w (length xs) → joined 8 bytes ≡ joined w xs * 2 ^ padding_for w (length xs)
    → bytes ≡ packed w xs
packed_from_joined w xs bytes h b l j =
    same_from_joined 8 bytes (packed w xs) b (Below-packed w xs) (l ∙ sym (length-packed w xs)) (j ∙ sym (joined-packed w xs h))

-- the elements of a list's words are the list's
pub elements_in-packed : (w : ℕ) (xs : List ℕ) → Below (2 ^ w) xs → elements_in w (length xs) (packed w xs) ≡ xs
unfolding elements_in
elements_in-packed w xs h =
    let pad : 8 * length (packed w xs) - w * length xs ≡ padding_for w (length xs) = omega (arith, length-packed w xs) in
    rw (pad, joined-packed w xs h, shl-shr (joined w xs) (padding_for w (length xs))) (groups-joined w xs h)

-- words of so many bytes that end in zeros are the words of their elements
pub packed-elements_in : (w n : ℕ) (bytes : List ℕ) → Below (2 ^ 8) bytes → length bytes ≡ 8 * words_for w n
    → joined 8 bytes % 2 ^ padding_for w n ≡ 0 → bytes ≡ packed w (elements_in w n bytes)
unfolding elements_in
packed-elements_in w n bytes b l z =
    let pad : ℕ = 8 * length bytes - w * n in
    let many : ℕ = length bytes in
    let place : pad ≡ padding_for w n = omega (arith, l) in
    let all : 8 * many ≡ w * n + pad = omega (arith, l, words_enough w n) in
    let small : joined 8 bytes < 2 ^ (w * n + pad) = subst (λ p. joined 8 bytes < 2 ^ p) all (joined-lt 8 bytes b) in
    let top : joined 8 bytes / 2 ^ pad < 2 ^ (w * n) = shr_below (joined 8 bytes) (w * n) pad small in
    let xs : List ℕ = groups w n (joined 8 bytes / 2 ^ pad) in
    let count : length xs ≡ n = length-groups w n (joined 8 bytes / 2 ^ pad) in
    let low : joined 8 bytes % 2 ^ pad ≡ 0 = rw place z in
    let number : joined 8 bytes ≡ joined 8 bytes / 2 ^ pad * 2 ^ pad = omega (arith, shr_split (joined 8 bytes) pad, low) in
    packed_from_joined w xs bytes (Below-groups w n (joined 8 bytes / 2 ^ pad) top) b
    (l ∙ ap (λ k. 8 * words_for w k) (sym count))
    (number ∙ ap (λ x. x * 2 ^ pad) (sym (joined-groups w n (joined 8 bytes / 2 ^ pad) top))
    ∙ ap (λ p. joined w xs * 2 ^ p) (place ∙ ap (padding_for w) (sym count)))

pub Below-elements_in : (w n : ℕ) (bytes : List ℕ) → Below (2 ^ 8) bytes → w * n ≤ 8 * length bytes → Below (2 ^ w) (elements_in w n bytes)
unfolding elements_in
Below-elements_in w n bytes b room =
    let pad : ℕ = 8 * length bytes - w * n in
    let all : 8 * length bytes ≡ w * n + pad = omega arith in
    let small : joined 8 bytes < 2 ^ (w * n + pad) = subst (λ p. joined 8 bytes < 2 ^ p) all (joined-lt 8 bytes b) in
    Below-groups w n (joined 8 bytes / 2 ^ pad) (shr_below (joined 8 bytes) (w * n) pad small)

-- a list's words end in zeros
pub packed_ends : (w : ℕ) (xs : List ℕ) → Below (2 ^ w) xs → joined 8 (packed w xs) % 2 ^ padding_for w (length xs) ≡ 0
packed_ends w xs h =
    ap (λ x. x % 2 ^ padding_for w (length xs)) (joined-packed w xs h) ∙ mul-mod_left (joined w xs) (2 ^ padding_for w (length xs))

-- some element of a list's words uses the width whole, unless that is 1
pub packed_needs : (xs : List ℕ) → 1 < width_of xs
    → (i : ℕ) × ((i < length xs) × (2 ^ (width_of xs - 1) ≤ element_in (width_of xs) i (packed (width_of xs) xs)))
packed_needs xs h =
    let w : ℕ = width_of xs in
    let large : 2 ^ (w - 1) ≤ greatest xs = width_needed xs h in
    let there : (i : ℕ) × ((i < length xs) × (get_or xs i 0 ≡ greatest xs)) = greatest_stands xs (omega (arith, pow_pos (w - 1))) in
    let room : w * length xs ≤ 8 * length (packed w xs) = omega (arith, length-packed w xs, words_enough w (length xs)) in
    let same : get_or xs there.0 0 ≡ element_in w there.0 (packed w xs) =
    ap (λ ys. get_or ys there.0 0) (sym (elements_in-packed w xs (Below_width xs)))
    ∙ get_or-elements_in w (length xs) there.0 (packed w xs) (Below-packed w xs) room there.1.0 in
    (there.0, (there.1.0, omega (arith, same, there.1.1)))
