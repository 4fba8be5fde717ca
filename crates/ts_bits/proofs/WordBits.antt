-- A word as bits: what its digits and its ones are.
use Rattle.std.proofs.Common.{◌≡◌, ℕ, zero, suc, ◌+◌, ◌-◌, ◌*◌, ◌/◌, ◌%◌, ◌^◌, ◌<◌, ◌≤◌, Bool, true, false, List, [], ◌∷◌, nat_eq, length, take, drop, get_or, refl, sym, ap, ◌∙◌, arith, inl, inr}
use Rattle.std.proofs.Math.Nat.{add-mul, mul_assoc, div-one, pow-succ'}
use Rattle.std.proofs.lemmas.Nat.{pow_pos, pow-add, ones_cat, shr_high, shr_split, mod_low}
use Rattle.std.proofs.lemmas.Nat.Bits.{bit_at-zero, bit_at-lt, bit_at_cat_low, same_from_bits_below}
use Rattle.std.proofs.lemmas.List.{drop_all, get_or-drop, get_or_past, get_or_default, same_lists, length-drop}
use Rattle.std.proofs.lemmas.List.FromFn.{length-map-range_with_len, get_or-map-range_with_len}
use Rattle.std.proofs.lemmas.List.Sums.{sum_by-cons}
use Rattle.std.proofs.lemmas.Bool.{cases_lt}
use Rattle.std.specs.Int.{bit_at}
use lib.Count.{ones as count_ones, ones_in}
use Rattle.ts_bits.specs.Rank.{rank}
use Rattle.ts_bits.specs.BitArray.{words_in, word_at, number_of_bits}
use Rattle.ts_bits.specs.Ranked.{bits_of_words, IsClearBehind}
use Rattle.ts_bits.proofs.Ranks.{digit_of, rank-add}

-- no bits spell nothing
pub number_of_bits-nil : (n : ℕ) → number_of_bits n [] ≡ 0
unfolding number_of_bits
number_of_bits-nil zero = refl
number_of_bits-nil (suc n) = refl

-- the first bit is the highest digit
pub number_of_bits-cons : (n : ℕ) (bit : Bool) (bits : List Bool)
    → number_of_bits (suc n) (bit ∷ bits) ≡ digit_of bit * 2 ^ n + number_of_bits n bits
unfolding number_of_bits
number_of_bits-cons n true bits = omega arith
number_of_bits-cons n false bits = omega arith

-- n digits stay below 2 ^ n
pub number_of_bits-lt : (n : ℕ) (bits : List Bool) → number_of_bits n bits < 2 ^ n
unfolding number_of_bits
number_of_bits-lt zero bits = omega arith
number_of_bits-lt (suc n) [] = pow_pos (suc n)
number_of_bits-lt (suc n) (true ∷ bits) = let ih = number_of_bits-lt n bits in rw (pow-succ' 2 n) (omega arith)
number_of_bits-lt (suc n) (false ∷ bits) = let ih = number_of_bits-lt n bits in rw (pow-succ' 2 n) (omega arith)

-- no digits are 0
pub number_of_bits-zero : (bits : List Bool) → number_of_bits 0 bits ≡ 0
unfolding number_of_bits
number_of_bits-zero bits = refl

-- a digit has itself as its ones
count_ones-digit : (bit : Bool) → count_ones (digit_of bit) ≡ digit_of bit
unfolding count_ones ones_in
count_ones-digit true = refl
count_ones-digit false = refl

-- m digits and then n more
pub number_of_bits-add : (m n : ℕ) (bits : List Bool)
    → number_of_bits (m + n) bits ≡ number_of_bits m bits * 2 ^ n + number_of_bits n (drop m bits)
number_of_bits-add zero n bits =
    let e : 0 + n ≡ n = omega arith in
    let z : number_of_bits 0 bits ≡ 0 = number_of_bits-zero bits in
    rw (e, z) (omega arith)
number_of_bits-add (suc m) n [] =
    rw (number_of_bits-nil (suc m + n), number_of_bits-nil (suc m), number_of_bits-nil n) (omega arith)
number_of_bits-add (suc m) n (bit ∷ bits) =
    let e : suc m + n ≡ suc (m + n) = omega arith in
    let ih = number_of_bits-add m n bits in
    let split : (digit_of bit * 2 ^ m + number_of_bits m bits) * 2 ^ n ≡ digit_of bit * (2 ^ m * 2 ^ n) + number_of_bits m bits * 2 ^ n =
    add-mul (digit_of bit * 2 ^ m) (number_of_bits m bits) (2 ^ n) ∙ ap (λ (x : ℕ). x + number_of_bits m bits * 2 ^ n) (mul_assoc (digit_of bit) (2 ^ m) (2 ^ n)) in
    rw (e, number_of_bits-cons (m + n) bit bits, number_of_bits-cons m bit bits, ih, split, pow-add 2 m n) (omega arith)

-- the ones of the number are the ones of the bits
pub count_ones-number_of_bits : (n : ℕ) (bits : List Bool) → count_ones (number_of_bits n bits) ≡ rank bits n
unfolding count_ones
count_ones-number_of_bits zero bits = rw (number_of_bits-zero bits) refl
count_ones-number_of_bits (suc n) [] = rw (number_of_bits-nil (suc n)) refl
count_ones-number_of_bits (suc n) (bit ∷ bits) =
    let ih = count_ones-number_of_bits n bits in
    let cat = ones_cat n (digit_of bit) (number_of_bits n bits) (number_of_bits-lt n bits) in
    let one : count_ones (digit_of bit) ≡ digit_of bit = count_ones-digit bit in
    let front = sum_by-cons digit_of bit (take n bits) in
    ap count_ones (number_of_bits-cons n bit bits) ∙ cat ∙ (omega (arith, ih, one, front))

-- a digit is below 2
digit-mod : (bit : Bool) → digit_of bit % 2 ≡ digit_of bit
digit-mod true = refl
digit-mod false = refl

-- digit i of the number, counted from the highest, is bit i
pub bit_at-number_of_bits : (n i m : ℕ) (bits : List Bool) → i + suc m ≡ n
    → bit_at (number_of_bits n bits) m ≡ digit_of (get_or bits i false)
bit_at-number_of_bits n zero m [] h =
    rw (number_of_bits-nil n) (bit_at-zero m)
bit_at-number_of_bits n zero m (bit ∷ bits) h =
    let e : n ≡ suc m = omega arith in
    rw (e, number_of_bits-cons m bit bits, shr_high (digit_of bit) m (number_of_bits m bits) (number_of_bits-lt m bits)) (digit-mod bit)
bit_at-number_of_bits n (suc i) m [] h = rw (number_of_bits-nil n) (bit_at-zero m)
bit_at-number_of_bits zero (suc i) m (bit ∷ bits) h = absurd (omega arith)
bit_at-number_of_bits (suc n) (suc i) m (bit ∷ bits) h =
    let ih = bit_at-number_of_bits n i m bits (omega arith) in
    rw (number_of_bits-cons n bit bits) (bit_at_cat_low (digit_of bit) n (number_of_bits n bits) m (omega arith) ∙ ih)

-- a number of n digits is spelled by bits that are its digits
pub number_of_bits_is : (n x : ℕ) (bits : List Bool) → x < 2 ^ n
    → ((i m : ℕ) → i + suc m ≡ n → bit_at x m ≡ digit_of (get_or bits i false))
    → number_of_bits n bits ≡ x
number_of_bits_is n x bits fits same =
    same_from_bits_below n (number_of_bits n bits) x (number_of_bits-lt n bits) fits
    (λ m h. bit_at-number_of_bits n (n - suc m) m bits (omega arith) ∙ sym (same (n - suc m) m (omega arith)))

-- the first r digits of a word of n digits
pub number_of_bits-shr : (n r m : ℕ) (bits : List Bool) → r + m ≡ n → number_of_bits n bits / 2 ^ m ≡ number_of_bits r bits
number_of_bits-shr n r m bits h =
    let e : n ≡ r + m = omega arith in
    rw (e, number_of_bits-add r m bits) (shr_high (number_of_bits r bits) m (number_of_bits m (drop r bits)) (number_of_bits-lt m (drop r bits)))

-- the ones before a place within a word
pub count_ones-shr : (n r m : ℕ) (bits : List Bool) → r + m ≡ n → count_ones (number_of_bits n bits / 2 ^ m) ≡ rank bits r
count_ones-shr n r m bits h = ap count_ones (number_of_bits-shr n r m bits h) ∙ count_ones-number_of_bits r bits

-- a number with zeros behind it has the digit 0 there
pub bit_at_clear : (x m i : ℕ) → x % 2 ^ m ≡ 0 → i < m → bit_at x i ≡ 0
bit_at_clear x m i clear h =
    let whole : x ≡ x / 2 ^ m * 2 ^ m + 0 = sym (shr_split x m) ∙ ap (λ (r : ℕ). x / 2 ^ m * 2 ^ m + r) clear in
    ap (λ (y : ℕ). bit_at y i) whole ∙ bit_at_cat_low (x / 2 ^ m) m 0 i h ∙ bit_at-zero i

-- bits that end before the last m digits leave zeros there
pub number_of_bits_clear : (n r m : ℕ) (bits : List Bool) → r + m ≡ n → length bits ≤ r → number_of_bits n bits % 2 ^ m ≡ 0
number_of_bits_clear n r m bits h short =
    let e : n ≡ r + m = omega arith in
    let none : drop r bits ≡ [] = drop_all r bits short in
    rw (e, number_of_bits-add r m bits, none, number_of_bits-nil m) (mod_low (number_of_bits r bits) m 0 (pow_pos m))

-- the digit of a bit says the bit
pub digit-test : (x : ℕ) (bit : Bool) → x ≡ digit_of bit → nat_eq x 1 ≡ bit
digit-test x true e = rw e refl
digit-test x false e = rw e refl

-- a digit that is tested against 1
pub test-digit : (x : ℕ) → x < 2 → digit_of (nat_eq x 1) ≡ x
test-digit zero h = refl
test-digit (suc zero) h = refl
test-digit (suc (suc x)) h = absurd (omega arith)

-- the bits of the words, place by place
pub length-bits_of_words : (n : ℕ) (word : ℕ → ℕ) → length (bits_of_words n word) ≡ n
unfolding bits_of_words
length-bits_of_words n word = length-map-range_with_len (λ i. nat_eq (bit_at (word (i / 64)) (63 - i % 64)) 1) 0 n

pub get_or-bits_of_words : (n : ℕ) (word : ℕ → ℕ) (i : ℕ) (d : Bool) → i < n
    → get_or (bits_of_words n word) i d ≡ nat_eq (bit_at (word (i / 64)) (63 - i % 64)) 1
unfolding bits_of_words
get_or-bits_of_words n word i d h =
    get_or-map-range_with_len (λ i. nat_eq (bit_at (word (i / 64)) (63 - i % 64)) 1) 0 n i i d h (omega arith)

-- the bits of the words spell the words
pub word_at-bits_of_words : (n : ℕ) (word : ℕ → ℕ) (k : ℕ) → k < words_in n → word k < 2 ^ 64 → IsClearBehind n word
    → word_at (bits_of_words n word) k ≡ word k
word_at-bits_of_words n word k h fits clear =
    number_of_bits_is 64 (word k) (drop (64 * k) (bits_of_words n word)) fits
    (λ i m e. elim (cases_lt (64 * k + i) n) [
      | inl in_front ↦
          let at : get_or (drop (64 * k) (bits_of_words n word)) i false ≡ nat_eq (bit_at (word ((64 * k + i) / 64)) (63 - (64 * k + i) % 64)) 1 =
          get_or-drop (64 * k) (bits_of_words n word) i false ∙ get_or-bits_of_words n word (64 * k + i) false in_front in
          let row : (64 * k + i) / 64 ≡ k = omega arith in
          let column : 63 - (64 * k + i) % 64 ≡ m = omega arith in
          rw (at, row, column) (sym (test-digit (bit_at (word k) m) (bit_at-lt (word k) m)))
      | inr behind ↦
          let at : get_or (drop (64 * k) (bits_of_words n word)) i false ≡ false =
          get_or-drop (64 * k) (bits_of_words n word) i false
          ∙ get_or_past (bits_of_words n word) (64 * k + i) false (omega (arith, length-bits_of_words n word)) in
          let last : words_in n - 1 ≡ k = omega arith in
          let zeros : word k % 2 ^ (64 * words_in n - n) ≡ 0 = rw (← last) (clear (omega arith)) in
          rw at (bit_at_clear (word k) (64 * words_in n - n) m zeros (omega arith))
    ])

-- bits are those of the words that they spell
pub bits_of_words_are : (bits : List Bool) (word : ℕ → ℕ) → ((k : ℕ) → k < words_in (length bits) → word k ≡ word_at bits k)
    → bits_of_words (length bits) word ≡ bits
bits_of_words_are bits word same =
    same_lists (bits_of_words (length bits) word) bits (length-bits_of_words (length bits) word)
    (λ i d h.
    let within : i < length bits = omega (arith, length-bits_of_words (length bits) word) in
    let e : i % 64 + suc (63 - i % 64) ≡ 64 = omega arith in
    let place : 64 * (i / 64) + i % 64 ≡ i = omega arith in
    let at = bit_at-number_of_bits 64 (i % 64) (63 - i % 64) (drop (64 * (i / 64)) bits) e in
    let bit : get_or (drop (64 * (i / 64)) bits) (i % 64) false ≡ get_or bits i d =
    get_or-drop (64 * (i / 64)) bits (i % 64) false ∙ ap (λ (j : ℕ). get_or bits j false) place ∙ get_or_default bits i false d within in
    get_or-bits_of_words (length bits) word i d within
    ∙ digit-test (bit_at (word (i / 64)) (63 - i % 64)) (get_or bits i d)
    (rw (same (i / 64) (omega arith)) (at ∙ ap digit_of bit)))

-- the last word of bits is clear behind them
pub clear_behind : (bits : List Bool) (word : ℕ → ℕ) → ((k : ℕ) → k < words_in (length bits) → word k ≡ word_at bits k)
    → IsClearBehind (length bits) word
clear_behind bits word same some =
    let k = words_in (length bits) - 1 in
    let e : 64 - (64 * words_in (length bits) - length bits) + (64 * words_in (length bits) - length bits) ≡ 64 = omega arith in
    let short : length (drop (64 * (words_in (length bits) - 1)) bits) ≤ 64 - (64 * words_in (length bits) - length bits) =
    rw (length-drop (64 * (words_in (length bits) - 1)) bits) (omega arith) in
    rw (same (words_in (length bits) - 1) (omega arith))
    (number_of_bits_clear 64 (64 - (64 * words_in (length bits) - length bits)) (64 * words_in (length bits) - length bits) (drop (64 * (words_in (length bits) - 1)) bits) e short)

-- the ones before a place, by the word that holds the place before it
pub rank_in_word : (bits : List Bool) (word k r m : ℕ) → word ≡ word_at bits k → r + m ≡ 64
    → rank bits (64 * k + r) ≡ rank bits (64 * k) + count_ones (word / 2 ^ m)
rank_in_word bits word k r m is h =
    rank-add bits (64 * k) r
    ∙ ap (λ (x : ℕ). rank bits (64 * k) + x) (sym (ap (λ (x : ℕ). count_ones (x / 2 ^ m)) is ∙ count_ones-shr 64 r m (drop (64 * k) bits) h))

-- the ones before the next word
pub rank_next_word : (bits : List Bool) (word k : ℕ) → word ≡ word_at bits k → rank bits (64 * (k + 1)) ≡ rank bits (64 * k) + count_ones word
rank_next_word bits word k is =
    let e : 64 * (k + 1) ≡ 64 * k + 64 = omega arith in
    let whole : word / 2 ^ 0 ≡ word = div-one word in
    ap (rank bits) e ∙ rank_in_word bits word k 64 0 is (omega arith) ∙ ap (λ (x : ℕ). rank bits (64 * k) + count_ones x) whole
