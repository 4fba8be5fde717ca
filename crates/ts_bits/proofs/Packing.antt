-- One more bit behind packed bits, and one more number behind numbers.
use Rattle.std.proofs.Common.{◌≡◌, ℕ, zero, suc, ◌+◌, ◌-◌, ◌*◌, ◌/◌, ◌%◌, ◌^◌, ◌<◌, ◌≤◌, Bool, true, false, nat_eq, List, [], ◌∷◌, ◌++◌, ◌≢◌, set, slice_index, length, get_or, map, replicate, bit_or, refl, sym, ap, subst, ◌∙◌, arith, inl, inr}
use Rattle.std.proofs.Math.Nat.{add-mul, mul_assoc, mul_comm, pow-suc, zero-mod}
use Rattle.std.proofs.lemmas.Bool.{cases_lt}
use Rattle.std.proofs.lemmas.Nat.{pow_pos, shr_split, shl-shr, or_shifted, shl_whole, mod_low}
use Rattle.std.proofs.lemmas.Nat.Bits.{bit_at_cat_low, bit_at_cat_high}
use Rattle.std.proofs.lemmas.List.{append_assoc, append-nil, length_push, get_or_append_left, get_or_push, same_lists, get_or_read, get_or-set_other, get_or-set_same}
use Rattle.std.proofs.lemmas.List.FromFn.{map-range_with_len_more}
use Rattle.std.proofs.lemmas.List.Concat.{flat_map-append}
use Rattle.std.specs.Int.{bit_at, div_ceil}
use mir.Val.{bool_byte}
use lib.Count.{ones as count_ones}
use Rattle.std.specs.List.{flat_map, range_with_len}
use Rattle.byteorder.specs.Endian.{big_bytes}
use Rattle.ts_bits.specs.BitArray.{words_in, superblocks_in, word_at, superblock_count, word_count, numbers_of, zeros_after, bit_array_of, BitsSay}
use Rattle.ts_bits.specs.Rank.{rank, ones_between}
use Rattle.ts_bits.specs.Ranked.{bits_of_words, IsClearBehind}
use Rattle.ts_bits.proofs.Ranks.{digit_of}
use Rattle.ts_bits.proofs.WordBits.{digit-test, length-bits_of_words, get_or-bits_of_words, word_at-bits_of_words, rank_next_word}
use Rattle.ts_bits.proofs.Ranks.{rank-mono}

-- a number with zeros behind it is a multiple
whole_multiple : (x s : ℕ) → x % 2 ^ s ≡ 0 → x ≡ x / 2 ^ s * 2 ^ s
whole_multiple x s clear = sym (shr_split x s) ∙ (omega (arith, clear))

-- a digit below zeros
digit-lt : (bit : Bool) (s : ℕ) → digit_of bit * 2 ^ s < 2 ^ suc s
digit-lt true s = let e = pow-suc 2 s in let p = pow_pos s in omega arith
digit-lt false s = let p = pow_pos (suc s) in omega arith

-- `|` of a digit below zeros adds it
pub or_digit : (base s : ℕ) (bit : Bool) → base % 2 ^ suc s ≡ 0 → s < 64 → bit_or base (digit_of bit * 2 ^ s % 2 ^ 64) ≡ base + digit_of bit * 2 ^ s
or_digit base s bit clear h =
    let small : digit_of bit < 2 ^ 1 = elim bit as (λ b. digit_of b < 2 ^ 1) [ true ↦ omega arith | false ↦ omega arith ] in
    let shifted = shl_whole (digit_of bit) 1 s 64 small (omega arith) in
    let whole = whole_multiple base (suc s) clear in
    ap (bit_or base) shifted
    ∙ ap (λ (x : ℕ). bit_or x (digit_of bit * 2 ^ s)) whole
    ∙ or_shifted (base / 2 ^ suc s) (suc s) (digit_of bit * 2 ^ s) (digit-lt bit s)
    ∙ ap (λ (x : ℕ). x + digit_of bit * 2 ^ s) (sym whole)

-- digits above the added one stay
bit_at_above_added : (base s i : ℕ) (bit : Bool) → base % 2 ^ suc s ≡ 0 → s < i → bit_at (base + digit_of bit * 2 ^ s) i ≡ bit_at base i
bit_at_above_added base s i bit clear h =
    let whole = whole_multiple base (suc s) clear in
    let plus : base + digit_of bit * 2 ^ s ≡ base / 2 ^ suc s * 2 ^ suc s + digit_of bit * 2 ^ s = ap (λ (x : ℕ). x + digit_of bit * 2 ^ s) whole in
    let zeros : base ≡ base / 2 ^ suc s * 2 ^ suc s + 0 = whole ∙ omega arith in
    ap (λ (x : ℕ). bit_at x i) plus
    ∙ bit_at_cat_high (base / 2 ^ suc s) (suc s) (digit_of bit * 2 ^ s) i (digit-lt bit s) (omega arith)
    ∙ sym (ap (λ (x : ℕ). bit_at x i) zeros ∙ bit_at_cat_high (base / 2 ^ suc s) (suc s) 0 i (pow_pos (suc s)) (omega arith))

-- the added digit
bit_at_added : (base s : ℕ) (bit : Bool) → base % 2 ^ suc s ≡ 0 → bit_at (base + digit_of bit * 2 ^ s) s ≡ digit_of bit
bit_at_added base s bit clear =
    let whole = whole_multiple base (suc s) clear in
    let plus : base + digit_of bit * 2 ^ s ≡ base / 2 ^ suc s * 2 ^ suc s + digit_of bit * 2 ^ s = ap (λ (x : ℕ). x + digit_of bit * 2 ^ s) whole in
    let digit : digit_of bit % 2 ≡ digit_of bit = elim bit as (λ b. digit_of b % 2 ≡ digit_of b) [ true ↦ refl | false ↦ refl ] in
    ap (λ (x : ℕ). bit_at x s) plus
    ∙ bit_at_cat_low (base / 2 ^ suc s) (suc s) (digit_of bit * 2 ^ s) s (omega arith)
    ∙ ap (λ (x : ℕ). x % 2) (shl-shr (digit_of bit) s) ∙ digit

-- the words after a bit is packed behind n bits
pub record IsPacked (n : ℕ) (bit : Bool) (word word' : ℕ → ℕ) : Type 0 where
  pub base : ℕ
  pub others : (k : ℕ) → k < n / 64 → word' k ≡ word k
  pub begun : 0 < n % 64 → base ≡ word (n / 64)
  pub clear : base % 2 ^ suc (63 - n % 64) ≡ 0
  pub last : word' (n / 64) ≡ base + digit_of bit * 2 ^ (63 - n % 64)

pub packed_bits : (n : ℕ) (bit : Bool) (word word' : ℕ → ℕ) → IsPacked n bit word word' → bits_of_words (n + 1) word' ≡ bits_of_words n word ++ bit ∷ []
packed_bits n bit word word' p =
    let len = length-bits_of_words n word in
    same_lists (bits_of_words (n + 1) word') (bits_of_words n word ++ bit ∷ [])
    (length-bits_of_words (n + 1) word' ∙ sym (length_push (bits_of_words n word) bit ∙ ap (λ (m : ℕ). m + 1) len))
    (λ i d h.
    let within : i < n + 1 = omega (arith, length-bits_of_words (n + 1) word') in
    let here = get_or-bits_of_words (n + 1) word' i d within in
    elim (cases_lt i n) [
      | inl before ↦
          let there = get_or_append_left (bits_of_words n word) (bit ∷ []) d i (omega (arith, len)) ∙ get_or-bits_of_words n word i d before in
          let same : bit_at (word' (i / 64)) (63 - i % 64) ≡ bit_at (word (i / 64)) (63 - i % 64) =
          elim (cases_lt (i / 64) (n / 64)) [
            | inl lower ↦ ap (λ (x : ℕ). bit_at x (63 - i % 64)) (p.others (i / 64) lower)
            | inr upper ↦
                let e : i / 64 ≡ n / 64 = omega arith in
                rw e (ap (λ (x : ℕ). bit_at x (63 - i % 64)) p.last
                ∙ bit_at_above_added p.base (63 - n % 64) (63 - i % 64) bit p.clear (omega arith)
                ∙ ap (λ (x : ℕ). bit_at x (63 - i % 64)) (p.begun (omega arith)))
          ] in
          here ∙ ap (λ (x : ℕ). nat_eq x 1) same ∙ sym there
      | inr behind ↦
          let e : i ≡ n = omega arith in
          let there = get_or_push (bits_of_words n word) bit d i (len ∙ sym e) in
          let added : bit_at (word' (i / 64)) (63 - i % 64) ≡ digit_of bit =
          rw e (ap (λ (x : ℕ). bit_at x (63 - n % 64)) p.last ∙ bit_at_added p.base (63 - n % 64) bit p.clear) in
          here ∙ digit-test (bit_at (word' (i / 64)) (63 - i % 64)) bit added ∙ sym there
    ])

pub packed_clear : (n : ℕ) (bit : Bool) (word word' : ℕ → ℕ) → IsPacked n bit word word' → IsClearBehind (n + 1) word'
packed_clear n bit word word' p some =
    let e : words_in (n + 1) - 1 ≡ n / 64 = omega arith in
    let s : 64 * words_in (n + 1) - (n + 1) ≡ 63 - n % 64 = omega arith in
    let whole = whole_multiple p.base (suc (63 - n % 64)) p.clear in
    let twice : p.base ≡ p.base / 2 ^ suc (63 - n % 64) * 2 * 2 ^ (63 - n % 64) =
    whole ∙ ap (λ (x : ℕ). p.base / 2 ^ suc (63 - n % 64) * x) (pow-suc 2 (63 - n % 64) ∙ mul_comm (2 ^ (63 - n % 64)) 2) ∙ sym (mul_assoc (p.base / 2 ^ suc (63 - n % 64)) 2 (2 ^ (63 - n % 64))) in
    let sum : word' (n / 64) ≡ (p.base / 2 ^ suc (63 - n % 64) * 2 + digit_of bit) * 2 ^ (63 - n % 64) + 0 =
    omega (arith, p.last, twice, add-mul (p.base / 2 ^ suc (63 - n % 64) * 2) (digit_of bit) (2 ^ (63 - n % 64))) in
    rw (e, s, sum) (mod_low (p.base / 2 ^ suc (63 - n % 64) * 2 + digit_of bit) (63 - n % 64) 0 (pow_pos (63 - n % 64)))

-- one number more
pub numbers_of_more : (n count : ℕ) (f : ℕ → ℕ) → numbers_of n (count + 1) f ≡ numbers_of n count f ++ big_bytes n (f count)
unfolding numbers_of
numbers_of_more n count f =
    ap (flat_map (big_bytes n)) (map-range_with_len_more f 0 count count (omega arith))
    ∙ flat_map-append (big_bytes n) (map f (range_with_len 0 count)) (f count ∷ [])
    ∙ ap (λ (xs : List ℕ). flat_map (big_bytes n) (map f (range_with_len 0 count)) ++ xs) (append-nil (big_bytes n (f count)))

-- no number yet
pub numbers_of_none : (n : ℕ) (f : ℕ → ℕ) → numbers_of n 0 f ≡ []
unfolding numbers_of
numbers_of_none n f = refl

-- the same numbers
pub numbers_of_same : (n count : ℕ) (f g : ℕ → ℕ) → ((k : ℕ) → k < count → f k ≡ g k) → numbers_of n count f ≡ numbers_of n count g
numbers_of_same n zero f g same = numbers_of_none n f ∙ sym (numbers_of_none n g)
numbers_of_same n (suc count) f g same =
    let ih = numbers_of_same n count f g (λ k h. same k (omega arith)) in
    let e : suc count ≡ count + 1 = omega arith in
    rw (e, numbers_of_more n count f, numbers_of_more n count g, ih, same count (omega arith)) refl

-- a bit that is converted to a number
pub bool_byte-digit : (bit : Bool) → bool_byte bit ≡ digit_of bit
bool_byte-digit true = refl
bool_byte-digit false = refl

-- a bit packed into the last word
pub packed_set : (items : List ℕ) (n digit base : ℕ) (bit : Bool) → length items ≡ words_in n → IsClearBehind n (slice_index items)
    → n / 64 < length items → base ≡ get_or items (n / 64) base → digit ≡ digit_of bit
    → IsPacked n bit (slice_index items) (slice_index (set items (n / 64) (bit_or base (digit * 2 ^ (63 - n % 64) % 2 ^ 64))))
packed_set items n digit base bit filled clear within is digit_is =
    let read : base ≡ get_or items (n / 64) 0 = get_or_read items (n / 64) base within is 0 in
    let last : words_in n - 1 ≡ n / 64 = omega arith in
    let zeros : suc (63 - n % 64) ≡ 64 * words_in n - n = omega arith in
    let base_clear : base % 2 ^ suc (63 - n % 64) ≡ 0 =
    rw (read, zeros) (subst (λ (k : ℕ). get_or items k 0 % 2 ^ (64 * words_in n - n) ≡ 0) last (clear (omega arith))) in
    record {
      base = base;
      others = λ k h. let ne : k ≢ n / 64 = omega arith in get_or-set_other items (n / 64) k _ 0 ne;
      begun = λ h. read;
      clear = base_clear;
      last = get_or-set_same items (n / 64) _ 0 within ∙ ap (λ (x : ℕ). bit_or base (x * 2 ^ (63 - n % 64) % 2 ^ 64)) digit_is ∙ or_digit base (63 - n % 64) bit base_clear (omega arith);
    }

-- a bit that begins a word
pub packed_push : (items : List ℕ) (n digit : ℕ) (bit : Bool) → length items ≡ words_in n → length items ≤ n / 64 → digit ≡ digit_of bit
    → IsPacked n bit (slice_index items) (slice_index (items ++ (digit * 2 ^ (63 - n % 64) % 2 ^ 64) ∷ []))
packed_push items n digit bit filled behind digit_is =
    let small : digit_of bit < 2 ^ 1 = elim bit as (λ b. digit_of b < 2 ^ 1) [ true ↦ omega arith | false ↦ omega arith ] in
    record {
      base = 0;
      others = λ k h. get_or_append_left items _ 0 k (omega arith);
      begun = λ h. absurd (omega arith);
      clear = zero-mod (2 ^ suc (63 - n % 64));
      last = get_or_push items _ 0 (n / 64) (omega arith) ∙ ap (λ (x : ℕ). x * 2 ^ (63 - n % 64) % 2 ^ 64) digit_is
          ∙ shl_whole (digit_of bit) 1 (63 - n % 64) 64 small (omega arith) ∙ omega arith;
    }

-- a buffer to which no number has been written
pub begins_none : (n : ℕ) (f : ℕ → ℕ) (held : List ℕ) → held ≡ held ++ numbers_of n 0 f
begins_none n f held = sym (ap (λ (xs : List ℕ). held ++ xs) (numbers_of_none n f) ∙ append-nil held)

-- one number more behind those that a buffer holds
pub numbers_step : (n k : ℕ) (f : ℕ → ℕ) (held written more : List ℕ) (x : ℕ) → written ≡ held ++ numbers_of n k f → more ≡ written ++ big_bytes n x → x ≡ f k
    → more ≡ held ++ numbers_of n (k + 1) f
numbers_step n k f held written more x before after is =
    after ∙ ap (λ (xs : List ℕ). xs ++ big_bytes n x) before ∙ append_assoc held (numbers_of n k f) (big_bytes n x)
    ∙ ap (λ (xs : List ℕ). held ++ xs) (ap (λ (y : ℕ). numbers_of n k f ++ big_bytes n y) is ∙ sym (numbers_of_more n k f))

-- the ones before the next of packed words
pub counted_next : (words : List ℕ) (n k : ℕ) → length words ≡ words_in n → IsClearBehind n (slice_index words) → k < length words → get_or words k 0 < 2 ^ 64
    → rank (bits_of_words n (slice_index words)) (64 * (k + 1)) ≡ rank (bits_of_words n (slice_index words)) (64 * k) + count_ones (get_or words k 0)
counted_next words n k filled clear within fits =
    rank_next_word (bits_of_words n (slice_index words)) (get_or words k 0) k (sym (word_at-bits_of_words n (slice_index words) k (omega arith) fits clear))

-- the count of a superblock behind those before it
pub superblock_written : (bits : List Bool) (k total : ℕ) (held written more : List ℕ) → k % 8 ≡ 0 → written ≡ held ++ numbers_of 8 (div_ceil k 8) (superblock_count bits)
    → more ≡ written ++ big_bytes 8 total → total ≡ rank bits (64 * k) → more ≡ held ++ numbers_of 8 (div_ceil (k + 1) 8) (superblock_count bits)
superblock_written bits k total held written more first before after is =
    let count : div_ceil (k + 1) 8 ≡ div_ceil k 8 + 1 = omega arith in
    let place : 64 * k ≡ 512 * div_ceil k 8 = omega arith in
    numbers_step 8 (div_ceil k 8) (superblock_count bits) held written more total before after (is ∙ ap (rank bits) place)
    ∙ ap (λ (m : ℕ). held ++ numbers_of 8 m (superblock_count bits)) (sym count)

-- a word that begins no superblock
pub superblock_kept : (bits : List Bool) (k : ℕ) (held written : List ℕ) → k % 8 ≢ 0 → written ≡ held ++ numbers_of 8 (div_ceil k 8) (superblock_count bits)
    → written ≡ held ++ numbers_of 8 (div_ceil (k + 1) 8) (superblock_count bits)
superblock_kept bits k held written later before =
    let count : div_ceil k 8 ≡ div_ceil (k + 1) 8 = omega arith in
    before ∙ ap (λ (m : ℕ). held ++ numbers_of 8 m (superblock_count bits)) count

-- the ones in its superblock before a word that begins it
pub count_first : (bits : List Bool) (k : ℕ) → k % 8 ≡ 0 → word_count bits k ≡ 0
count_first bits k first =
    let place : 64 * k ≡ 512 * (k / 8) = omega arith in
    let same = ap (rank bits) place in
    omega (arith, same)

-- and before another
pub count_later : (bits : List Bool) (k inside : ℕ) → k % 8 ≢ 0 → inside ≡ ones_between bits (512 * ((k + 7) / 8 - 1)) (64 * k) → inside ≡ word_count bits k
count_later bits k inside later is =
    let place : (k + 7) / 8 - 1 ≡ k / 8 = omega arith in
    is ∙ ap (λ (b : ℕ). ones_between bits (512 * b) (64 * k)) place

-- the ones in its superblock up to the next word
pub count_next : (bits : List Bool) (k inside more : ℕ) → inside ≡ word_count bits k → rank bits (64 * (k + 1)) ≡ rank bits (64 * k) + more
    → (inside + more ≡ ones_between bits (512 * ((k + 1 + 7) / 8 - 1)) (64 * (k + 1))) × (inside + more ≤ 512)
count_next bits k inside more is next =
    let place : k / 8 ≡ (k + 1 + 7) / 8 - 1 = omega arith in
    let mono = rank-mono bits (512 * (k / 8)) (64 * k) (omega arith) in
    let most = rank-mono bits (512 * (k / 8)) (64 * (k + 1)) (omega arith) in
    let sum : inside + more ≡ ones_between bits (512 * (k / 8)) (64 * (k + 1)) = omega (arith, is, next, mono.0) in
    (sum ∙ ap (λ (b : ℕ). ones_between bits (512 * b) (64 * (k + 1))) place, omega (arith, sum, most.1))

-- lists joined behind a list
joined_behind : (h a b c d e : List ℕ) → h ++ a ++ b ++ c ++ d ++ e ≡ h ++ (a ++ b ++ c ++ d ++ e)
joined_behind h a b c d e = simp append_assoc

-- the parts of an array that is written
pub written_array : (words : List ℕ) (n : ℕ) (held a b c d e : List ℕ) → length words ≡ words_in n → IsClearBehind n (slice_index words)
    → ((k : ℕ) → get_or words k 0 < 2 ^ 64)
    → a ≡ held ++ big_bytes 8 n
    → b ≡ a ++ numbers_of 8 (length words) (slice_index words)
    → c ≡ b ++ numbers_of 8 (superblocks_in n) (superblock_count (bits_of_words n (slice_index words)))
    → d ≡ c ++ numbers_of 2 (words_in n) (word_count (bits_of_words n (slice_index words)))
    → e ≡ d ++ replicate ((8 - 2 * length words % 8) % 8) 0
    → e ≡ held ++ bit_array_of (bits_of_words n (slice_index words))
unfolding bit_array_of
written_array words n held a b c d e filled clear fits a_is b_is c_is d_is e_is =
    let bits = bits_of_words n (slice_index words) in
    let len : length (bits_of_words n (slice_index words)) ≡ n = length-bits_of_words n (slice_index words) in
    let same : numbers_of 8 (length words) (slice_index words) ≡ numbers_of 8 (words_in n) (word_at (bits_of_words n (slice_index words))) =
    ap (λ (m : ℕ). numbers_of 8 m (slice_index words)) filled
    ∙ numbers_of_same 8 (words_in n) (slice_index words) (word_at (bits_of_words n (slice_index words)))
    (λ k h. sym (word_at-bits_of_words n (slice_index words) k h (fits k) clear)) in
    let whole : ℕ → List ℕ = λ m. big_bytes 8 m
    ++ numbers_of 8 (words_in m) (word_at (bits_of_words n (slice_index words)))
    ++ numbers_of 8 (superblocks_in m) (superblock_count (bits_of_words n (slice_index words)))
    ++ numbers_of 2 (words_in m) (word_count (bits_of_words n (slice_index words)))
    ++ zeros_after (2 * words_in m) in
    let b' = b_is ∙ ap (λ (xs : List ℕ). xs ++ numbers_of 8 (length words) (slice_index words)) a_is ∙ ap (λ (xs : List ℕ). (held ++ big_bytes 8 n) ++ xs) same in
    let c' = c_is ∙ ap (λ (xs : List ℕ). xs ++ numbers_of 8 (superblocks_in n) (superblock_count (bits_of_words n (slice_index words)))) b' in
    let d' = d_is ∙ ap (λ (xs : List ℕ). xs ++ numbers_of 2 (words_in n) (word_count (bits_of_words n (slice_index words)))) c' in
    e_is ∙ ap (λ (m : ℕ). d ++ zeros_after (2 * m)) filled ∙ ap (λ (xs : List ℕ). xs ++ zeros_after (2 * words_in n)) d'
    ∙ joined_behind held (big_bytes 8 n) (numbers_of 8 (words_in n) (word_at (bits_of_words n (slice_index words)))) (numbers_of 8 (superblocks_in n) (superblock_count (bits_of_words n (slice_index words)))) (numbers_of 2 (words_in n) (word_count (bits_of_words n (slice_index words)))) (zeros_after (2 * words_in n))
    ∙ ap (λ (m : ℕ). held ++ whole m) (sym len)

-- bytes that are written say their bits
pub array_says : (n : ℕ) (word : ℕ → ℕ) → n < 2 ^ 64 → BitsSay (bit_array_of (bits_of_words n word)) (bits_of_words n word)
array_says n word fits = record { form = refl; fits = rw (length-bits_of_words n word) fits }
