-- What a view's parts say of its bits.
use Rattle.std.proofs.Common.{◌≡◌, ℕ, suc, ◌+◌, ◌-◌, ◌*◌, ◌/◌, ◌%◌, ◌^◌, ◌<◌, ◌≤◌, Bool, false, nat_eq, Some, List, ◌++◌, length, drop, get_or, replicate, slice_get, bit_and, refl, sym, ap, subst, ◌∙◌, arith, inl, inr}
use Rattle.std.proofs.lemmas.Nat.Bits.{shr_and_one}
use Rattle.std.proofs.lemmas.Option.{slice_get-get_or}
use Rattle.std.proofs.lemmas.List.{get_or_append_left, get_or-append-add, get_or_past, get_or-drop, same_lists, length-replicate, get_or-replicate}
use Rattle.std.proofs.lemmas.List.Elements.{All-replicate}
use Rattle.std.proofs.lemmas.Bool.{cases_lt}
use Rattle.std.specs.List.{All}
use Rattle.byteorder.specs.Endian.{big_bytes}
use Rattle.byteorder.specs.Numbers.{big_from-lt}
use Rattle.std.specs.Int.{bit_at}
use lib.Count.{ones as count_ones}
use Rattle.ts_bits.specs.Rank.{rank}
use Rattle.ts_bits.specs.BitArray.{words_in, word_at, BitsSay}
use Rattle.ts_bits.specs.Ranked.{number_in, bits_of_words, HasCounts, IsRanked, IsSplit, IsWhole}
use Rattle.ts_bits.proofs.WordBits.{length-bits_of_words, get_or-bits_of_words, word_at-bits_of_words, rank_in_word}
use Rattle.ts_bits.proofs.Ranks.{rank-mono}
use Rattle.ts_bits.proofs.Arrays.{split_says, says_from_parts, said_bits, said_clear, said_counts, read_said}

-- the parts hold these bits
pub record Holds (bits : List Bool) (n : ℕ) (words superblocks counts : List ℕ) : Type 0 where
  pub len : length bits ≡ n
  pub word : (k : ℕ) → k < words_in n → number_in 8 words k < 2 ^ 64 → number_in 8 words k ≡ word_at bits k
  pub digit : (i : ℕ) → i < n → get_or bits i false ≡ nat_eq (bit_at (number_in 8 words (i / 64)) (63 - i % 64)) 1
  pub counted : HasCounts bits superblocks counts

pub holds : (bits : List Bool) (n : ℕ) (words superblocks counts : List ℕ) → bits_of_words n (number_in 8 words) ≡ bits
    → IsRanked n words superblocks counts → Holds bits n words superblocks counts
holds bits n words superblocks counts is ranked = record {
  len = rw (← is) (length-bits_of_words n (number_in 8 words));
  word = λ k h fits. rw (← is) (sym (word_at-bits_of_words n (number_in 8 words) k h fits ranked.clear));
  digit = λ i h. rw (← is) (get_or-bits_of_words n (number_in 8 words) i false h);
  counted = subst (λ (b : List Bool). HasCounts b superblocks counts) is ranked.counted;
}

-- the bit that a word has at its place
pub bit_is : (bits : List Bool) (n : ℕ) (words superblocks counts : List ℕ) → Holds bits n words superblocks counts
    → (i word : ℕ) → i < length bits → word ≡ number_in 8 words (i / 64)
    → slice_get bits i ≡ Some (nat_eq (bit_and (word / 2 ^ (63 - i % 64)) 1) 1)
bit_is bits n words superblocks counts h i word within is =
    slice_get-get_or bits i false within
    ∙ ap (λ (b : Bool). Some b) (h.digit i (omega (arith, h.len)) ∙ ap (λ (x : ℕ). nat_eq x 1) (ap (λ (w : ℕ). bit_at w (63 - i % 64)) (sym is) ∙ sym (shr_and_one word (63 - i % 64))))

-- the counts of a word together
pub ones_before_is : (bits : List Bool) (n : ℕ) (words superblocks counts : List ℕ) → Holds bits n words superblocks counts
    → (k : ℕ) → 64 * k < length bits → number_in 8 superblocks (k / 8) + number_in 2 counts k ≡ rank bits (64 * k)
ones_before_is bits n words superblocks counts h k within =
    let block = h.counted.superblock (k / 8) (omega arith) in
    let count = h.counted.count k (omega arith) in
    let mono = rank-mono bits (512 * (k / 8)) (64 * k) (omega arith) in
    omega (arith, block, count, mono.0)

-- the ones before a place behind the first
pub rank_is : (bits : List Bool) (n : ℕ) (words superblocks counts : List ℕ) → Holds bits n words superblocks counts
    → (i word before : ℕ) → 0 < i → i ≤ length bits → word < 2 ^ 64 → word ≡ number_in 8 words ((i - 1) / 64) → before ≡ rank bits (64 * ((i - 1) / 64))
    → before + count_ones (word / 2 ^ (63 - (i - 1) % 64)) ≡ rank bits i
rank_is bits n words superblocks counts h i word before some within fits is before_is =
    let k = (i - 1) / 64 in
    let e : 64 * ((i - 1) / 64) + suc ((i - 1) % 64) ≡ i = omega arith in
    let split : suc ((i - 1) % 64) + (63 - (i - 1) % 64) ≡ 64 = omega arith in
    let at : word ≡ word_at bits ((i - 1) / 64) = is ∙ h.word ((i - 1) / 64) (omega (arith, h.len)) (rw (← is) fits) in
    let front = rank_in_word bits word ((i - 1) / 64) (suc ((i - 1) % 64)) (63 - (i - 1) % 64) at split in
    rw before_is (sym front ∙ ap (rank bits) e)

-- parts of joined bytes are bytes
small_left : (xs ys : List ℕ) → ((i : ℕ) → get_or (xs ++ ys) i 0 < 256) → (i : ℕ) → get_or xs i 0 < 256
small_left xs ys small i = elim (cases_lt i (length xs)) [
  | inl in_front ↦ rw (← get_or_append_left xs ys 0 i in_front) (small i)
  | inr behind ↦ rw (get_or_past xs i 0 behind) (omega arith)
]

small_right : (xs ys : List ℕ) → ((i : ℕ) → get_or (xs ++ ys) i 0 < 256) → (i : ℕ) → get_or ys i 0 < 256
small_right xs ys small i = rw (← get_or-append-add xs ys i 0) (small (length xs + i))

-- zeros alone are that many zeros
zeros_are : (xs : List ℕ) (n : ℕ) → length xs ≡ n → All (λ byte. byte ≡ 0) xs → xs ≡ replicate n 0
zeros_are xs n len all =
    same_lists xs (replicate n 0) (len ∙ sym (length-replicate n 0)) (λ k d h. all k d h ∙ sym (get_or-replicate n k 0 d (omega arith)))

all_zeros : (n : ℕ) → All (λ (byte : ℕ). byte ≡ 0) (replicate n 0)
all_zeros n = All-replicate (λ (byte : ℕ). byte ≡ 0) n 0 refl

-- a word of bytes fits
number_in-lt : (words : List ℕ) (k : ℕ) → ((i : ℕ) → get_or words i 0 < 256) → number_in 8 words k < 2 ^ 64
unfolding number_in
number_in-lt words k small = big_from-lt 0 8 (drop (8 * k) words) (λ i. rw (get_or-drop (8 * k) words i 0) (small (8 * k + i)))

-- whole parts say the bits of their words
pub says_from_whole : (bytes : List ℕ) (n : ℕ) (words superblocks counts padding : List ℕ) → ((i : ℕ) → get_or bytes i 0 < 256)
    → IsSplit bytes n words superblocks counts padding → IsWhole n words superblocks counts padding
    → BitsSay bytes (bits_of_words n (number_in 8 words))
says_from_whole bytes n words superblocks counts padding small split whole =
    let joined : (i : ℕ) → get_or (big_bytes 8 n ++ words ++ superblocks ++ counts ++ padding) i 0 < 256 =
    subst (λ (xs : List ℕ). (i : ℕ) → get_or xs i 0 < 256) split.whole small in
    let four = small_left (big_bytes 8 n ++ words ++ superblocks ++ counts) padding joined in
    let three = small_left (big_bytes 8 n ++ words ++ superblocks) counts four in
    let small_counts = small_right (big_bytes 8 n ++ words ++ superblocks) counts four in
    let two = small_left (big_bytes 8 n ++ words) superblocks three in
    let small_superblocks = small_right (big_bytes 8 n ++ words) superblocks three in
    let small_words = small_right (big_bytes 8 n) words two in
    says_from_parts bytes (bits_of_words n (number_in 8 words)) n words superblocks counts padding split
    (read_said n words superblocks counts padding small_words small_superblocks small_counts split.words_length split.superblocks_length split.counts_length
    (λ k h. number_in-lt words k small_words)
    whole.ranked.clear whole.ranked.counted (zeros_are padding ((8 - 2 * words_in n % 8) % 8) split.padding_length whole.padded))

-- the parts of bytes that say bits are whole, and hold the bits
pub whole_from_says : (bytes : List ℕ) (bits : List Bool) (n : ℕ) (words superblocks counts padding : List ℕ)
    → IsSplit bytes n words superblocks counts padding → BitsSay bytes bits
    → IsWhole n words superblocks counts padding × (bits_of_words n (number_in 8 words) ≡ bits)
whole_from_says bytes bits n words superblocks counts padding split says =
    let said = split_says bytes bits n words superblocks counts padding split says in
    let same = said_bits bits n words superblocks counts padding said in (
      record {
        ranked = record {
          clear = said_clear bits n words superblocks counts padding said;
          counted = rw same (said_counts bits n words superblocks counts padding says.fits said);
        };
        padded = rw said.padding_is (all_zeros ((8 - 2 * words_in (length bits) % 8) % 8));
      },
      same,
    )
