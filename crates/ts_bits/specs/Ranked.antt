-- How an array's parts are read: words and counts by their places, and the bits that the words hold.
use Rattle.std.specs.Prelude.{◌≡◌, ℕ, ◌+◌, ◌-◌, ◌*◌, ◌/◌, ◌%◌, ◌^◌, ◌<◌, Bool, nat_eq, List, ◌++◌, length, drop, map, All}
use Rattle.std.specs.Int.{bit_at}
use Rattle.std.specs.List.{range_with_len}
use Rattle.byteorder.specs.Endian.{big_bytes, big_number}
use Rattle.ts_bits.specs.BitArray.{words_in, superblocks_in, superblock_count, word_count}

-- number k of these bytes, of n bytes each
unfoldable pub number_in : ℕ → List ℕ → ℕ → ℕ
number_in n bytes k = big_number n (drop (n * k) bytes)

-- the first n bits of the words word 0, word 1 and so on, the highest digit of each first
unfoldable pub bits_of_words : ℕ → (ℕ → ℕ) → List Bool
bits_of_words n word = map (λ i. nat_eq (bit_at (word (i / 64)) (63 - i % 64)) 1) (range_with_len 0 n)

-- no digit of the last word stands behind the n bits
abbrev pub IsClearBehind : ℕ → (ℕ → ℕ) → Type 0
IsClearBehind n word = 0 < n → word (words_in n - 1) % 2 ^ (64 * words_in n - n) ≡ 0

-- the superblocks and the words have the counts of these bits
pub record HasCounts (bits : List Bool) (superblocks counts : List ℕ) : Type 0 where
  pub superblock : (k : ℕ) → k < superblocks_in (length bits) → number_in 8 superblocks k ≡ superblock_count bits k
  pub count : (k : ℕ) → k < words_in (length bits) → number_in 2 counts k ≡ word_count bits k

-- the bytes are the number n of bits in 8 bytes and then these parts, as long as n asks
pub record IsSplit (bytes : List ℕ) (n : ℕ) (words superblocks counts padding : List ℕ) : Type 0 where
  pub whole : bytes ≡ big_bytes 8 n ++ words ++ superblocks ++ counts ++ padding
  pub fits : n < 2 ^ 64
  pub words_length : length words ≡ 8 * words_in n
  pub superblocks_length : length superblocks ≡ 8 * superblocks_in n
  pub counts_length : length counts ≡ 2 * words_in n
  pub padding_length : length padding ≡ (8 - 2 * words_in n % 8) % 8

-- the counts at word k fit the ones in all words before it
pub record Agrees (superblocks counts : List ℕ) (k total : ℕ) : Type 0 where
  pub first : k % 8 ≡ 0 → number_in 8 superblocks (k / 8) ≡ total
  pub both : number_in 8 superblocks (k / 8) + number_in 2 counts k ≡ total

-- the parts hold n bits, clear behind them, and count their ones
pub record IsRanked (n : ℕ) (words superblocks counts : List ℕ) : Type 0 where
  pub clear : IsClearBehind n (number_in 8 words)
  pub counted : HasCounts (bits_of_words n (number_in 8 words)) superblocks counts

-- these parts are a ranked bit array, whole
pub record IsWhole (n : ℕ) (words superblocks counts padding : List ℕ) : Type 0 where
  pub ranked : IsRanked n words superblocks counts
  pub padded : All (λ byte. byte ≡ 0) padding
