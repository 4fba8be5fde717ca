-- The ranked bit array: the bytes that say a list of bits, with counts of its ones.
-- A word is 64 bits, and a superblock is 8 words.
use Rattle.std.specs.Prelude.{◌≡◌, ℕ, zero, suc, ◌+◌, ◌-◌, ◌*◌, ◌/◌, ◌%◌, ◌^◌, ◌<◌, Bool, if◌then◌else◌, List, [], ◌∷◌, ◌++◌, length, drop, map, replicate}
use Rattle.std.specs.Int.{div_ceil}
use Rattle.std.specs.List.{flat_map, range_with_len}
use Rattle.byteorder.specs.Endian.{big_bytes}
use Rattle.ts_bits.specs.Rank.{rank, ones_between}

-- how many words n bits take, and how many superblocks
abbrev pub words_in : ℕ → ℕ
words_in n = div_ceil n 64

abbrev pub superblocks_in : ℕ → ℕ
superblocks_in n = div_ceil (words_in n) 8

-- the number of n binary digits that the first n bits spell, the highest first, with zeros where there are no more bits
unfoldable pub number_of_bits : ℕ → List Bool → ℕ
number_of_bits zero bits = 0
number_of_bits (suc n) [] = 0
number_of_bits (suc n) (bit ∷ bits) = (if bit then 2 ^ n else 0) + number_of_bits n bits

-- word k: the 64 bits from place 64 * k on
abbrev pub word_at : List Bool → ℕ → ℕ
word_at bits k = number_of_bits 64 (drop (64 * k) bits)

-- the ones in all words before superblock k
abbrev pub superblock_count : List Bool → ℕ → ℕ
superblock_count bits k = rank bits (512 * k)

-- the ones in the words of its superblock before word k
abbrev pub word_count : List Bool → ℕ → ℕ
word_count bits k = ones_between bits (512 * (k / 8)) (64 * k)

-- the numbers f 0, f 1 and so on up to f (count - 1), of n bytes each, the most significant byte first
unfoldable pub numbers_of : ℕ → ℕ → (ℕ → ℕ) → List ℕ
numbers_of n count f = flat_map (big_bytes n) (map f (range_with_len 0 count))

-- the zeros after n bytes up to a multiple of 8
abbrev pub zeros_after : ℕ → List ℕ
zeros_after n = replicate ((8 - n % 8) % 8) 0

-- the ranked bit array of the bits: their number, their words, a count for each superblock, and a count for each word
unfoldable pub bit_array_of : List Bool → List ℕ
bit_array_of bits =
    big_bytes 8 (length bits)
    ++ numbers_of 8 (words_in (length bits)) (word_at bits)
    ++ numbers_of 8 (superblocks_in (length bits)) (superblock_count bits)
    ++ numbers_of 2 (words_in (length bits)) (word_count bits)
    ++ zeros_after (2 * words_in (length bits))

-- the bytes are the ranked bit array of the bits, whose number fits its 8 bytes
pub record BitsSay (bytes : List ℕ) (bits : List Bool) : Type 0 where
  pub form : bytes ≡ bit_array_of bits
  pub fits : length bits < 2 ^ 64

-- the bytes are the ranked bit array of no list
abbrev pub SayNoBits : List ℕ → Type 0
SayNoBits bytes = (bits : List Bool) → ¬ BitsSay bytes bits

-- the bytes are the ranked bit array of no other list
abbrev pub SayOnly : List ℕ → List Bool → Type 0
SayOnly bytes bits = (others : List Bool) → BitsSay bytes others → others ≡ bits
