-- The wavelet tree of a sequence: the bytes that say it, digit by digit from the top.
use Rattle.std.specs.Prelude.{◌≡◌, ℕ, ◌-◌, ◌*◌, ◌/◌, ◌^◌, ◌<◌, ◌≤◌, nat_eq, Bool, List, ◌∷◌, ◌++◌, length, map, replicate, All}
use Rattle.std.specs.Int.{bit_at}
use Rattle.std.specs.List.{filter, flat_map, range_with_len}
use Rattle.ts_bits.specs.BitArray.{bit_array_of}

-- the numbers whose binary digits from digit `shift` on make `top`, in the sequence's order
abbrev pub with_top : List ℕ → ℕ → ℕ → List ℕ
with_top sequence shift top = filter (λ x. nat_eq (x / 2 ^ shift) top) sequence

-- the numbers in the order of what their digits from digit `shift` on make, below `count`; those that agree there in the sequence's order
unfoldable pub ordered : List ℕ → ℕ → ℕ → List ℕ
ordered sequence shift count = flat_map (with_top sequence shift) (range_with_len 0 count)

-- bit width - 1 - l of the numbers (bit 0 is the lowest), in the order of the numbers' top l digits among the `width`
unfoldable pub level_bits : ℕ → List ℕ → ℕ → List Bool
level_bits width sequence l =
    map (λ x. nat_eq (bit_at x (width - 1 - l)) 1) (ordered sequence (width - l) (2 ^ l))

-- all levels, the top one first
unfoldable pub tree_bits : ℕ → List ℕ → List Bool
tree_bits width sequence = flat_map (level_bits width sequence) (range_with_len 0 width)

-- the width in one byte, seven zero bytes, and the ranked bit array of the levels
unfoldable pub wavelet_of : ℕ → List ℕ → List ℕ
wavelet_of width sequence = width ∷ replicate 7 0 ++ bit_array_of (tree_bits width sequence)

-- how many binary digits the greatest of the numbers has, and 1 where there is none
pub record IsWidth (width : ℕ) (sequence : List ℕ) : Type 0 where
  pub some : 1 ≤ width
  pub fits : All (λ x. x < 2 ^ width) sequence
  pub least : 1 < width → ¬ All (λ x. x < 2 ^ (width - 1)) sequence

-- the bytes are the wavelet tree of the sequence, whose numbers are at least 1 and fit 64 bits, and whose bits can be counted in 8 bytes
pub record WaveletSays (bytes : List ℕ) (sequence : List ℕ) : Type 0 where
  pub positive : All (λ x. 1 ≤ x) sequence
  pub width : ℕ
  pub is_width : IsWidth width sequence
  pub narrow : width ≤ 64
  pub form : bytes ≡ wavelet_of width sequence
  pub fits : width * length sequence < 2 ^ 64

-- the bytes are the wavelet tree of no sequence of this length
abbrev pub SayNoSequence : List ℕ → ℕ → Type 0
SayNoSequence bytes len = (sequence : List ℕ) → length sequence ≡ len → ¬ WaveletSays bytes sequence

-- the bytes are the wavelet tree of no other sequence of this length
abbrev pub SayOnly : List ℕ → List ℕ → Type 0
SayOnly bytes sequence = (others : List ℕ) → length others ≡ length sequence → WaveletSays bytes others → others ≡ sequence

-- the buffer has behind what it held the bytes that say the sequence
pub record Appended (old new sequence : List ℕ) : Type 0 where
  pub tree : List ℕ
  pub whole : new ≡ old ++ tree
  pub says : WaveletSays tree sequence
