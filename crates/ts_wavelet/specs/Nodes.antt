-- The nodes of a tree: the numbers that agree in their top digits stand side by side on a level, and their bits part them on the next.
use Rattle.std.specs.Prelude.{◌≡◌, ℕ, zero, suc, ◌+◌, ◌-◌, ◌*◌, ◌/◌, ◌^◌, ◌<◌, ◌≤◌, nat_eq, nat_lt, Bool, false, if◌then◌else◌, List, length, take, map, replicate, slice_index, slice_index_or}
use Rattle.std.specs.List.{count_by, range_with_len}
use Rattle.std.specs.Int.{bit_at}
use Rattle.ts_bits.specs.Rank.{rank}
use Rattle.ts_wavelet.specs.Sequence.{IsPlaceOf}

-- how many numbers have digits from `shift` on that make less than `top`
abbrev pub lesser : List ℕ → ℕ → ℕ → ℕ
lesser sequence shift top = count_by (λ x. nat_lt (x / 2 ^ shift) top) sequence

-- how many of the first j have digits from `shift` on that make `top`
abbrev pub among : List ℕ → ℕ → ℕ → ℕ → ℕ
among sequence shift top j = count_by (λ x. nat_eq (x / 2 ^ shift) top) (take j sequence)

-- where number j stands in the order of the numbers, those that agree in the sequence's order
abbrev pub order_place : List ℕ → ℕ → ℕ
order_place tops j =
    count_by (λ t. nat_lt t (slice_index tops j)) tops + count_by (λ t. nat_eq t (slice_index tops j)) (take j tops)

-- a bit as a digit
abbrev pub digit_of : Bool → ℕ
digit_of bit = if bit then 1 else 0

-- the top l digits of each of `len` numbers, as the levels' bits say them
unfoldable pub tops_in : ℕ → List Bool → ℕ → List ℕ
tops_in len bits zero = replicate len 0
tops_in len bits (suc l) =
    map (λ j. 2 * slice_index (tops_in len bits l) j
    + digit_of (slice_index_or bits (l * len + order_place (tops_in len bits l) j) false)) (range_with_len 0 len)

-- the levels' bits are those of the sequence: number j's bit stands where j stands in the order of the top digits
pub record IsTree (width : ℕ) (bits : List Bool) (sequence : List ℕ) : Type 0 where
  pub whole : length bits ≡ width * length sequence
  pub fits : (j : ℕ) → slice_index sequence j < 2 ^ width
  pub stands : (r l j : ℕ) → l + suc r ≡ width → j < length sequence
      → digit_of (slice_index_or bits (l * length sequence + (lesser sequence (suc r) (slice_index sequence j / 2 ^ suc r) + among sequence (suc r) (slice_index sequence j / 2 ^ suc r) j)) false)
      ≡ bit_at (slice_index sequence j) r

-- the numbers whose digits from `shift` on make `top` stand from `start` up to `end` on their level
pub record IsNode (sequence : List ℕ) (shift top start end : ℕ) : Type 0 where
  pub starts : start ≡ lesser sequence shift top
  pub ends : end ≡ start + among sequence shift top (length sequence)

-- a part of a level, and in it the place that the first j numbers of the sequence reach
pub record IsSpot (sequence : List ℕ) (shift top start end j place : ℕ) : Type 0 where
  pub node : IsNode sequence shift top start end
  pub within : j ≤ length sequence
  pub reached : place ≡ start + among sequence shift top j

-- within the numbers that agree with p from digit `shift` on, the p with exactly n p's before it has so many before it
abbrev pub IsOffsetOf : List ℕ → ℕ → ℕ → ℕ → ℕ → Type 0
IsOffsetOf sequence shift p n offset =
    (j : ℕ) → IsPlaceOf sequence p n j → offset ≡ among sequence shift (p / 2 ^ shift) j

-- where among all bits the part of level l begins whose numbers agree with p in the digits above, and the ones before it
pub record IsRung (width len : ℕ) (bits : List Bool) (p l start ones : ℕ) : Type 0 where
  pub begins : start ≡ l * len + lesser (tops_in len bits width) (width - l) (p / 2 ^ (width - l))
  pub counted : ones ≡ rank bits start

-- the two for each level
abbrev pub IsPath : ℕ → ℕ → List Bool → ℕ → List ℕ → List ℕ → Type 0
IsPath width len bits p starts ones =
    (l : ℕ) → l < width → IsRung width len bits p l (slice_index starts l) (slice_index ones l)
