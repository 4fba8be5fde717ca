-- What is the same of ones and of zeros: counts and places of the bits of one kind.
use Rattle.std.specs.Prelude.{◌≡◌, ℕ, ◌+◌, ◌-◌, ◌*◌, ◌^◌, ◌/◌, ◌%◌, ◌<◌, ◌≤◌, Bool, true, if◌then◌else◌, List, Some, slice_get, count_ones}
use Rattle.ts_bits.specs.Rank.{rank}
use Rattle.ts_bits.specs.Ranked.{number_in}

-- how many of i bits are of this kind, where so many are ones
abbrev pub of_kind : Bool → ℕ → ℕ → ℕ
of_kind kind i ones = if kind then ones else i - ones

-- the bits of this kind among the first i
abbrev pub kind_rank : Bool → List Bool → ℕ → ℕ
kind_rank kind bits i = of_kind kind i (rank bits i)

-- those of this kind in all words before superblock k
abbrev pub superblock_rank : Bool → List Bool → ℕ → ℕ
superblock_rank kind bits k = kind_rank kind bits (512 * k)

-- at this place stands a bit of this kind, with exactly n of its kind before it
pub record IsPlaceOfKind (kind : Bool) (bits : List Bool) (n place : ℕ) : Type 0 where
  pub bit : slice_get bits place ≡ Some kind
  pub before : kind_rank kind bits place ≡ n

-- those of this kind before superblock k, as the bytes say
abbrev pub before_superblock : Bool → List ℕ → ℕ → ℕ
before_superblock kind superblocks k = of_kind kind (512 * k) (number_in 8 superblocks k)

-- those of this kind in its superblock before word k, as the bytes say
abbrev pub before_word : Bool → List ℕ → ℕ → ℕ
before_word kind counts k = of_kind kind (64 * (k % 8)) (number_in 2 counts k)

-- those of this kind among the first p bits of a word
abbrev pub before_place : Bool → ℕ → ℕ → ℕ
before_place kind word p = of_kind kind p (count_ones (word / 2 ^ (64 - p)))

-- a rising row of counts, as long as `end`, passes n from place `low` to place `high`
pub record Brackets (counts : ℕ → ℕ) (end n low high : ℕ) : Type 0 where
  pub order : low < high
  pub within : high ≤ end
  pub below : counts low ≤ n
  pub above : high < end → n < counts high

-- the first one of a word at or behind place `from` stands at this place
pub record IsNextInWord (word from place : ℕ) : Type 0 where
  pub after : from ≤ place
  pub within : place < 64
  pub between : before_place true word place ≡ before_place true word from
  pub one : before_place true word (place + 1) ≡ before_place true word from + 1
