-- A bit for each object, in words of 64: 1 where the object is marked.
use Rattle.std.specs.Prelude.{◌≡◌, ℕ, ◌/◌, ◌%◌, ◌<◌, List, length, slice_index}
use Rattle.std.specs.Int.{bit_at}

abbrev pub IsMarked : List ℕ → ℕ → Type 0
IsMarked words i = bit_at (slice_index words (i / 64)) (i % 64) ≡ 1

-- there is a word for each of the first n bits
abbrev pub HoldsMarks : List ℕ → ℕ → Type 0
HoldsMarks words n = (i : ℕ) → i < n → i / 64 < length words
