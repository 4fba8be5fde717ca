-- Where the sections of a file lie.
use Rattle.std.specs.Prelude.{◌≡◌, ℕ, ◌+◌, ◌-◌, ◌*◌, ◌%◌, ◌≤◌, List, length, take, drop, All}
use Rattle.ts_bits.specs.BitArray.{zeros_after}
use Rattle.ts_plane.specs.Plane.{cut}
use Rattle.ts_part.specs.Layout.{AreSections, row}

-- how many zeros stand behind so many bytes
abbrev pub padding : ℕ → ℕ
padding size = (8 - size % 8) % 8

-- row i of the table, counted from 0, is that of a section that starts here and is so long, and with its zeros lies in the file
pub record IsRow (file : List ℕ) (i start size : ℕ) : Type 0 where
  pub spelled : take 24 (drop (88 + 24 * i) file) ≡ row (i + 1) start size
  pub inside : start + size + padding size ≤ length file
  pub zeros : take (padding size) (drop (start + size) file) ≡ zeros_after size

-- each place lies in the file, and the first so many are those of its sections
pub record ArePlaces (file : List ℕ) (count : ℕ) (places : List (ℕ × ℕ)) : Type 0 where
  pub inside : All (λ place. place.0 + place.1 ≤ length file) places
  pub lie : AreSections file count (cut file (take count places))
