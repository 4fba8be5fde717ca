-- How sections lie in a file: behind the header a table with a row of 24 bytes for each, and then the sections.
use Rattle.std.specs.Prelude.{◌≡◌, ℕ, ◌+◌, ◌-◌, ◌*◌, List, [], ◌∷◌, ◌++◌, length, take, drop, replicate, flat_map, slice_index_or}
use Rattle.std.specs.Int.{w32, w64, to_be_bytes}
use Rattle.ts_bits.specs.BitArray.{zeros_after}

-- a section, and zeros up to a multiple of 8
abbrev pub padded : List ℕ → List ℕ
padded section = section ++ zeros_after (length section)

-- the kind of a section, four zeros, where it starts, how long it is
unfoldable pub row : ℕ → ℕ → ℕ → List ℕ
row kind start size = to_be_bytes w32 kind ++ replicate 4 0 ++ to_be_bytes w64 start ++ to_be_bytes w64 size

-- the rows of sections that lie one after another, where the first has this kind and starts there
unfoldable pub rows_from : ℕ → ℕ → List (List ℕ) → List ℕ
rows_from kind start [] = []
rows_from kind start (section ∷ sections) =
    row kind start (length section) ++ rows_from (kind + 1) (start + length (padded section)) sections

-- where the first of so many sections starts: behind the table
abbrev pub first_start : ℕ → ℕ
first_start count = 88 + 24 * count

-- the file has these sections, and behind its header nothing but them: the kinds count from 1
pub record AreSections (file : List ℕ) (count : ℕ) (sections : List (List ℕ)) : Type 0 where
  pub counted : length sections ≡ count
  pub table : take (24 * count) (drop 88 file) ≡ rows_from 1 (first_start count) sections
  pub content : drop (first_start count) file ≡ flat_map padded sections

-- the section of a kind
abbrev pub of_kind : List (List ℕ) → ℕ → List ℕ
of_kind sections kind = slice_index_or sections (kind - 1) []

-- the eight sections of a plane, of which the first has this kind
abbrev pub plane_from : List (List ℕ) → ℕ → List (List ℕ)
plane_from sections kind = take 8 (drop (kind - 1) sections)
