-- The sections that a file's table tells: there is one list of them.
use Rattle.std.proofs.Common.{◌≡◌, ℕ, zero, suc, ◌+◌, ◌-◌, ◌*◌, ◌^◌, ◌<◌, ◌≤◌, min, List, [], ◌∷◌, ◌++◌, length, get_or, take, drop, map, refl, sym, ◌∙◌, ap, ap₂, arith, length-append}
use Rattle.std.specs.Int.{w64, to_be_bytes, from_be_bytes}
use Rattle.std.specs.List.{flat_map, range_with_len}
use Rattle.std.proofs.lemmas.Nat.{from_be_bytes-to_be_bytes_8}
use Rattle.std.proofs.lemmas.List.{append_assoc, length-take, length-drop, take_at, drop_at, take-take, drop-take, drop-drop, ext_get_or}
use Rattle.std.proofs.lemmas.List.Folds.{length-flat_map-take}
use Rattle.std.proofs.lemmas.List.FromFn.{length-map-range_with_len, get_or-map-range_with_len}
use Rattle.ts_bits.specs.BitArray.{zeros_after}
use Rattle.ts_part.specs.Layout.{padded, row, rows_from, first_start, AreSections}
use Rattle.ts_part.specs.Read.{number_at, section_in, sections_in}

length-row : (kind start size : ℕ) → length (row kind start size) ≡ 24
unfolding row
length-row kind start size = refl

-- past a front, and so many more
drop_front : (front rest : List ℕ) (n m : ℕ) → length front ≡ n → drop (n + m) (front ++ rest) ≡ drop m rest
drop_front front rest n m long = sym (drop-drop m n (front ++ rest)) ∙ ap (drop m) (drop_at front rest n long)

-- how many bytes the sections before section i take, with their zeros
abbrev pub bytes_before : List (List ℕ) → ℕ → ℕ
bytes_before sections i = length (flat_map padded (take i sections))

row_in : (i kind start : ℕ) (sections : List (List ℕ)) → i < length sections
    → take 24 (drop (24 * i) (rows_from kind start sections)) ≡ row (kind + i) (start + bytes_before sections i) (length (get_or sections i []))
unfolding rows_from
row_in i kind start [] h = absurd (omega arith)
row_in zero kind start (s ∷ rest) h =
    let same_kind : kind ≡ kind + 0 = omega arith in
    let same_start : start ≡ start + 0 = omega arith in
    take_at (row kind start (length s)) (rows_from (kind + 1) (start + length (padded s)) rest) 24 (length-row kind start (length s))
    ∙ ap₂ (λ k p. row k p (length s)) same_kind same_start
row_in (suc i) kind start (s ∷ rest) h =
    let further : 24 * suc i ≡ 24 + 24 * i = omega arith in
    let same_kind : kind + 1 + i ≡ kind + suc i = omega arith in
    let same_start : start + length (padded s) + bytes_before rest i ≡ start + length (padded s ++ flat_map padded (take i rest)) =
    omega (arith, length-append (padded s) (flat_map padded (take i rest))) in
    ap (λ n. take 24 (drop n (row kind start (length s) ++ rows_from (kind + 1) (start + length (padded s)) rest))) further
    ∙ ap (take 24) (drop_front (row kind start (length s)) (rows_from (kind + 1) (start + length (padded s)) rest) 24 (24 * i) (length-row kind start (length s)))
    ∙ row_in i (kind + 1) (start + length (padded s)) rest (omega arith)
    ∙ ap₂ (λ k p. row k p (length (get_or rest i []))) same_kind same_start

length-rows_from : (kind start : ℕ) (sections : List (List ℕ)) → length (rows_from kind start sections) ≡ 24 * length sections
unfolding rows_from
length-rows_from kind start [] = refl
length-rows_from kind start (s ∷ rest) =
    omega (
      arith,
      length-append (row kind start (length s)) (rows_from (kind + 1) (start + length (padded s)) rest),
      length-row kind start (length s),
      length-rows_from (kind + 1) (start + length (padded s)) rest,
    )

content_in : (i : ℕ) (sections : List (List ℕ)) → i < length sections
    → take (length (get_or sections i [])) (drop (bytes_before sections i) (flat_map padded sections)) ≡ get_or sections i []
content_in i [] h = absurd (omega arith)
content_in zero (s ∷ rest) h =
    ap (take (length s)) (append_assoc s (zeros_after (length s)) (flat_map padded rest))
    ∙ take_at s (zeros_after (length s) ++ flat_map padded rest) (length s) refl
content_in (suc i) (s ∷ rest) h =
    ap (λ n. take (length (get_or rest i [])) (drop n (padded s ++ flat_map padded rest))) (length-append (padded s) (flat_map padded (take i rest)))
    ∙ ap (take (length (get_or rest i []))) (drop_front (padded s) (flat_map padded rest) (length (padded s)) (bytes_before rest i) refl)
    ∙ content_in i rest (omega arith)

-- what stands in a part of 24 bytes
eight_in : (at place : ℕ) (file bytes : List ℕ) → take 24 (drop place file) ≡ bytes → at + 8 ≤ 24 → take 8 (drop (place + at) file) ≡ take 8 (drop at bytes)
eight_in at place file bytes e h =
    let rest : at + (24 - at) ≡ 24 = omega arith in
    ap (take 8) (sym (drop-drop at place file))
    ∙ sym (take-take 8 (24 - at) (drop at (drop place file)) (omega arith))
    ∙ ap (take 8) (sym (drop-take at (24 - at) (drop place file)) ∙ ap (λ n. drop at (take n (drop place file))) rest ∙ ap (drop at) e)

start_bytes : (kind start size : ℕ) → take 8 (drop 8 (row kind start size)) ≡ to_be_bytes w64 start
unfolding row
start_bytes kind start size = refl

size_bytes : (kind start size : ℕ) → take 8 (drop 16 (row kind start size)) ≡ to_be_bytes w64 size
unfolding row
size_bytes kind start size = refl

-- what a row says
row_tells : (file : List ℕ) (i kind start size : ℕ) → take 24 (drop (88 + 24 * i) file) ≡ row kind start size → start < 2 ^ 64 → size < 2 ^ 64
    → section_in file i ≡ take size (drop start file)
unfolding section_in number_at
row_tells file i kind start size e small_start small_size =
    ap₂ (λ n m. take n (drop m file))
    (ap (from_be_bytes w64) (eight_in 16 (88 + 24 * i) file (row kind start size) e (omega arith) ∙ size_bytes kind start size) ∙ from_be_bytes-to_be_bytes_8 size small_size)
    (ap (from_be_bytes w64) (eight_in 8 (88 + 24 * i) file (row kind start size) e (omega arith) ∙ start_bytes kind start size) ∙ from_be_bytes-to_be_bytes_8 start small_start)

pub row_there : (file : List ℕ) (count i : ℕ) (sections : List (List ℕ)) → AreSections file count sections → i < count
    → take 24 (drop (88 + 24 * i) file) ≡ row (1 + i) (first_start count + bytes_before sections i) (length (get_or sections i []))
row_there file count i sections lie h =
    let rest : 24 * i + (24 * count - 24 * i) ≡ 24 * count = omega arith in
    ap (take 24) (sym (drop-drop (24 * i) 88 file))
    ∙ sym (take-take 24 (24 * count - 24 * i) (drop (24 * i) (drop 88 file)) (omega arith))
    ∙ ap (take 24) (sym (drop-take (24 * i) (24 * count - 24 * i) (drop 88 file)) ∙ ap (λ n. drop (24 * i) (take n (drop 88 file))) rest ∙ ap (drop (24 * i)) lie.table)
    ∙ row_in i 1 (first_start count) sections (omega (arith, lie.counted))

-- where section i ends in the file
pub section_ends : (file : List ℕ) (count i : ℕ) (sections : List (List ℕ)) → AreSections file count sections → i < count
    → first_start count + bytes_before sections i + length (get_or sections i []) ≤ length file
section_ends file count i sections lie h =
    let table : min (24 * count) (length file - 88) ≡ 24 * count =
    ap (min (24 * count)) (sym (length-drop 88 file)) ∙ sym (length-take (24 * count) (drop 88 file)) ∙ ap length lie.table
    ∙ length-rows_from 1 (first_start count) sections ∙ ap (λ n. 24 * n) lie.counted in
    let long : length file - first_start count ≡ length (flat_map padded sections) = sym (length-drop (first_start count) file) ∙ ap length lie.content in
    let reaches = length-flat_map-take padded sections i [] (omega (arith, lie.counted)) in
    omega (arith, table, long, reaches, length-append (get_or sections i []) (zeros_after (length (get_or sections i []))))

section_there : (file : List ℕ) (count i : ℕ) (sections : List (List ℕ)) → length file < 2 ^ 64 → AreSections file count sections → i < count
    → section_in file i ≡ get_or sections i []
section_there file count i sections small lie h =
    let ends = section_ends file count i sections lie h in
    row_tells file i (1 + i) (first_start count + bytes_before sections i) (length (get_or sections i [])) (row_there file count i sections lie h) (omega arith) (omega arith)
    ∙ ap (take (length (get_or sections i []))) (sym (drop-drop (bytes_before sections i) (first_start count) file) ∙ ap (drop (bytes_before sections i)) lie.content)
    ∙ content_in i sections (omega (arith, lie.counted))

pub sections_read : (file : List ℕ) (count : ℕ) (sections : List (List ℕ)) → length file < 2 ^ 64 → AreSections file count sections → sections_in file count ≡ sections
unfolding sections_in
sections_read file count sections small lie =
    let long = length-map-range_with_len (section_in file) 0 count in
    ext_get_or [] (map (section_in file) (range_with_len 0 count)) sections (long ∙ sym lie.counted)
    (λ i h.
    (let within : i < count = omega (arith, long) in
    get_or-map-range_with_len (section_in file) 0 count i i [] within (omega arith) ∙ section_there file count i sections small lie within))

-- a file has one list of sections
pub one_layout : (file : List ℕ) (count : ℕ) (a b : List (List ℕ)) → length file < 2 ^ 64 → AreSections file count a → AreSections file count b → a ≡ b
one_layout file count a b small lie_a lie_b = sym (sections_read file count a small lie_a) ∙ sections_read file count b small lie_b
