-- A table is read as it was written: each row tells where its section starts and how long it is.
use Rattle.std.proofs.Common.{◌≡◌, ◌≢◌, ℕ, suc, ◌+◌, ◌-◌, ◌*◌, ◌<◌, ◌≤◌, ◌^◌, List, [], ◌∷◌, ◌++◌, All, length, take, drop, set, replicate, min, refl, sym, ◌∙◌, ap, ap₂, subst, arith}
use Rattle.std.specs.Int.{w32, w64, to_be_bytes}
use Rattle.std.specs.List.{flat_map}
use Rattle.std.proofs.lemmas.List.{append_assoc, length-append, length-map, length-set, take_more_set, length-drop, length-take, length-take-le, length-replicate, take-take, take_at, drop_at, take_all, drop-drop, drop-take, take_rest}
use Rattle.std.proofs.lemmas.List.Elements.{All-replicate, All-set}
use Rattle.std.proofs.lemmas.Nat.{from_be_bytes-to_be_bytes_4, from_be_bytes-to_be_bytes_8}
use Rattle.ts_bits.specs.BitArray.{zeros_after}
use Rattle.ts_plane.specs.Plane.{cut}
use Rattle.ts_part.specs.Layout.{AreSections, first_start, padded, row, rows_from}
use Rattle.ts_part.specs.Places.{ArePlaces, IsRow, padding}
use Rattle.ts_part.specs.Read.{number_at}
use Rattle.ts_part.proofs.NumberLemmas.{AreBytes, bytes_there_4, bytes_there_8, number_there, side_by_side}

-- rows i and on are those of sections at these places, one behind another from `start` up to `last`
abbrev pub AreRows : List ℕ → ℕ → ℕ → List (ℕ × ℕ) → ℕ → Type 0
AreRows file i start [] last = start ≡ last
AreRows file i start (place ∷ places) last =
    (place.0 ≡ start) × IsRow file i start place.1 × AreRows file (i + 1) (start + place.1 + padding place.1) places last

-- the numbers that a row tells
pub row_start : (file : List ℕ) (i start size : ℕ) → IsRow file i start size → start < 2 ^ 64 → number_at w64 file (88 + 24 * i + 8) ≡ start
unfolding number_at row
row_start file i start size is fits =
    number_there w64 (88 + 24 * i) 8 24 file (row (i + 1) start size) (omega arith) is.spelled ∙ from_be_bytes-to_be_bytes_8 start fits

pub row_size : (file : List ℕ) (i start size : ℕ) → IsRow file i start size → size < 2 ^ 64 → number_at w64 file (88 + 24 * i + 16) ≡ size
unfolding number_at row
row_size file i start size is fits =
    number_there w64 (88 + 24 * i) 16 24 file (row (i + 1) start size) (omega arith) is.spelled ∙ from_be_bytes-to_be_bytes_8 size fits

pub record RowTells (bytes : List ℕ) (kind start size : ℕ) : Type 0 where
  pub kind_is : number_at w32 bytes 0 ≡ kind
  pub zero_is : number_at w32 bytes 4 ≡ 0
  pub start_is : number_at w64 bytes 8 ≡ start
  pub size_is : number_at w64 bytes 16 ≡ size

pub row_tells : (kind start size : ℕ) → kind < 2 ^ 32 → start < 2 ^ 64 → size < 2 ^ 64 → RowTells (row kind start size) kind start size
unfolding number_at row
row_tells kind start size low_kind low_start low_size = record {
  kind_is = from_be_bytes-to_be_bytes_4 kind low_kind;
  zero_is = refl;
  start_is = from_be_bytes-to_be_bytes_8 start low_start;
  size_is = from_be_bytes-to_be_bytes_8 size low_size;
}

pub row_told : (bytes : List ℕ) (kind start size : ℕ) → AreBytes bytes → length bytes ≡ 24 → RowTells bytes kind start size → bytes ≡ row kind start size
unfolding row
row_told bytes kind start size are long tells =
    let one : take 4 bytes ≡ to_be_bytes w32 kind = bytes_there_4 0 bytes are (omega arith) ∙ ap (to_be_bytes w32) tells.kind_is in
    let two : take 4 (drop 4 bytes) ≡ replicate 4 0 = bytes_there_4 4 bytes are (omega arith) ∙ ap (to_be_bytes w32) tells.zero_is in
    let three : take 8 (drop 8 bytes) ≡ to_be_bytes w64 start = bytes_there_8 8 bytes are (omega arith) ∙ ap (to_be_bytes w64) tells.start_is in
    let four : take 8 (drop 16 bytes) ≡ to_be_bytes w64 size = bytes_there_8 16 bytes are (omega arith) ∙ ap (to_be_bytes w64) tells.size_is in
    sym (take_all 24 bytes (omega arith))
    ∙ side_by_side 16 8 bytes (to_be_bytes w32 kind ++ replicate 4 0 ++ to_be_bytes w64 start) (to_be_bytes w64 size)
    (side_by_side 8 8 bytes (to_be_bytes w32 kind ++ replicate 4 0) (to_be_bytes w64 start)
    (side_by_side 4 4 bytes (to_be_bytes w32 kind) (replicate 4 0) one two) three) four

pub row_says : (file : List ℕ) (i start size n : ℕ) → n ≡ 24 → i < 24 → length file < 2 ^ 64 → IsRow file i start size
    → RowTells (take n (drop (88 + 24 * i) file)) (i + 1) start size
row_says file i start size n e low short is =
    subst (λ bytes. RowTells bytes (i + 1) start size) (sym is.spelled ∙ ap (λ k. take k (drop (88 + 24 * i) file)) (sym e))
    (row_tells (i + 1) start size (omega arith) (omega (arith, is.inside)) (omega (arith, is.inside)))

-- zeros that stand behind so many bytes lie in the file
pub zeros_inside : (file : List ℕ) (start size : ℕ) → start + size ≤ length file → take (padding size) (drop (start + size) file) ≡ zeros_after size
    → start + size + padding size ≤ length file
zeros_inside file start size inside zeros =
    let e : min (padding size) (length file - (start + size)) ≡ padding size =
    ap (min (padding size)) (sym (length-drop (start + size) file)) ∙ sym (length-take (padding size) (drop (start + size) file)) ∙ ap length zeros
    ∙ length-replicate (padding size) 0 in omega arith

-- the zeros behind a section that starts here
pub zeros_behind : (file : List ℕ) (start size : ℕ)
    → take (padding size) (drop size (take (length file - start) (drop start file))) ≡ take (padding size) (drop (start + size) file)
zeros_behind file start size =
    ap (λ xs. take (padding size) (drop size xs)) (take_rest file start) ∙ ap (take (padding size)) (drop-drop size start file)

-- a row tells one size
pub one_size : (file : List ℕ) (i start a b : ℕ) → length file < 2 ^ 64 → IsRow file i start a → IsRow file i start b → a ≡ b
one_size file i start a b short one two =
    let low : a < 2 ^ 64 = omega (arith, one.inside) in
    let low_too : b < 2 ^ 64 = omega (arith, two.inside) in
    sym (row_size file i start a one low) ∙ row_size file i start b two low_too

-- and rows one after another tell one list of places
pub same_rows : (file : List ℕ) (i start m n : ℕ) (ps qs : List (ℕ × ℕ)) → length file < 2 ^ 64 → length ps ≡ length qs
    → AreRows file i start ps m → AreRows file i start qs n → (ps ≡ qs) × (m ≡ n)
same_rows file i start m n [] [] short long one two = (refl, sym one ∙ two)
same_rows file i start m n [] (q ∷ qs) short long one two = absurd (omega arith)
same_rows file i start m n (p ∷ ps) [] short long one two = absurd (omega arith)
same_rows file i start m n (p ∷ ps) (q ∷ qs) short long one two =
    let size : q.1 ≡ p.1 = one_size file i start q.1 p.1 short two.1 one.1 in
    let rest = same_rows file (i + 1) (start + p.1 + padding p.1) m n ps qs short (omega arith) one.2
    (subst (λ size. AreRows file (i + 1) (start + size + padding size) qs n) size two.2) in
    (ap₂ (λ (a : ℕ × ℕ) (others : List (ℕ × ℕ)). a ∷ others) (ap₂ (λ (a b : ℕ). (a, b)) (one.0 ∙ sym two.0) (sym size)) rest.0, rest.1)

-- where more rows go on, the next one tells some size
pub next_row : (file : List ℕ) (i start m n : ℕ) (ps qs : List (ℕ × ℕ)) → length file < 2 ^ 64 → length ps < length qs
    → AreRows file i start ps m → AreRows file i start qs n → (size : ℕ) × IsRow file (i + length ps) m size
next_row file i start m n [] [] short long one two = absurd (omega arith)
next_row file i start m n [] (q ∷ qs) short long one two =
    (q.1, subst (λ k. IsRow file (i + 0) k q.1) one (subst (λ k. IsRow file k start q.1) (omega arith) two.1))
next_row file i start m n (p ∷ ps) [] short long one two = absurd (omega arith)
next_row file i start m n (p ∷ ps) (q ∷ qs) short long one two =
    let size : q.1 ≡ p.1 = one_size file i start q.1 p.1 short two.1 one.1 in
    let rest = next_row file (i + 1) (start + p.1 + padding p.1) m n ps qs short (omega arith) one.2
    (subst (λ size. AreRows file (i + 1) (start + size + padding size) qs n) size two.2) in
    (rest.0, subst (λ k. IsRow file k m rest.0) (omega arith) rest.1)

-- one row more
pub rows_more : (file : List ℕ) (i start m size : ℕ) (ps : List (ℕ × ℕ)) → AreRows file i start ps m → IsRow file (i + length ps) m size
    → AreRows file i start (ps ++ (m, size) ∷ []) (m + size + padding size)
rows_more file i start m size [] rows is =
    (sym rows, subst (λ k. IsRow file k start size) (omega arith) (subst (λ k. IsRow file (i + 0) k size) (sym rows) is), ap (λ k. k + size + padding size) rows)
rows_more file i start m size (p ∷ ps) rows is =
    (rows.0, rows.1, rows_more file (i + 1) (start + p.1 + padding p.1) m size ps rows.2 (subst (λ k. IsRow file k m size) (omega arith) is))

-- the rows end where the last section's zeros do
pub rows_up : (file : List ℕ) (i start m : ℕ) (ps : List (ℕ × ℕ)) → AreRows file i start ps m → start ≤ m
rows_up file i start m [] rows = omega arith
rows_up file i start m (p ∷ ps) rows = let up = rows_up file (i + 1) (start + p.1 + padding p.1) m ps rows.2 in omega arith

-- a section of a row, with its zeros
there : (file : List ℕ) (i start size : ℕ) → IsRow file i start size → length (take size (drop start file)) ≡ size
there file i start size is = length-take-le size (drop start file) (omega (arith, is.inside, length-drop start file))

padded_there : (file : List ℕ) (i start size : ℕ) → IsRow file i start size → take (size + padding size) (drop start file) ≡ padded (take size (drop start file))
padded_there file i start size is =
    side_by_side size (padding size) (drop start file) (take size (drop start file)) (zeros_after size) refl
    (ap (take (padding size)) (drop-drop size start file) ∙ is.zeros)
    ∙ ap (λ n. take size (drop start file) ++ zeros_after n) (sym (there file i start size is))

pub length-row : (kind start size : ℕ) → length (row kind start size) ≡ 24
unfolding row
length-row kind start size = refl

pub length-padded : (section : List ℕ) → length (padded section) ≡ length section + padding (length section)
length-padded section =
    length-append section (zeros_after (length section)) ∙ ap (λ n. length section + n) (length-replicate (padding (length section)) 0)

-- where the section behind starts
start_after : (section : List ℕ) (start size : ℕ) → length section ≡ size → start + length (padded section) ≡ start + size + padding size
start_after section start size e =
    let grown = length-padded section ∙ ap (λ n. n + padding n) e in omega arith

-- such rows are the table of what lies at their places
pub table_of_rows : (file : List ℕ) (i start m : ℕ) (ps : List (ℕ × ℕ)) → AreRows file i start ps m
    → take (24 * length ps) (drop (88 + 24 * i) file) ≡ rows_from (i + 1) start (cut file ps)
unfolding rows_from
table_of_rows file i start m [] rows = refl
table_of_rows file i start m (p ∷ ps) rows =
    let size : length (take p.1 (drop p.0 file)) ≡ p.1 = subst (λ k. length (take p.1 (drop k file)) ≡ p.1) (sym rows.0) (there file i start p.1 rows.1) in
    let rest = table_of_rows file (i + 1) (start + p.1 + padding p.1) m ps rows.2 in
    let both : 24 * suc (length ps) ≡ 24 + 24 * length ps = omega arith in
    let place : 88 + 24 * i + 24 ≡ 88 + 24 * (i + 1) = omega arith in
    ap (λ n. take n (drop (88 + 24 * i) file)) both
    ∙ side_by_side 24 (24 * length ps) (drop (88 + 24 * i) file) (row (i + 1) start p.1) (rows_from (i + 1 + 1) (start + p.1 + padding p.1) (cut file ps))
    rows.1.spelled
    (ap (take (24 * length ps)) (drop-drop 24 (88 + 24 * i) file ∙ ap (λ k. drop k file) place) ∙ rest)
    ∙ ap₂ (λ a b. row (i + 1) start a ++ rows_from (i + 1 + 1) b (cut file ps)) (sym size)
    (sym (start_after (take p.1 (drop p.0 file)) start p.1 size))

pub content_of_rows : (file : List ℕ) (i start m : ℕ) (ps : List (ℕ × ℕ)) → AreRows file i start ps m
    → take (m - start) (drop start file) ≡ flat_map padded (cut file ps)
content_of_rows file i start m [] rows = let none : m - start ≡ 0 = omega arith in ap (λ n. take n (drop start file)) none
content_of_rows file i start m (p ∷ ps) rows =
    let up = rows_up file (i + 1) (start + p.1 + padding p.1) m ps rows.2 in
    let rest = content_of_rows file (i + 1) (start + p.1 + padding p.1) m ps rows.2 in
    let both : m - start ≡ p.1 + padding p.1 + (m - (start + p.1 + padding p.1)) = omega arith in
    let place : start + (p.1 + padding p.1) ≡ start + p.1 + padding p.1 = omega arith in
    ap (λ n. take n (drop start file)) both
    ∙ side_by_side (p.1 + padding p.1) (m - (start + p.1 + padding p.1)) (drop start file) (padded (take p.1 (drop start file))) (flat_map padded (cut file ps))
    (padded_there file i start p.1 rows.1)
    (ap (take (m - (start + p.1 + padding p.1))) (drop-drop (p.1 + padding p.1) start file ∙ ap (λ k. drop k file) place) ∙ rest)
    ∙ ap (λ k. padded (take p.1 (drop k file)) ++ flat_map padded (cut file ps)) (sym rows.0)

pub sections_of_rows : (file : List ℕ) (count : ℕ) (ps : List (ℕ × ℕ)) → length ps ≡ count → AreRows file 0 (first_start count) ps (length file)
    → AreSections file count (cut file ps)
sections_of_rows file count ps long rows = record {
  counted = length-map ps (λ place. take place.1 (drop place.0 file)) ∙ long;
  table = ap (λ n. take (24 * n) (drop 88 file)) (sym long) ∙ table_of_rows file 0 (first_start count) (length file) ps rows;
  content = sym (take_rest file (first_start count))
      ∙ content_of_rows file 0 (first_start count) (length file) ps rows;
}

-- where sections lie one behind another from a start on
abbrev pub places_of : ℕ → List (List ℕ) → List (ℕ × ℕ)
places_of start [] = []
places_of start (section ∷ sections) = (start, length section) ∷ places_of (start + length section + padding (length section)) sections

pub length-places_of : (start : ℕ) (sections : List (List ℕ)) → length (places_of start sections) ≡ length sections
length-places_of start [] = refl
length-places_of start (s ∷ rest) = ap suc (length-places_of (start + length s + padding (length s)) rest)

-- and a table has such rows
rows_there : (file : List ℕ) (i start : ℕ) (sections : List (List ℕ)) → start ≤ length file
    → take (24 * length sections) (drop (88 + 24 * i) file) ≡ rows_from (i + 1) start sections → drop start file ≡ flat_map padded sections
    → AreRows file i start (places_of start sections) (length file)
unfolding rows_from
rows_there file i start [] inside table content = omega (arith, length-drop start file, ap length content)
rows_there file i start (s ∷ rest) inside table content =
    let many : 24 + 24 * length rest ≡ 24 * suc (length rest) = omega arith in
    let place : 88 + 24 * (i + 1) ≡ 88 + 24 * i + 24 = omega arith in
    let behind_it : start + length s + padding (length s) ≡ start + (length s + padding (length s)) = omega arith in
    let others = rows_from (i + 1 + 1) (start + length (padded s)) rest in
    let behind = flat_map padded rest in
    let all : take (24 + 24 * length rest) (drop (88 + 24 * i) file) ≡ row (i + 1) start (length s) ++ others =
    ap (λ n. take n (drop (88 + 24 * i) file)) many ∙ table in
    let up : start + length s + padding (length s) ≤ length file =
    omega (arith, length-drop start file, ap length content, length-append (padded s) behind, length-padded s) in
    let is : IsRow file i start (length s) = record {
      spelled = sym (take-take 24 (24 + 24 * length rest) (drop (88 + 24 * i) file) (omega arith)) ∙ ap (take 24) all
          ∙ take_at (row (i + 1) start (length s)) others 24 (length-row (i + 1) start (length s));
      inside = up;
      zeros = ap (take (padding (length s)))
          (sym (drop-drop (length s) start file) ∙ ap (drop (length s)) (content ∙ append_assoc s (zeros_after (length s)) behind) ∙ drop_at s (zeros_after (length s) ++ behind) (length s) refl)
          ∙ take_at (zeros_after (length s)) behind (padding (length s)) (length-replicate (padding (length s)) 0);
    } in
    let later : take (24 * length rest) (drop (88 + 24 * (i + 1)) file) ≡ rows_from (i + 1 + 1) (start + length s + padding (length s)) rest =
    ap (take (24 * length rest)) (ap (λ k. drop k file) place ∙ sym (drop-drop 24 (88 + 24 * i) file))
    ∙ sym (drop-take 24 (24 * length rest) (drop (88 + 24 * i) file)) ∙ ap (drop 24) all
    ∙ drop_at (row (i + 1) start (length s)) others 24 (length-row (i + 1) start (length s))
    ∙ ap (λ k. rows_from (i + 1 + 1) k rest) (start_after s start (length s) refl) in
    let rest_lies : drop (start + length s + padding (length s)) file ≡ behind =
    ap (λ k. drop k file) behind_it ∙ sym (drop-drop (length s + padding (length s)) start file)
    ∙ ap (drop (length s + padding (length s))) content ∙ drop_at (padded s) behind (length s + padding (length s)) (length-padded s) in
    (refl, is, rows_there file (i + 1) (start + length s + padding (length s)) rest up later rest_lies)

pub length-rows_from : (kind start : ℕ) (sections : List (List ℕ)) → length (rows_from kind start sections) ≡ 24 * length sections
unfolding rows_from
length-rows_from kind start [] = refl
length-rows_from kind start (s ∷ rest) =
    let one = length-row kind start (length s) in
    let more = length-rows_from (kind + 1) (start + length (padded s)) rest in
    let both = length-append (row kind start (length s)) (rows_from (kind + 1) (start + length (padded s)) rest) in
    omega arith

-- the table of some sections lies in the file
pub table_inside : (file : List ℕ) (count : ℕ) (sections : List (List ℕ)) → 1 ≤ count → AreSections file count sections → first_start count ≤ length file
table_inside file count sections some are =
    let whole : min (24 * count) (length file - 88) ≡ 24 * length sections =
    ap (min (24 * count)) (sym (length-drop 88 file)) ∙ sym (length-take (24 * count) (drop 88 file)) ∙ ap length are.table
    ∙ length-rows_from 1 (first_start count) sections in
    omega (arith, are.counted)

pub rows_of_sections : (file : List ℕ) (count : ℕ) (sections : List (List ℕ)) → 1 ≤ count → AreSections file count sections
    → AreRows file 0 (first_start count) (places_of (first_start count) sections) (length file)
rows_of_sections file count sections some are =
    rows_there file 0 (first_start count) sections (table_inside file count sections some are)
    (ap (λ n. take (24 * n) (drop 88 file)) are.counted ∙ are.table) are.content

-- what a table is read as before row i
pub record HasRead (file : List ℕ) (count i start : ℕ) (places : List (ℕ × ℕ)) : Type 0 where
  pub long : length places ≡ 24
  pub rows : AreRows file 0 (first_start count) (take i places) start
  pub inside : start ≤ length file
  pub lie : All (λ place. place.0 + place.1 ≤ length file) places

pub read_none : (file : List ℕ) (count : ℕ) → first_start count ≤ length file → HasRead file count 0 (first_start count) (replicate 24 (0, 0))
read_none file count inside = record {
  long = length-replicate {A = ℕ × ℕ} 24 (0, 0);
  rows = refl;
  inside = inside;
  lie = All-replicate (λ (place : ℕ × ℕ). place.0 + place.1 ≤ length file) 24 (0, 0) (omega arith);
}

pub read_one : (file : List ℕ) (count i start size next : ℕ) (places : List (ℕ × ℕ)) → HasRead file count i start places → i < 24 → IsRow file i start size
    → next ≡ start + size + padding size → HasRead file count (i + 1) next (set places i (start, size))
read_one file count i start size next places read low is e = record {
  long = length-set places i (start, size) ∙ read.long;
  rows = subst (λ ps. AreRows file 0 (first_start count) ps next) (sym (take_more_set places i (start, size) (omega (arith, read.long))))
      (subst (λ m. AreRows file 0 (first_start count) (take i places ++ (start, size) ∷ []) m) (sym e)
      (rows_more file 0 (first_start count) start size (take i places) read.rows
      (subst (λ k. IsRow file k start size) (omega (arith, length-take-le i places (omega (arith, read.long)))) is)));
  inside = omega (arith, is.inside);
  lie = All-set (λ place. place.0 + place.1 ≤ length file) places i (start, size) (omega (arith, is.inside)) read.lie;
}

pub read_whole : (file : List ℕ) (count start : ℕ) (places : List (ℕ × ℕ)) → HasRead file count count start places → count ≤ 24 → start ≡ length file
    → ArePlaces file count places
read_whole file count start places read few e = record {
  inside = read.lie;
  lie = sections_of_rows file count (take count places) (length-take-le count places (omega (arith, read.long)))
      (subst (λ m. AreRows file 0 (first_start count) (take count places) m) e read.rows);
}

-- where a row is missing, there are no sections
pub read_stops : (file : List ℕ) (count i start : ℕ) (places : List (ℕ × ℕ)) → length file < 2 ^ 64 → HasRead file count i start places → i < count → count ≤ 24
    → ((size : ℕ) → ¬ IsRow file i start size) → (sections : List (List ℕ)) → ¬ AreSections file count sections
read_stops file count i start places short read low few none sections are =
    let long = length-take-le i places (omega (arith, read.long)) in
    let next = next_row file 0 (first_start count) start (length file) (take i places) (places_of (first_start count) sections) short
    (omega (arith, long, length-places_of (first_start count) sections, are.counted)) read.rows (rows_of_sections file count sections (omega arith) are) in
    none next.0 (subst (λ k. IsRow file k start next.0) (omega arith) next.1)

-- and where they end elsewhere, neither
pub read_ends : (file : List ℕ) (count start : ℕ) (places : List (ℕ × ℕ)) → length file < 2 ^ 64 → HasRead file count count start places → 1 ≤ count → count ≤ 24
    → start ≢ length file → (sections : List (List ℕ)) → ¬ AreSections file count sections
read_ends file count start places short read some few other sections are =
    let long = length-take-le count places (omega (arith, read.long)) in
    other (same_rows file 0 (first_start count) start (length file) (take count places) (places_of (first_start count) sections) short
    (long ∙ sym are.counted ∙ sym (length-places_of (first_start count) sections)) read.rows (rows_of_sections file count sections some are)).1
