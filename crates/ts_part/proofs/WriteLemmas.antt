-- Sections and rows as they are written, one behind another.
use Rattle.std.proofs.Common.{◌≡◌, ℕ, zero, suc, ◌+◌, ◌<◌, ◌≤◌, List, [], ◌∷◌, ◌++◌, length, get_or, map, drop, refl, sym, ◌∙◌, ap, ap₂, arith, append_assoc, length-append}
use Rattle.std.specs.List.{flat_map}
use Rattle.std.proofs.lemmas.List.{append-nil, drop_all, drop_more, length-map, map-append}
use Rattle.std.proofs.lemmas.List.Concat.{flat_map-append}
use Rattle.ts_bits.specs.BitArray.{zeros_after}
use Rattle.ts_part.specs.Layout.{padded, row, rows_from}
use Rattle.ts_part.specs.Places.{padding}
use Rattle.ts_part.proofs.LayoutLemmas.{length-padded}

-- bytes behind bytes
pub joined : (old a b one two : List ℕ) → one ≡ old ++ a → two ≡ one ++ b → two ≡ old ++ (a ++ b)
joined old a b one two e f = f ∙ ap (λ l. l ++ b) e ∙ append_assoc old a b

-- one more section behind others
pub content_more : (sections : List (List ℕ)) (section : List ℕ) → (flat_map padded sections ++ section) ++ zeros_after (length section) ≡ flat_map padded (sections ++ section ∷ [])
content_more sections section =
    append_assoc (flat_map padded sections) section (zeros_after (length section))
    ∙ ap (λ bytes. flat_map padded sections ++ bytes) (sym (append-nil (padded section)))
    ∙ sym (flat_map-append padded sections (section ∷ []))

pub sizes_more : (sections : List (List ℕ)) (section : List ℕ) → map length sections ++ length section ∷ [] ≡ map length (sections ++ section ∷ [])
sizes_more sections section = sym (map-append length sections (section ∷ []))

-- the rows up to some row are written, and the next section starts at a place
pub record IsWriting (sections : List (List ℕ)) (start : ℕ) (before file : List ℕ) (i at : ℕ) : Type 0 where
  pub rows : file ++ rows_from (i + 1) at (drop i sections) ≡ before ++ rows_from 1 start sections
  pub place : at + length (flat_map padded (drop i sections)) ≡ start + length (flat_map padded sections)

pub writing_none : (sections : List (List ℕ)) (start : ℕ) (before : List ℕ) → IsWriting sections start before before 0 start
writing_none sections start before = record { rows = refl; place = refl }

-- the next section
pub record IsNext (sections : List (List ℕ)) (i at size : ℕ) : Type 0 where
  pub section : List ℕ
  pub long : length section ≡ size
  pub rest : drop i sections ≡ section ∷ drop (i + 1) sections

size_at : (sections : List (List ℕ)) (i : ℕ) → i < length sections → get_or (map length sections) i 0 ≡ length (get_or sections i [])
size_at [] i h = absurd (omega arith)
size_at (s ∷ sections) zero h = refl
size_at (s ∷ sections) (suc i) h = size_at sections i (omega arith)

pub next_section : (sections : List (List ℕ)) (sizes : List ℕ) (i at : ℕ) → sizes ≡ map length sections → i < length sizes
    → IsNext sections i at (get_or sizes i 0)
next_section sections sizes i at are low =
    let inside : i < length sections = omega (arith, ap length are, length-map sections (λ (s : List ℕ). length s)) in
    record {
      section = get_or sections i [];
      long = sym (size_at sections i inside) ∙ ap (λ l. get_or l i 0) (sym are);
      rest = drop_more sections i [] inside;
    }

-- the section and its zeros end within all of them
pub next_fits : (sections : List (List ℕ)) (start : ℕ) (before file : List ℕ) (i at size : ℕ) → IsWriting sections start before file i at
    → IsNext sections i at size → at + size + padding size ≤ start + length (flat_map padded sections)
next_fits sections start before file i at size is next =
    let more = length-append (padded next.section) (flat_map padded (drop (i + 1) sections)) in
    let long = length-padded next.section ∙ ap (λ n. n + padding n) next.long in
    let whole : length (flat_map padded (drop i sections)) ≡ length (padded next.section ++ flat_map padded (drop (i + 1) sections)) = ap (λ l. length (flat_map padded l)) next.rest in
    omega (arith, is.place)

pub writing_more : (sections : List (List ℕ)) (start : ℕ) (before file : List ℕ) (i at size : ℕ) → IsWriting sections start before file i at
    → IsNext sections i at size → IsWriting sections start before (file ++ row (i + 1) at size) (i + 1) (at + (size + padding size))
unfolding rows_from
writing_more sections start before file i at size is next =
    let more = length-append (padded next.section) (flat_map padded (drop (i + 1) sections)) in
    let long : length (padded next.section) ≡ size + padding size = length-padded next.section ∙ ap (λ n. n + padding n) next.long in
    let whole : length (flat_map padded (drop i sections)) ≡ length (padded next.section ++ flat_map padded (drop (i + 1) sections)) = ap (λ l. length (flat_map padded l)) next.rest in
    let behind : List ℕ = rows_from (i + 1 + 1) (at + (size + padding size)) (drop (i + 1) sections) in
    let here : rows_from (i + 1) at (drop i sections) ≡ row (i + 1) at size ++ behind =
    ap (rows_from (i + 1) at) next.rest
    ∙ ap₂ (λ n m. row (i + 1) at n ++ rows_from (i + 1 + 1) (at + m) (drop (i + 1) sections)) next.long long in
    record {
      rows = append_assoc file (row (i + 1) at size) behind ∙ ap (λ bytes. file ++ bytes) (sym here) ∙ is.rows;
      place = omega (arith, is.place);
    }

pub writing_all : (sections : List (List ℕ)) (sizes : List ℕ) (start : ℕ) (before file : List ℕ) (i at : ℕ) → sizes ≡ map length sections → length sizes ≤ i
    → IsWriting sections start before file i at → file ≡ before ++ rows_from 1 start sections
unfolding rows_from
writing_all sections sizes start before file i at are all is =
    let none : drop i sections ≡ [] = drop_all i sections (omega (arith, ap length are, length-map sections (λ (s : List ℕ). length s))) in
    sym (append-nil file) ∙ ap (λ l. file ++ rows_from (i + 1) at l) (sym none) ∙ is.rows
