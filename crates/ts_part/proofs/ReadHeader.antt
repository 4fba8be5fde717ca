-- The header that a file begins with is read from its bytes.
use Rattle.std.proofs.Common.{◌≡◌, ◌≢◌, ℕ, List, ◌++◌, take, drop, Some, refl, sym, ◌∙◌, ap}
use Rattle.std.proofs.lemmas.List.{take-append-drop}
use Rattle.std.proofs.lemmas.Nat.{from_be_bytes-to_be_bytes_4, from_be_bytes-to_be_bytes_8}
use Rattle.ts_part.specs.declared.header.Header.{Header}
use Rattle.ts_part.specs.declared.header.PartKind.{PartKind}
use Rattle.ts_part.specs.declared.header.PartKind.TheVariants.{Layer, Rollup}
use Rattle.ts_part.specs.Header.{FitsHeader, header_bytes, kind_number, parent_number}
use Rattle.ts_part.specs.Read.{fields_in, header_in, kind_in, number_at, parent_in}
use Rattle.ts_part.proofs.HeaderLemmas.{parent_of_number, same_header}

pub kind_read : (kind : PartKind) → kind_in (kind_number kind) ≡ kind
kind_read Layer = refl
kind_read Rollup = refl

-- the fields, of the bytes of a header with others behind it
fields_read : (h : Header) (rest : List ℕ) → FitsHeader h → h.parent ≢ Some 0 → fields_in h.kind (header_bytes h ++ rest) ≡ h
unfolding fields_in number_at header_bytes
fields_read h rest fits some =
    same_header (fields_in h.kind (header_bytes h ++ rest)) h refl
    (from_be_bytes-to_be_bytes_4 h.number fits.number)
    (ap parent_in (from_be_bytes-to_be_bytes_4 (parent_number h.parent) fits.parent) ∙ parent_of_number h.parent some)
    (from_be_bytes-to_be_bytes_8 h.terms_before fits.terms_before)
    (from_be_bytes-to_be_bytes_8 h.predicates_before fits.predicates_before)
    (from_be_bytes-to_be_bytes_8 h.nodes fits.nodes)
    (from_be_bytes-to_be_bytes_8 h.values fits.values)
    (from_be_bytes-to_be_bytes_8 h.predicates fits.predicates)
    (from_be_bytes-to_be_bytes_8 h.additions fits.additions)
    (from_be_bytes-to_be_bytes_8 h.removals fits.removals)
    (from_be_bytes-to_be_bytes_8 h.length fits.length)

joined_read : (h : Header) (rest : List ℕ) → FitsHeader h → h.parent ≢ Some 0 → header_in (header_bytes h ++ rest) ≡ h
unfolding header_in header_bytes
joined_read h rest fits some = ap (λ k. fields_in k (header_bytes h ++ rest)) (kind_read h.kind) ∙ fields_read h rest fits some

pub header_read : (file : List ℕ) (h : Header) → take 88 file ≡ header_bytes h → FitsHeader h → h.parent ≢ Some 0 → header_in file ≡ h
header_read file h e fits some =
    ap header_in (sym (take-append-drop 88 file) ∙ ap (λ (bytes : List ℕ). bytes ++ drop 88 file) e) ∙ joined_read h (drop 88 file) fits some
