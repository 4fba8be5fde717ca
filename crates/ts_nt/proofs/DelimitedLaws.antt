-- IRIs and strings at the front of a text: there is one reading, and what is canonical is read back.
use Rattle.std.specs.Prelude.{◌≡◌, ℕ, ◌<◌, List, [], ◌∷◌, ◌++◌, encode_utf8_all, All, refl}
use Rattle.std.specs.Char.{IsScalar}
use Rattle.std.proofs.Common.{sym, ◌∙◌, subst, append_assoc, lit<}
use Rattle.std.proofs.lemmas.List.Elements.{All-nil, All-cons, All-tail, All-rest, All-append}
use Rattle.std.proofs.lemmas.Str.{encodes-append, encode_ascii}
use Rattle.ts_model.specs.Iri.{iri_character, iri_spelling}
use Rattle.ts_model.specs.Literal.{string_character, string_spelling}
use Rattle.ts_nt.specs.Items.{iri_item, string_item}
use Rattle.ts_nt.specs.Reading.{Reads}
use Rattle.ts_nt.specs.Terms.{IsIriRef, IsString}
use Rattle.ts_nt.proofs.ItemLaws.{iri_item-end, iri_item-goes, iri_piece, string_item-end, string_item-goes, string_piece}
use Rattle.ts_nt.proofs.Printing.{Prints}
use Rattle.ts_nt.proofs.ReadsLaws.{Pieces, once_between, pieces, reads_scalars}

-- ---- between two marks

inside_scalars : (text inside : List ℕ) (begin : ℕ) → text ≡ begin ∷ inside → All IsScalar text → All IsScalar inside
inside_scalars text inside begin begins scalars = All-rest IsScalar begin inside text begins scalars

-- the pieces with a mark of ASCII on both sides
delimited_scalars : (begin close : ℕ) (text : List ℕ) → IsScalar begin → IsScalar close → All IsScalar text → All IsScalar (begin ∷ text ++ close ∷ [])
delimited_scalars begin close text first last scalars =
    All-append IsScalar (begin ∷ text) (close ∷ []) (All-cons IsScalar begin text first scalars) (All-cons IsScalar close [] last (All-nil IsScalar))

delimited_bytes : (begin close : ℕ) (text bytes : List ℕ) → begin < 128 → close < 128 → encode_utf8_all text ≡ bytes → encode_utf8_all (begin ∷ text ++ close ∷ []) ≡ begin ∷ bytes ++ close ∷ []
delimited_bytes begin close text bytes first last same =
    let front = encode_ascii begin first in
    let back = encode_ascii close last in
    encodes-append (begin ∷ text) (close ∷ []) ∙ (λ i. (front i ++ same i) ++ (back i ++ []))

-- ---- IRIs

pub iri_ref_once : (text a b r s : List ℕ) → IsIriRef text a r → IsIriRef text b s → (a ≡ b) × (r ≡ s)
iri_ref_once text a b r s first second =
    once_between iri_item 0x3C 0x3E iri_item-end text first.inside second.inside a b r s first.begins first.reads second.begins second.reads

pub iri_ref_scalars : (text characters rest : List ℕ) → All IsScalar text → IsIriRef text characters rest → All IsScalar characters × All IsScalar rest
iri_ref_scalars text characters rest scalars reads =
    let read = reads_scalars iri_item (λ text rest c e. (iri_item-goes text rest c e).1) reads.inside characters (0x3E ∷ rest)
    (inside_scalars text reads.inside 0x3C reads.begins scalars) reads.reads in
    (read.0, All-tail IsScalar 0x3E rest read.1)

pub iri_ref_prints : (characters : List ℕ) → All IsScalar characters → Prints (λ text rest. IsIriRef text characters rest) (iri_spelling characters)
iri_ref_prints characters scalars =
    let inner : Pieces iri_item iri_character characters = pieces iri_item iri_character iri_piece characters scalars in (
      0x3C ∷ inner.0 ++ 0x3E ∷ [],
      delimited_scalars 0x3C 0x3E inner.0 refl refl inner.1,
      delimited_bytes 0x3C 0x3E inner.0 _ (lit< tt) (lit< tt) inner.2,
      λ more. record {
        inside = (inner.0 ++ 0x3E ∷ []) ++ more;
        begins = refl;
        reads = subst (λ (l : List ℕ). Reads iri_item l characters (0x3E ∷ more)) (sym (append_assoc inner.0 (0x3E ∷ []) more)) (inner.3 (0x3E ∷ more));
      },
    )

-- ---- strings

pub string_once : (text a b r s : List ℕ) → IsString text a r → IsString text b s → (a ≡ b) × (r ≡ s)
string_once text a b r s first second =
    once_between string_item 0x22 0x22 string_item-end text first.inside second.inside a b r s first.begins first.reads second.begins second.reads

pub string_scalars : (text characters rest : List ℕ) → All IsScalar text → IsString text characters rest → All IsScalar characters × All IsScalar rest
string_scalars text characters rest scalars reads =
    let read = reads_scalars string_item (λ text rest c e. (string_item-goes text rest c e).1) reads.inside characters (0x22 ∷ rest)
    (inside_scalars text reads.inside 0x22 reads.begins scalars) reads.reads in
    (read.0, All-tail IsScalar 0x22 rest read.1)

pub string_prints : (characters : List ℕ) → All IsScalar characters → Prints (λ text rest. IsString text characters rest) (string_spelling characters)
string_prints characters scalars =
    let inner : Pieces string_item string_character characters = pieces string_item string_character string_piece characters scalars in (
      0x22 ∷ inner.0 ++ 0x22 ∷ [],
      delimited_scalars 0x22 0x22 inner.0 refl refl inner.1,
      delimited_bytes 0x22 0x22 inner.0 _ (lit< tt) (lit< tt) inner.2,
      λ more. record {
        inside = (inner.0 ++ 0x22 ∷ []) ++ more;
        begins = refl;
        reads = subst (λ (l : List ℕ). Reads string_item l characters (0x22 ∷ more)) (sym (append_assoc inner.0 (0x22 ∷ []) more)) (inner.3 (0x22 ∷ more));
      },
    )
