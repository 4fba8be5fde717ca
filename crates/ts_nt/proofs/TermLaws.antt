-- Literals and terms at the front of a text: there is one reading, it is canonical, and what is canonical is read back.
use Rattle.std.proofs.Common.{◌≡◌, ◌≢◌, ◌<◌, inl, inr, ℕ, Bool, true, false, cond, List, [], ◌∷◌, ◌++◌, get_or, All, encode_utf8_all, refl, sym, ap, subst, ◌∙◌, arith, lit<, append_assoc, true≢false}
use Rattle.std.specs.Char.{IsScalar}
use Rattle.std.specs.Str.{bytes_eq}
use Rattle.std.proofs.lemmas.List.Elements.{All-cons, All-nil, All-append, All-tail, All-rest}
use Rattle.std.proofs.lemmas.Bool.{false_from_ne_true}
use Rattle.std.proofs.lemmas.Slice.Eq.{bytes_eq-Decides}
use Rattle.std.proofs.lemmas.Str.{encode_ascii, encodes-append, encodes_same}
use Rattle.ts_model.specs.declared.term.TermKind.{TermKind}
use Rattle.ts_model.specs.declared.term.TermKind.TheVariants.{Node, Predicate, Value}
use Rattle.ts_model.specs.Canonical.{IsCanonical}
use Rattle.ts_model.specs.Iri.{IsIri, iri_spelling}
use Rattle.ts_model.specs.Literal.{IsLiteral, IsEnding, IsTypeEnding, string_spelling, string_type}
use Rattle.ts_nt.specs.Terms.{IsIriRef, IriAt, LabelAt, StringAt, TypeAt, TagAt, EndingAt, LiteralAt, TermAt, type_ending, begins_ending}
use Rattle.ts_nt.proofs.VerbatimLaws.{label_once, label_canonical, label_prints, tag_once, tag_canonical, tag_prints}
use Rattle.ts_nt.proofs.Printing.{Prints, PrintsBeforeSpace}
use Rattle.ts_nt.proofs.ScalarLaws.{All-from_scalars}
use Rattle.ts_nt.proofs.DelimitedLaws.{iri_ref_once, iri_ref_scalars, iri_ref_prints, string_once, string_scalars, string_prints}

-- ---- first characters

-- the text begins with this character
abbrev pub Begins : List ℕ → ℕ → Type 0
Begins text c = (others : List ℕ) × (text ≡ c ∷ others)

first : (text : List ℕ) (c : ℕ) → Begins text c → get_or text 0 0 ≡ c
first text c begins = ap (λ t. get_or t 0 0) begins.1

-- it begins with one character
pub begins_once : (text : List ℕ) (c d : ℕ) → Begins text c → Begins text d → c ≡ d
begins_once text c d one other = sym (first text c one) ∙ first text d other

pub iri_begins : (text spelling rest : List ℕ) → IriAt text spelling rest → Begins text 0x3C
iri_begins text spelling rest at = (at.1.inside, at.1.begins)

pub label_begins : (text spelling rest : List ℕ) → LabelAt text spelling rest → Begins text 0x5F
label_begins text spelling rest at = (0x3A ∷ at.0, at.2)

pub string_begins : (text spelling rest : List ℕ) → StringAt text spelling rest → Begins text 0x22
string_begins text spelling rest at = (at.1.inside, at.1.begins)

pub literal_begins : (text spelling rest : List ℕ) → LiteralAt text spelling rest → Begins text 0x22
literal_begins text spelling rest at = string_begins text at.0 at.1 at.3

pub type_begins : (text ending rest : List ℕ) → TypeAt text ending rest → Begins text 0x5E
type_begins text ending rest at = (0x5E ∷ at.0, at.2)

pub tag_begins : (text ending rest : List ℕ) → TagAt text ending rest → Begins text 0x40
tag_begins text ending rest at = (at.0, at.2)

-- ---- one reading

pub iri_once : (text a b r s : List ℕ) → IriAt text a r → IriAt text b s → (a ≡ b) × (r ≡ s)
iri_once text a b r s one other =
    let same = iri_ref_once text one.0 other.0 r s one.1 other.1 in
    (one.2 ∙ ap iri_spelling same.0 ∙ sym other.2, same.1)

pub string_at_once : (text a b r s : List ℕ) → StringAt text a r → StringAt text b s → (a ≡ b) × (r ≡ s)
string_at_once text a b r s one other =
    let same = string_once text one.0 other.0 r s one.1 other.1 in
    (one.2 ∙ ap string_spelling same.0 ∙ sym other.2, same.1)

pub type_once : (text a b r s : List ℕ) → TypeAt text a r → TypeAt text b s → (a ≡ b) × (r ≡ s)
type_once text a b r s (behind, iri, begins, at, spelled) (behind', iri', begins', at', spelled') =
    let behinds : behind ≡ behind' = cc in
    let same = iri_once behind' iri iri' r s (subst (λ t. IriAt t iri r) behinds at) at' in
    (spelled ∙ ap type_ending same.0 ∙ sym spelled', same.1)

no_type_and_tag : (text a b r s : List ℕ) → TypeAt text a r → TagAt text b s → ⊥
no_type_and_tag text a b r s one other =
    let same = begins_once text 0x5E 0x40 (type_begins text a r one) (tag_begins text b s other) in omega (arith, same)

type_ends : (text ending rest : List ℕ) → TypeAt text ending rest → begins_ending text ≡ true
type_ends text ending rest at = ap begins_ending (type_begins text ending rest at).1

tag_ends : (text ending rest : List ℕ) → TagAt text ending rest → begins_ending text ≡ true
tag_ends text ending rest at = ap begins_ending (tag_begins text ending rest at).1

pub ending_once : (text a b r s : List ℕ) → EndingAt text a r → EndingAt text b s → (a ≡ b) × (r ≡ s)
ending_once text a b r s (inl one) (inl other) = type_once text a b r s one other
ending_once text a b r s (inl one) (inr (inl other)) = absurd (no_type_and_tag text a b r s one other)
ending_once text a b r s (inl one) (inr (inr other)) = absurd (true≢false (sym (type_ends text a r one) ∙ other.0))
ending_once text a b r s (inr (inl one)) (inl other) = absurd (no_type_and_tag text b a s r other one)
ending_once text a b r s (inr (inl one)) (inr (inl other)) = tag_once text a b r s one other
ending_once text a b r s (inr (inl one)) (inr (inr other)) = absurd (true≢false (sym (tag_ends text a r one) ∙ other.0))
ending_once text a b r s (inr (inr one)) (inl other) = absurd (true≢false (sym (type_ends text b s other) ∙ one.0))
ending_once text a b r s (inr (inr one)) (inr (inl other)) = absurd (true≢false (sym (tag_ends text b s other) ∙ one.0))
ending_once text a b r s (inr (inr one)) (inr (inr other)) = (one.1 ∙ sym other.1, one.2 ∙ sym other.2)

pub literal_once : (text a b r s : List ℕ) → LiteralAt text a r → LiteralAt text b s → (a ≡ b) × (r ≡ s)
literal_once text a b r s (string, behind, ending, at, ends, spelled) (string', behind', ending', at', ends', spelled') =
    let strings = string_at_once text string string' behind behind' at at' in
    let endings = ending_once behind' ending ending' r s (subst (λ t. EndingAt t ending r) strings.1 ends) ends' in
    (spelled ∙ (λ i. strings.0 i ++ endings.0 i) ∙ sym spelled', endings.1)

pub term_once : (kind : TermKind) (text a b r s : List ℕ) → TermAt kind text a r → TermAt kind text b s → (a ≡ b) × (r ≡ s)
term_once Node text a b r s (inl one) (inl other) = iri_once text a b r s one other
term_once Node text a b r s (inl one) (inr other) = let same = begins_once text 0x3C 0x5F (iri_begins text a r one) (label_begins text b s other) in absurd (omega (arith, same))
term_once Node text a b r s (inr one) (inl other) = let same = begins_once text 0x5F 0x3C (label_begins text a r one) (iri_begins text b s other) in absurd (omega (arith, same))
term_once Node text a b r s (inr one) (inr other) = label_once text a b r s one other
term_once Predicate text a b r s one other = iri_once text a b r s one other
term_once Value text a b r s one other = literal_once text a b r s one other

-- ---- canonical spellings

pub iri_canonical : (text spelling rest : List ℕ) → All IsScalar text → IriAt text spelling rest → IsIri spelling × All IsScalar rest
iri_canonical text spelling rest scalars at =
    let all = iri_ref_scalars text at.0 rest scalars at.1 in
    (record { characters = at.0; scalars = all.0; spelled = at.2 }, all.1)

bytes_eq-refl : (bytes : List ℕ) → bytes_eq bytes bytes ≡ true
bytes_eq-refl bytes = (bytes_eq-Decides bytes bytes).1 refl

type_ending_canonical : (characters : List ℕ) → All IsScalar characters → IsEnding (type_ending (iri_spelling characters))
type_ending_canonical characters scalars =
    let test : Bool = bytes_eq (iri_spelling characters) (iri_spelling string_type) in
    elim test as (λ b. bytes_eq (iri_spelling characters) (iri_spelling string_type) ≡ b → IsEnding (cond b [] (0x5E ∷ 0x5E ∷ iri_spelling characters))) [
      | true ↦ λ e. inl refl
      | false ↦ λ e. inr (inl (record {
        characters = characters;
        scalars = scalars;
        other_type = λ same. true≢false (sym (bytes_eq-refl (iri_spelling string_type)) ∙ ap (λ cs. bytes_eq (iri_spelling cs) (iri_spelling string_type)) (sym same) ∙ e);
        spelled = refl;
      }))
    ] refl

pub ending_canonical : (text ending rest : List ℕ) → All IsScalar text → EndingAt text ending rest → IsEnding ending × All IsScalar rest
ending_canonical text ending rest scalars (inl (behind, iri, begins, at, spelled)) =
    let inside = All-tail IsScalar 0x5E behind (All-rest IsScalar 0x5E (0x5E ∷ behind) text begins scalars) in
    let all = iri_ref_scalars behind at.0 rest inside at.1 in
    let ends : ending ≡ type_ending (iri_spelling at.0) = spelled ∙ ap type_ending at.2 in
    (subst (λ e. IsEnding e) (sym ends) (type_ending_canonical at.0 all.0), all.1)
ending_canonical text ending rest scalars (inr (inl at)) = let all = tag_canonical text ending rest scalars at in (inr (inr all.0), all.1)
ending_canonical text ending rest scalars (inr (inr at)) = (inl at.1, subst (λ t. All IsScalar t) (sym at.2) scalars)

pub literal_canonical : (text spelling rest : List ℕ) → All IsScalar text → LiteralAt text spelling rest → IsLiteral spelling × All IsScalar rest
literal_canonical text spelling rest scalars (string, behind, ending, at, ends, spelled) =
    let strings = string_scalars text at.0 behind scalars at.1 in
    let endings = ending_canonical behind ending rest strings.1 ends in
    (record { characters = at.0; scalars = strings.0; ending = ending; ends = endings.0; spelled = spelled ∙ ap (λ s. s ++ ending) at.2 }, endings.1)

pub term_canonical : (kind : TermKind) (text spelling rest : List ℕ) → All IsScalar text → TermAt kind text spelling rest
    → IsCanonical kind spelling × All IsScalar rest
term_canonical Node text spelling rest scalars (inl at) = let all = iri_canonical text spelling rest scalars at in (inl all.0, all.1)
term_canonical Node text spelling rest scalars (inr at) = let all = label_canonical text spelling rest scalars at in (inr all.0, all.1)
term_canonical Predicate text spelling rest scalars at = iri_canonical text spelling rest scalars at
term_canonical Value text spelling rest scalars at = literal_canonical text spelling rest scalars at

-- ---- what is canonical is read back

before_space : (At : List ℕ → List ℕ → Type 0) (spelling : List ℕ) → Prints At spelling → PrintsBeforeSpace At spelling
before_space At spelling (text, scalars, encoded, reads) = (text, scalars, encoded, λ more. reads (0x20 ∷ more))

iri_prints : (spelling : List ℕ) → IsIri spelling → Prints (λ text rest. IriAt text spelling rest) spelling
iri_prints spelling canonical =
    let printed = iri_ref_prints canonical.characters canonical.scalars in
    (printed.0, printed.1, printed.2 ∙ sym canonical.spelled, λ more. (canonical.characters, printed.3 more, canonical.spelled))

-- an IRI has one list of characters
iri_spelling_once : (one other : List ℕ) → All IsScalar one → All IsScalar other → iri_spelling one ≡ iri_spelling other → one ≡ other
iri_spelling_once one other scalars scalars' same =
    let printed = iri_ref_prints one scalars in
    let printed' = iri_ref_prints other scalars' in
    let texts : printed.0 ≡ printed'.0 = encodes_same _ _ (printed.2 ∙ same ∙ sym printed'.2) in
    (iri_ref_once (printed'.0 ++ []) one other [] [] (subst (λ t. IsIriRef (t ++ []) one []) texts (printed.3 [])) (printed'.3 [])).0

string_type_scalars : All IsScalar string_type
string_type_scalars = All-from_scalars string_type refl

no_string_type : (characters : List ℕ) → All IsScalar characters → characters ≢ string_type → bytes_eq (iri_spelling characters) (iri_spelling string_type) ≡ false
no_string_type characters scalars other =
    false_from_ne_true _ (λ e. other (iri_spelling_once characters string_type scalars string_type_scalars ((bytes_eq-Decides _ _).0 e)))

pub ascii : (c : ℕ) (text bytes : List ℕ) → c < 128 → encode_utf8_all text ≡ bytes → encode_utf8_all (c ∷ text) ≡ c ∷ bytes
ascii c text bytes small encoded = ap (λ front. front ++ encode_utf8_all text) (encode_ascii c small) ∙ ap (λ bs. c ∷ bs) encoded

type_prints : (ending : List ℕ) → IsTypeEnding ending → Prints (λ text rest. TypeAt text ending rest) ending
type_prints ending canonical =
    let printed = iri_ref_prints canonical.characters canonical.scalars in
    let written : type_ending (iri_spelling canonical.characters) ≡ 0x5E ∷ 0x5E ∷ iri_spelling canonical.characters =
    ap (λ b. cond b [] (0x5E ∷ 0x5E ∷ iri_spelling canonical.characters)) (no_string_type canonical.characters canonical.scalars canonical.other_type)
    in (
      0x5E ∷ 0x5E ∷ printed.0,
      All-cons IsScalar 0x5E (0x5E ∷ printed.0) refl (All-cons IsScalar 0x5E printed.0 refl printed.1),
      ascii 0x5E (0x5E ∷ printed.0) _ (lit< tt) (ascii 0x5E printed.0 _ (lit< tt) printed.2) ∙ sym canonical.spelled,
      λ more. (printed.0 ++ more, iri_spelling canonical.characters, refl, (canonical.characters, printed.3 more, refl), canonical.spelled ∙ sym written),
    )

ending_prints : (ending : List ℕ) → IsEnding ending → PrintsBeforeSpace (λ text rest. EndingAt text ending rest) ending
ending_prints ending (inl none) = ([], All-nil IsScalar, sym none, λ more. inr (inr (refl, none, refl)))
ending_prints ending (inr (inl canonical)) =
    let printed = type_prints ending canonical in (printed.0, printed.1, printed.2, λ more. inl (printed.3 (0x20 ∷ more)))
ending_prints ending (inr (inr canonical)) =
    let printed = tag_prints ending canonical in (printed.0, printed.1, printed.2, λ more. inr (inl (printed.3 more)))

literal_prints : (spelling : List ℕ) → IsLiteral spelling → PrintsBeforeSpace (λ text rest. LiteralAt text spelling rest) spelling
literal_prints spelling canonical =
    let string = string_prints canonical.characters canonical.scalars in
    let ending = ending_prints canonical.ending canonical.ends in
    let reads : (more : List ℕ) → LiteralAt (string.0 ++ (ending.0 ++ 0x20 ∷ more)) spelling (0x20 ∷ more) = λ more. (
      string_spelling canonical.characters,
      ending.0 ++ 0x20 ∷ more,
      canonical.ending,
      (canonical.characters, string.3 (ending.0 ++ 0x20 ∷ more), refl),
      ending.3 more,
      canonical.spelled,
    ) in (
      string.0 ++ ending.0,
      All-append IsScalar string.0 ending.0 string.1 ending.1,
      encodes-append string.0 ending.0 ∙ (λ i. string.2 i ++ ending.2 i) ∙ sym canonical.spelled,
      λ more. subst (λ t. LiteralAt t spelling (0x20 ∷ more)) (sym (append_assoc string.0 ending.0 (0x20 ∷ more))) (reads more),
    )

pub term_prints : (kind : TermKind) (spelling : List ℕ) → IsCanonical kind spelling → PrintsBeforeSpace (λ text rest. TermAt kind text spelling rest) spelling
term_prints Node spelling (inl canonical) =
    let printed = iri_prints spelling canonical in (printed.0, printed.1, printed.2, λ more. inl (printed.3 (0x20 ∷ more)))
term_prints Node spelling (inr canonical) =
    let printed = label_prints spelling canonical in (printed.0, printed.1, printed.2, λ more. inr (printed.3 more))
term_prints Predicate spelling canonical = before_space (λ text rest. IriAt text spelling rest) spelling (iri_prints spelling canonical)
term_prints Value spelling canonical = literal_prints spelling canonical
