-- The terms of RDF 1.1 N-Triples at the front of a text, with the one canonical spelling of each.
use Rattle.std.specs.Prelude.{◌≡◌, ◌⊎◌, ℕ, ◌==◌, ◌||◌, Bool, false, if◌then◌else◌, List, [], ◌∷◌, ◌++◌, encode_utf8_all}
use Rattle.std.specs.Str.{bytes_eq}
use Rattle.ts_model.specs.declared.term.TermKind.{TermKind}
use Rattle.ts_model.specs.declared.term.TermKind.TheVariants.{Node, Predicate, Value}
use Rattle.ts_model.specs.BlankLabel.{IsLabel}
use Rattle.ts_model.specs.Iri.{iri_spelling}
use Rattle.ts_model.specs.Literal.{string_spelling, string_type, IsTag}
use Rattle.ts_model.specs.Longest.{IsLongest}
use Rattle.ts_nt.specs.Reading.{Reads}
use Rattle.ts_nt.specs.Items.{iri_item, string_item}

-- IRIREF: `<`, characters, `>`
pub record IsIriRef (text characters rest : List ℕ) : Type 0 where
  pub inside : List ℕ
  pub begins : text ≡ 0x3C ∷ inside
  pub reads : Reads iri_item inside characters (0x3E ∷ rest)

-- STRING_LITERAL_QUOTE: `"`, characters, `"`
pub record IsString (text characters rest : List ℕ) : Type 0 where
  pub inside : List ℕ
  pub begins : text ≡ 0x22 ∷ inside
  pub reads : Reads string_item inside characters (0x22 ∷ rest)

-- an IRI
abbrev pub IriAt : List ℕ → List ℕ → List ℕ → Type 0
IriAt text spelling rest = (characters : List ℕ) × IsIriRef text characters rest × (spelling ≡ iri_spelling characters)

-- a blank label, as long as it can be, which stays as written
abbrev pub LabelAt : List ℕ → List ℕ → List ℕ → Type 0
LabelAt text spelling rest =
    (behind label : List ℕ) × (text ≡ 0x5F ∷ 0x3A ∷ behind) × IsLongest IsLabel behind label rest × (spelling ≡ 0x5F ∷ 0x3A ∷ encode_utf8_all label)

-- the string of a literal
abbrev pub StringAt : List ℕ → List ℕ → List ℕ → Type 0
StringAt text spelling rest = (characters : List ℕ) × IsString text characters rest × (spelling ≡ string_spelling characters)

-- the type of a string is not written
abbrev pub type_ending : List ℕ → List ℕ
type_ending iri = if bytes_eq iri (iri_spelling string_type) then [] else 0x5E ∷ 0x5E ∷ iri

-- `^^` and an IRI
abbrev pub TypeAt : List ℕ → List ℕ → List ℕ → Type 0
TypeAt text ending rest =
    (behind iri : List ℕ) × (text ≡ 0x5E ∷ 0x5E ∷ behind) × IriAt behind iri rest × (ending ≡ type_ending iri)

-- `@` and a tag, as long as it can be, which stays as written
abbrev pub TagAt : List ℕ → List ℕ → List ℕ → Type 0
TagAt text ending rest = (behind tag : List ℕ) × (text ≡ 0x40 ∷ behind) × IsLongest IsTag behind tag rest × (ending ≡ 0x40 ∷ tag)

-- whether the text begins as a type or as a tag does
abbrev pub begins_ending : List ℕ → Bool
begins_ending [] = false
begins_ending (c ∷ text) = (c == 0x5E) || (c == 0x40)

-- what follows the string of a literal: a type, a tag or nothing
abbrev pub EndingAt : List ℕ → List ℕ → List ℕ → Type 0
EndingAt text ending rest =
    TypeAt text ending rest ⊎ (TagAt text ending rest ⊎ ((begins_ending text ≡ false) × (ending ≡ []) × (rest ≡ text)))

-- a literal
abbrev pub LiteralAt : List ℕ → List ℕ → List ℕ → Type 0
LiteralAt text spelling rest =
    (string behind ending : List ℕ) × StringAt text string behind × EndingAt behind ending rest × (spelling ≡ string ++ ending)

-- a term of this kind
abbrev pub TermAt : TermKind → List ℕ → List ℕ → List ℕ → Type 0
TermAt Node text spelling rest = IriAt text spelling rest ⊎ LabelAt text spelling rest
TermAt Predicate text spelling rest = IriAt text spelling rest
TermAt Value text spelling rest = LiteralAt text spelling rest
