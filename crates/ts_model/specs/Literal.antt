-- The canonical spelling of a literal: its string, then nothing, its type or its language tag.
use Rattle.std.specs.Prelude.{◌≡◌, ◌≢◌, ℕ, ◌||◌, ◌==◌, if◌then◌else◌, List, [], ◌∷◌, ◌++◌, ◌⊎◌, flat_map, codes, encode_utf8, All, IsTrue}
use Rattle.std.specs.Char.{IsScalar}
use Rattle.ts_model.specs.Characters.{is_letter, is_digit}
use Rattle.ts_model.specs.Iri.{iri_spelling}

-- only `"`, the backslash, LF and CR are escaped
abbrev pub string_character : ℕ → List ℕ
string_character c =
    if c == 0x22 then 0x5C ∷ 0x22 ∷ [] else
    (if c == 0x5C then 0x5C ∷ 0x5C ∷ [] else
    (if c == 0x0A then 0x5C ∷ 0x6E ∷ [] else
    (if c == 0x0D then 0x5C ∷ 0x72 ∷ [] else encode_utf8 c)))

abbrev pub string_spelling : List ℕ → List ℕ
string_spelling characters = 0x22 ∷ flat_map string_character characters ++ 0x22 ∷ []

-- the type of a literal that is written without one
abbrev pub string_type : List ℕ
string_type = codes "http://www.w3.org/2001/XMLSchema#string"

-- `^^` and the canonical IRI of the type
pub record IsTypeEnding (ending : List ℕ) : Type 0 where
  pub characters : List ℕ
  pub scalars : All IsScalar characters
  pub other_type : characters ≢ string_type
  pub spelled : ending ≡ 0x5E ∷ 0x5E ∷ iri_spelling characters

-- one or more letters
abbrev pub IsFirstPart : List ℕ → Type 0
IsFirstPart part = (part ≢ []) × All (λ c. IsTrue (is_letter c)) part

-- one or more letters and digits
abbrev pub IsNextPart : List ℕ → Type 0
IsNextPart part = (part ≢ []) × All (λ c. IsTrue (is_letter c || is_digit c)) part

-- what LANGTAG has behind `@`: parts with `-` between them
abbrev pub IsTag : List ℕ → Type 0
IsTag tag = (first : List ℕ) × (others : List (List ℕ)) × IsFirstPart first × All IsNextPart others × (tag ≡ first ++ flat_map (λ part. 0x2D ∷ part) others)

-- `@` and a tag
pub record IsLanguageEnding (ending : List ℕ) : Type 0 where
  pub tag : List ℕ
  pub is_tag : IsTag tag
  pub spelled : ending ≡ 0x40 ∷ tag

abbrev pub IsEnding : List ℕ → Type 0
IsEnding ending = (ending ≡ []) ⊎ (IsTypeEnding ending ⊎ IsLanguageEnding ending)

pub record IsLiteral (spelling : List ℕ) : Type 0 where
  pub characters : List ℕ
  pub scalars : All IsScalar characters
  pub ending : List ℕ
  pub ends : IsEnding ending
  pub spelled : spelling ≡ string_spelling characters ++ ending
