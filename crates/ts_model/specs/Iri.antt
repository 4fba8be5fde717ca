-- The canonical spelling of an IRI: `<`, its characters, `>`.
use Rattle.std.specs.Prelude.{◌≡◌, ℕ, ◌+◌, ◌/◌, ◌%◌, nat_lt, if◌then◌else◌, List, [], ◌∷◌, ◌++◌, flat_map, encode_utf8, All}
use Rattle.std.specs.Char.{IsScalar}
use Rattle.ts_model.specs.Characters.{is_iri_character}

-- `0` to `9`, then `A` to `F`
abbrev pub upper_digit : ℕ → ℕ
upper_digit d = if nat_lt d 10 then 0x30 + d else 0x37 + d

-- `\u00` and two upper-case hexadecimal digits
abbrev pub iri_escape : ℕ → List ℕ
iri_escape c = 0x5C ∷ 0x75 ∷ 0x30 ∷ 0x30 ∷ upper_digit (c / 16) ∷ upper_digit (c % 16) ∷ []

-- as it is in UTF-8 where an IRI allows that, and else escaped
abbrev pub iri_character : ℕ → List ℕ
iri_character c = if is_iri_character c then encode_utf8 c else iri_escape c

abbrev pub iri_spelling : List ℕ → List ℕ
iri_spelling characters = 0x3C ∷ flat_map iri_character characters ++ 0x3E ∷ []

pub record IsIri (spelling : List ℕ) : Type 0 where
  pub characters : List ℕ
  pub scalars : All IsScalar characters
  pub spelled : spelling ≡ iri_spelling characters
