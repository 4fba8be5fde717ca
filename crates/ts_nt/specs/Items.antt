-- The characters of IRIs and strings as a line spells them: themselves, or by an escape (ECHAR, UCHAR).
use Rattle.std.specs.Prelude.{ℕ, ◌+◌, ◌*◌, Bool, ◌&&◌, ◌||◌, nat_le, ◌==◌, if◌then◌else◌, List, [], ◌∷◌, length, take, drop, Option, None, Some}
use Rattle.std.specs.List.{list_all}
use Rattle.std.specs.Char.{digit_value, is_digit}
use Rattle.ts_model.specs.Characters.{is_iri_character}
use lib.Utf8.{scalar}

-- the number that hexadecimal digits write, behind digits that write `high`
abbrev pub hex_number : ℕ → List ℕ → ℕ
hex_number high [] = high
hex_number high (digit ∷ digits) = hex_number (16 * high + digit_value digit) digits

abbrev pub are_hex_digits : List ℕ → Bool
are_hex_digits = list_all (λ c. is_digit c 16)

-- the character that so many hexadecimal digits number, which is no surrogate and at most 10FFFF
unfoldable pub numbered : ℕ → List ℕ → Option (ℕ × List ℕ)
numbered count text =
    if nat_le count (length text) && are_hex_digits (take count text) && scalar (hex_number 0 (take count text))
    then Some (hex_number 0 (take count text), drop count text) else None

-- UCHAR behind its backslash: `u` and 4 digits, or `U` and 8
unfoldable pub uchar : List ℕ → Option (ℕ × List ℕ)
uchar [] = None
uchar (c ∷ text) = if c == 0x75 then numbered 4 text else (if c == 0x55 then numbered 8 text else None)

-- ECHAR behind its backslash
unfoldable pub echar : ℕ → Option ℕ
echar c =
    if c == 0x74 then Some 0x09 else
    (if c == 0x62 then Some 0x08 else
    (if c == 0x6E then Some 0x0A else
    (if c == 0x72 then Some 0x0D else
    (if c == 0x66 then Some 0x0C else
    (if c == 0x22 then Some 0x22 else
    (if c == 0x27 then Some 0x27 else
    (if c == 0x5C then Some 0x5C else None)))))))

-- an ECHAR or a UCHAR behind its backslash
unfoldable pub escape : List ℕ → Option (ℕ × List ℕ)
escape [] = None
escape (c ∷ text) = or_uchar (echar c) where
  or_uchar : Option ℕ → Option (ℕ × List ℕ)
  or_uchar (Some character) = Some (character, text)
  or_uchar None = uchar (c ∷ text)

-- a character of an IRI: a UCHAR, or one that an IRI allows
unfoldable pub iri_item : List ℕ → Option (ℕ × List ℕ)
iri_item [] = None
iri_item (c ∷ text) = if c == 0x5C then uchar text else (if is_iri_character c then Some (c, text) else None)

-- a character of a string: an ECHAR, a UCHAR, or any other than `"`, the backslash, LF and CR
unfoldable pub string_item : List ℕ → Option (ℕ × List ℕ)
string_item [] = None
string_item (c ∷ text) =
    if c == 0x5C then escape text else (if (c == 0x22) || (c == 0x0A) || (c == 0x0D) then None else Some (c, text))
