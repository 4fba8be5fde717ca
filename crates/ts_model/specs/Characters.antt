-- The classes of characters that terms are written with. A character is its code point.
use Rattle.std.specs.Prelude.{ℕ, Bool, ◌&&◌, ◌||◌, not, nat_le, ◌==◌, List, [], ◌∷◌}
use Rattle.std.specs.List.{list_any}

-- whether a character lies in one of the ranges, each given by its first and its last character
abbrev pub is_in_ranges : List (ℕ × ℕ) → ℕ → Bool
is_in_ranges ranges c = list_any (λ range. nat_le range.0 c && nat_le c range.1) ranges

abbrev pub is_letter : ℕ → Bool
is_letter = is_in_ranges ((0x41, 0x5A) ∷ (0x61, 0x7A) ∷ [])

abbrev pub is_digit : ℕ → Bool
is_digit = is_in_ranges ((0x30, 0x39) ∷ [])

abbrev pub base_ranges : List (ℕ × ℕ)
base_ranges =
    (0x41, 0x5A) ∷ (0x61, 0x7A) ∷ (0xC0, 0xD6) ∷ (0xD8, 0xF6) ∷ (0xF8, 0x2FF) ∷ (0x370, 0x37D) ∷ (0x37F, 0x1FFF)
    ∷ (0x200C, 0x200D) ∷ (0x2070, 0x218F) ∷ (0x2C00, 0x2FEF) ∷ (0x3001, 0xD7FF) ∷ (0xF900, 0xFDCF) ∷ (0xFDF0, 0xFFFD)
    ∷ (0x10000, 0xEFFFF) ∷ []

-- PN_CHARS_BASE
abbrev pub is_base_character : ℕ → Bool
is_base_character = is_in_ranges base_ranges

-- PN_CHARS_U: these, `_` and `:`
abbrev pub is_name_start : ℕ → Bool
is_name_start c = is_base_character c || (c == 0x5F) || (c == 0x3A)

-- PN_CHARS: these, `-`, the digits and some marks
abbrev pub is_name_character : ℕ → Bool
is_name_character c =
    is_name_start c || is_in_ranges ((0x2D, 0x2D) ∷ (0x30, 0x39) ∷ (0xB7, 0xB7) ∷ (0x300, 0x36F) ∷ (0x203F, 0x2040) ∷ []) c

-- the characters that stand in an IRI as they are: all but U+0000 to U+0020 and `<`, `>`, `"`, `{`, `}`, `|`, `^`, the backtick and the backslash
abbrev pub is_iri_character : ℕ → Bool
is_iri_character c =
    not (is_in_ranges ((0x00, 0x20) ∷ (0x22, 0x22) ∷ (0x3C, 0x3C) ∷ (0x3E, 0x3E) ∷ (0x5C, 0x5C) ∷ (0x5E, 0x5E) ∷ (0x60, 0x60) ∷ (0x7B, 0x7D) ∷ []) c)
