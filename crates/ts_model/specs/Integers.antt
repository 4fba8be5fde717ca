-- Canonical integers: literals of the type xsd:integer whose string is a number's decimal digits, within 128 bits.
use Rattle.std.specs.Prelude.{ℕ, ◌-◌, ◌^◌, ◌==◌, ◌&&◌, Bool, if◌then◌else◌, List, [], ◌∷◌, ◌++◌, codes, drop, length, take, Option, None, Some, nat_lt, ℤ, pos, negsuc}
use Rattle.std.specs.Fmt.{signed_decimal}
use Rattle.std.specs.Str.{bytes_eq}
use Rattle.std.specs.Str.Parse.{digits_value}
use lib.IntN.{neg_ℤ}

-- what stands behind the digits
abbrev pub integer_ending : List ℕ
integer_ending = codes "\"^^<http://www.w3.org/2001/XMLSchema#integer>"

-- the canonical spelling of an integer
abbrev pub integer_spelling : ℤ → List ℕ
integer_spelling number = 0x22 ∷ (signed_decimal number ++ integer_ending)

-- from -2^127 to 2^127 - 1
abbrev pub is_within_128 : ℤ → Bool
is_within_128 (pos n) = nat_lt n (2 ^ 127)
is_within_128 (negsuc n) = nat_lt n (2 ^ 127)

-- the number that digits say, perhaps behind a minus
abbrev pub signed_value : List ℕ → ℤ
signed_value [] = pos 0
signed_value (c ∷ digits) = if c == 0x2D then neg_ℤ (pos (digits_value 10 digits)) else pos (digits_value 10 (c ∷ digits))

-- the number that stands before the ending, if digits stand there
abbrev pub number_said : List ℕ → ℤ
number_said spelling = signed_value (take (length spelling - 1 - length integer_ending) (drop 1 spelling))

-- the number of a canonical integer, and none of any other spelling
abbrev pub integer_of : List ℕ → Option ℤ
integer_of spelling =
    let number = number_said spelling in
    if is_within_128 number && bytes_eq (integer_spelling number) spelling then Some number else None
