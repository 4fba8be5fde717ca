-- Worked escapes, on which the definitions are tried.
use Rattle.std.proofs.Common.{◌≡◌, ℕ, List, ◌∷◌, ◌++◌, codes, Some, None, refl}
use Rattle.ts_nt.specs.Items.{uchar, escape, echar, numbered, iri_item, string_item}

abbrev rest : List ℕ
rest = codes "+1>"

uchar_of_e_acute : uchar (codes "u00E9" ++ rest) ≡ Some (0xE9, rest)
unfolding uchar numbered
uchar_of_e_acute = refl

uchar_lower_case : uchar (codes "u00e9" ++ rest) ≡ Some (0xE9, rest)
unfolding uchar numbered
uchar_lower_case = refl

-- a surrogate is no character
uchar_of_surrogate : uchar (codes "uD800" ++ rest) ≡ None
unfolding uchar numbered
uchar_of_surrogate = refl

-- nor is what lies past the last one
uchar_past_last : uchar (codes "U00110000" ++ rest) ≡ None
unfolding uchar numbered
uchar_past_last = refl

uchar_last : uchar (codes "U0010FFFF" ++ rest) ≡ Some (0x10FFFF, rest)
unfolding uchar numbered
uchar_last = refl

uchar_of_emoji : uchar (codes "U0001F600" ++ rest) ≡ Some (0x1F600, rest)
unfolding uchar numbered
uchar_of_emoji = refl

-- a digit is missing, or is none
uchar_short : uchar (codes "u00E") ≡ None
unfolding uchar numbered
uchar_short = refl

uchar_other : uchar (codes "u00G9" ++ rest) ≡ None
unfolding uchar numbered
uchar_other = refl

escape-newline : escape (codes "n" ++ rest) ≡ Some (0x0A, rest)
unfolding escape echar
escape-newline = refl

escape-tab : escape (codes "t" ++ rest) ≡ Some (0x09, rest)
unfolding escape echar
escape-tab = refl

escape-backslash : escape (codes "\\" ++ rest) ≡ Some (0x5C, rest)
unfolding escape echar
escape-backslash = refl

escape-quote : escape (codes "\"" ++ rest) ≡ Some (0x22, rest)
unfolding escape echar
escape-quote = refl

escape-uchar : escape (codes "u0041" ++ rest) ≡ Some (0x41, rest)
unfolding escape echar uchar numbered
escape-uchar = refl

escape-unknown : escape (codes "x" ++ rest) ≡ None
unfolding escape echar uchar
escape-unknown = refl

-- an IRI has no ECHAR, no space and no angle bracket
iri_item-direct : iri_item (codes "a" ++ rest) ≡ Some (0x61, rest)
unfolding iri_item
iri_item-direct = refl

iri_item-uchar : iri_item (codes "\\u0020" ++ rest) ≡ Some (0x20, rest)
unfolding iri_item uchar numbered
iri_item-uchar = refl

iri_item-echar : iri_item (codes "\\n" ++ rest) ≡ None
unfolding iri_item uchar
iri_item-echar = refl

iri_item-space : iri_item (codes " " ++ rest) ≡ None
unfolding iri_item
iri_item-space = refl

iri_item-end : iri_item (codes ">" ++ rest) ≡ None
unfolding iri_item
iri_item-end = refl

-- a string has every character but four as it is
string_item-tab : string_item (0x09 ∷ rest) ≡ Some (0x09, rest)
unfolding string_item
string_item-tab = refl

string_item-echar : string_item (codes "\\r" ++ rest) ≡ Some (0x0D, rest)
unfolding string_item escape echar
string_item-echar = refl

string_item-newline : string_item (0x0A ∷ rest) ≡ None
unfolding string_item
string_item-newline = refl

string_item-end : string_item (codes "\"" ++ rest) ≡ None
unfolding string_item
string_item-end = refl
