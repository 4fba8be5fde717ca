-- What is written of the characters of an IRI: each is found by its front, and none begins with the delimiter.
use Rattle.std.specs.Prelude.{◌≡◌, ◌≢◌, ◌↔◌, ℕ, ◌+◌, ◌*◌, ◌/◌, ◌%◌, ◌<◌, ◌≤◌, Bool, true, false, List, [], ◌∷◌, ◌++◌}
use Rattle.std.specs.Char.{IsScalar, encode_utf8, len_utf8}
use Rattle.std.proofs.Common.{sym, ap, ◌∙◌, refl, arith, cond, length, length-append, true≢false, inl, inr}
use Rattle.std.proofs.lemmas.Bool.{cases_Bool, agree_below_at}
use Rattle.std.proofs.lemmas.Bool.Decides.{nat_tests}
use Rattle.std.proofs.lemmas.Str.{encode_same, length-encode, len_utf8_bounds}
use lib.Utf8.{low_scalar}
use Rattle.ts_model.specs.Characters.{is_in_ranges, is_iri_character}
use Rattle.ts_model.specs.Iri.{upper_digit, iri_escape, iri_character, IsIri}
use Rattle.ts_model.specs.Delimited.{EndsAt}
use Rattle.ts_model.proofs.DelimitedLaws.{IsCode, first_is_byte}

-- what is escaped is of ASCII
pub escaped_below : (c : ℕ) → is_iri_character c ≡ false → c < 128
escaped_below c escaped = grind (arith, nat_tests)

pub escaped_scalar : (c : ℕ) → is_iri_character c ≡ false → IsScalar c
escaped_scalar c escaped = let small = escaped_below c escaped in low_scalar c (omega arith)

pub direct_written : (c : ℕ) → is_iri_character c ≡ true → iri_character c ≡ encode_utf8 c
direct_written c direct = ap (λ b. cond b (encode_utf8 c) (iri_escape c)) direct

pub escape_written : (c : ℕ) → is_iri_character c ≡ false → iri_character c ≡ iri_escape c
escape_written c escaped = ap (λ b. cond b (encode_utf8 c) (iri_escape c)) escaped

-- the digits of a number
pub same_digit : (a b : ℕ) → upper_digit a ≡ upper_digit b → a ≡ b
same_digit a b e = grind (arith, nat_tests)

pub same_number : (a b : ℕ) → upper_digit (a / 16) ≡ upper_digit (b / 16) → upper_digit (a % 16) ≡ upper_digit (b % 16) → a ≡ b
same_number a b high low =
    let h = same_digit (a / 16) (b / 16) high in
    let l = same_digit (a % 16) (b % 16) low in
    omega arith

pub one_escape : (c d : ℕ) (r t : List ℕ) → iri_escape c ++ r ≡ iri_escape d ++ t → (c ≡ d) × (r ≡ t)
one_escape c d r t e =
    let high : upper_digit (c / 16) ≡ upper_digit (d / 16) = cc in
    let low : upper_digit (c % 16) ≡ upper_digit (d % 16) = cc in
    (same_number c d high low, cc)

-- an escape begins with the backslash, and no character that stands directly does
pub escape_apart : (c n : ℕ) (r t : List ℕ) → is_iri_character c ≡ true → encode_utf8 c ++ r ≢ iri_escape n ++ t
unfolding encode_utf8
escape_apart c n r t direct e =
    let same : c ≡ 0x5C = (encode_same c 0x5C r _ e).0 in
    true≢false (sym direct ∙ ap is_iri_character same)

pub one_character : (c d : ℕ) (r t : List ℕ) → iri_character c ++ r ≡ iri_character d ++ t → (c ≡ d) × (r ≡ t)
one_character c d r t e = elim (cases_Bool (is_iri_character c)) [
  | inl direct ↦ elim (cases_Bool (is_iri_character d)) [
    | inl too ↦ encode_same c d r t (ap (λ l. l ++ r) (sym (direct_written c direct)) ∙ e ∙ ap (λ l. l ++ t) (direct_written d too))
    | inr not_so ↦ absurd (escape_apart c d r t direct (ap (λ l. l ++ r) (sym (direct_written c direct)) ∙ e ∙ ap (λ l. l ++ t) (escape_written d not_so)))
  ]
  | inr escaped ↦ elim (cases_Bool (is_iri_character d)) [
    | inl not_so ↦ absurd (escape_apart d c t r not_so (ap (λ l. l ++ t) (sym (direct_written d not_so)) ∙ sym e ∙ ap (λ l. l ++ r) (escape_written c escaped)))
    | inr too ↦ one_escape c d r t (ap (λ l. l ++ r) (sym (escape_written c escaped)) ∙ e ∙ ap (λ l. l ++ t) (escape_written d too))
  ]
]

-- no character begins with the delimiter
pub delimiter_apart : (c : ℕ) (r t : List ℕ) → iri_character c ++ r ≢ 0x3E ∷ t
unfolding encode_utf8
delimiter_apart c r t e = elim (cases_Bool (is_iri_character c)) [
  | inl direct ↦
      let same : c ≡ 0x3E = (encode_same c 0x3E r t (ap (λ l. l ++ r) (sym (direct_written c direct)) ∙ e)).0 in
      true≢false (sym direct ∙ ap is_iri_character same)
  | inr escaped ↦
      let first : 0x5C ∷ _ ≡ 0x3E ∷ t = ap (λ l. l ++ r) (sym (escape_written c escaped)) ∙ e in
      cc
]

pub iri_code : IsCode iri_character 0x3E
iri_code = record { one = one_character; apart = delimiter_apart }

pub length_written : (c : ℕ) → 1 ≤ length (iri_character c)
length_written c = elim (cases_Bool (is_iri_character c)) [
  | inl direct ↦
      let long : length (iri_character c) ≡ len_utf8 c = ap length (direct_written c direct) ∙ length-encode c in
      omega (arith, long, len_utf8_bounds c)
  | inr escaped ↦
      let long : length (iri_character c) ≡ 6 = ap length (escape_written c escaped) in
      omega (arith, long)
]

pub not_empty : (c : ℕ) (rest : List ℕ) → iri_character c ++ rest ≢ []
not_empty c rest e =
    let whole : length (iri_character c ++ rest) ≡ 0 = ap length e in
    let some = length_written c in
    omega (arith, whole, some, length-append (iri_character c) rest)

-- ---- a front of a text that is written of no character

-- it begins with a character that is neither direct nor the start of an escape
pub neither : (text behind : List ℕ) (first : ℕ) → text ≡ encode_utf8 first ++ behind → is_iri_character first ≡ false
    → ((number : ℕ) (rest : List ℕ) → number < 256 → text ≢ iri_escape number ++ rest)
    → (c : ℕ) (rest : List ℕ) → text ≢ iri_character c ++ rest
neither text behind first begins other none c rest e = elim (cases_Bool (is_iri_character c)) [
  | inl direct ↦
      let same : first ≡ c = (encode_same first c behind rest (sym begins ∙ e ∙ ap (λ l. l ++ rest) (direct_written c direct))).0 in
      true≢false (sym direct ∙ sym (ap is_iri_character same) ∙ other)
  | inr escaped ↦
      let small = escaped_below c escaped in
      none c rest (omega arith) (e ∙ ap (λ l. l ++ rest) (escape_written c escaped))
]

-- it begins with the escape of a character that stands directly
pub needless : (text behind : List ℕ) (number : ℕ) → text ≡ iri_escape number ++ behind → is_iri_character number ≡ true
    → (c : ℕ) (rest : List ℕ) → text ≢ iri_character c ++ rest
needless text behind number begins direct c rest e = elim (cases_Bool (is_iri_character c)) [
  | inl direct ↦ escape_apart c number rest behind direct (ap (λ l. l ++ rest) (sym (direct_written c direct)) ∙ sym e ∙ begins)
  | inr escaped ↦
      let same : number ≡ c = (one_escape number c behind rest (sym begins ∙ e ∙ ap (λ l. l ++ rest) (escape_written c escaped))).0 in
      true≢false (sym direct ∙ ap is_iri_character same ∙ escaped)
]

-- ---- digits at the front of a text

-- `0` to `9` and `A` to `F`
abbrev pub is_upper_digit : ℕ → Bool
is_upper_digit = is_in_ranges ((0x30, 0x39) ∷ (0x41, 0x46) ∷ [])

digit_range : (digit : ℕ) → digit < 16 → is_upper_digit (upper_digit digit) ≡ true
digit_range digit small = agree_below_at (λ d. is_upper_digit (upper_digit d)) (λ d. true) 16 digit refl small

pub digit_below : (digit : ℕ) → digit < 16 → upper_digit digit < 128
digit_below digit small = grind (arith, nat_tests)

pub no_digit : (text behind : List ℕ) (first : ℕ) → text ≡ encode_utf8 first ++ behind → is_upper_digit first ≡ false
    → (digit : ℕ) (rest : List ℕ) → digit < 16 → text ≢ upper_digit digit ∷ rest
no_digit text behind first begins other digit rest small e =
    let same : first ≡ upper_digit digit = (first_is_byte text behind rest first (upper_digit digit) begins (digit_below digit small) e).0 in
    true≢false (sym (digit_range digit small) ∙ sym (ap is_upper_digit same) ∙ other)

-- ---- an escape at the front of a text

pub same_digits : (text digits others : List ℕ) → text ≡ 92 ∷ 117 ∷ 48 ∷ 48 ∷ digits → text ≡ 92 ∷ 117 ∷ 48 ∷ 48 ∷ others → digits ≡ others
same_digits text digits others e f = cc

pub next_digit : (digits rest others : List ℕ) (high other next : ℕ) → digits ≡ upper_digit high ∷ rest → digits ≡ upper_digit other ∷ next ∷ others → rest ≡ next ∷ others
next_digit digits rest others high other next e f = cc

pub number_written : (text digits middle rest : List ℕ) (high low : ℕ) → high < 16 → low < 16 → text ≡ 92 ∷ 117 ∷ 48 ∷ 48 ∷ digits
    → digits ≡ upper_digit high ∷ middle → middle ≡ upper_digit low ∷ rest → text ≡ iri_escape (16 * high + low) ++ rest
number_written text digits middle rest high low h l begins first second =
    let first_digit : (16 * high + low) / 16 ≡ high = omega arith in
    let second_digit : (16 * high + low) % 16 ≡ low = omega arith in
    cc

-- ---- the whole IRI

pub inside_delimiters : (text inside : List ℕ) → text ≡ 0x3C ∷ inside → IsIri text ↔ EndsAt iri_character 0x3E inside []
inside_delimiters text inside begins = (
  λ iri. record { characters = iri.characters; scalars = iri.scalars; spelled = behind_delimiter text inside _ begins iri.spelled },
  λ ends. record { characters = ends.characters; scalars = ends.scalars; spelled = begins ∙ ap (λ l. 0x3C ∷ l) ends.spelled },
)
  where
    behind_delimiter : (text inside other : List ℕ) → text ≡ 0x3C ∷ inside → text ≡ 0x3C ∷ other → inside ≡ other
    behind_delimiter text inside other e f = cc
