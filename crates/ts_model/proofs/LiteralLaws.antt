-- What is written of the characters of a string, and what may stand behind the string.
use Rattle.std.specs.Prelude.{◌≡◌, ◌≢◌, ◌↔◌, ◌⊎◌, ℕ, ◌<◌, ◌≤◌, ◌==◌, Bool, true, false, ◌||◌, not, nat_eq, List, [], ◌∷◌, ◌++◌, flat_map, length, codes}
use Rattle.std.specs.Char.{encode_utf8}
use Rattle.std.proofs.Common.{sym, ap, ◌∙◌, refl, arith, subst, cond, drop, true≢false, inl, inr, append_assoc, length-append}
use Rattle.std.specs.Cmp.Lexicographic.{pointwise, same_text, other_text}
use Rattle.std.proofs.lemmas.Bool.{cases_eq, cond-false, ne_eqb, not-true, not-false}
use Rattle.std.proofs.lemmas.Bool.Decides.{nat_tests}
use Rattle.std.proofs.lemmas.Str.{encode_same, encode_ascii}
use Rattle.ts_model.specs.Iri.{IsIri, iri_spelling, iri_character}
use Rattle.ts_model.specs.Literal.{string_character, string_type, IsLiteral, IsEnding, IsTypeEnding, IsLanguageEnding}
use Rattle.ts_model.specs.Delimited.{EndsAt}
use Rattle.ts_model.proofs.DelimitedLaws.{IsCode, same_characters, first_is_byte}
use Rattle.ts_model.proofs.IriLaws.{iri_code}
use Rattle.ts_model.proofs.TextLaws.{one_byte}

-- ---- one character

-- a character that is written as it is
pub record IsPlain (c : ℕ) : Type 0 where
  pub quote : c ≡ 0x22 → ⊥
  pub backslash : c ≡ 0x5C → ⊥
  pub feed : c ≡ 0x0A → ⊥
  pub return : c ≡ 0x0D → ⊥

pub plain_written : (c : ℕ) → IsPlain c → string_character c ≡ encode_utf8 c
plain_written c plain =
    cond-false _ _ _ (ne_eqb _ _ plain.quote)
    ∙ cond-false _ _ _ (ne_eqb _ _ plain.backslash)
    ∙ cond-false _ _ _ (ne_eqb _ _ plain.feed)
    ∙ cond-false _ _ _ (ne_eqb _ _ plain.return)

-- the letters behind the backslash, and the character that each stands for
abbrev pub is_letter_of_escape : ℕ → Bool
is_letter_of_escape b = (b == 0x22) || ((b == 0x5C) || ((b == 0x6E) || (b == 0x72)))

abbrev pub unescaped : ℕ → ℕ
unescaped b = cond (b == 0x6E) 0x0A (cond (b == 0x72) 0x0D b)

-- how a character is written: by an escape of two bytes, or as it is
pub data Written (c : ℕ) : Type 0 where
  escaped : (letter : ℕ) → is_letter_of_escape letter ≡ true → unescaped letter ≡ c → string_character c ≡ 0x5C ∷ letter ∷ [] → Written c
  plain : IsPlain c → Written c

pub is_written : (c : ℕ) → Written c
is_written c = elim (cases_eq c 0x22) [
  | inl is ↦ escaped 0x22 refl (sym is) (ap string_character is)
  | inr quote ↦ elim (cases_eq c 0x5C) [
    | inl is ↦ escaped 0x5C refl (sym is) (ap string_character is)
    | inr backslash ↦ elim (cases_eq c 0x0A) [
      | inl is ↦ escaped 0x6E refl (sym is) (ap string_character is)
      | inr feed ↦ elim (cases_eq c 0x0D) [
        | inl is ↦ escaped 0x72 refl (sym is) (ap string_character is)
        | inr return ↦ plain (record { quote = quote; backslash = backslash; feed = feed; return = return })
      ]
    ]
  ]
]

-- what begins with a backslash is an escape
backslash_first : (c : ℕ) (r t : List ℕ) → 0x5C ∷ r ≡ encode_utf8 c ++ t → c ≡ 0x5C
backslash_first c r t e = sym (encode_same 0x5C c r t (ap (λ l. l ++ r) (encode_ascii 0x5C (omega arith)) ∙ e)).0

with_escape : (c letter : ℕ) (r : List ℕ) → string_character c ≡ 0x5C ∷ letter ∷ [] → string_character c ++ r ≡ 0x5C ∷ letter ∷ r
with_escape c letter r is = ap (λ l. l ++ r) is

with_plain : (c : ℕ) (r : List ℕ) → IsPlain c → string_character c ++ r ≡ encode_utf8 c ++ r
with_plain c r is = ap (λ l. l ++ r) (plain_written c is)

one_character : (c d : ℕ) (r t : List ℕ) → Written c → Written d → string_character c ++ r ≡ string_character d ++ t → (c ≡ d) × (r ≡ t)
one_character c d r t (escaped a is_a from_a wrote_a) (escaped b is_b from_b wrote_b) e =
    let whole : 0x5C ∷ a ∷ r ≡ 0x5C ∷ b ∷ t = sym (with_escape c a r wrote_a) ∙ e ∙ with_escape d b t wrote_b in
    let letters : a ≡ b = cc in
    (sym from_a ∙ ap unescaped letters ∙ from_b, cc)
one_character c d r t (escaped a is_a from_a wrote_a) (plain q) e =
    absurd (q.backslash (backslash_first d (a ∷ r) t (sym (with_escape c a r wrote_a) ∙ e ∙ with_plain d t q)))
one_character c d r t (plain p) (escaped b is_b from_b wrote_b) e =
    absurd (p.backslash (backslash_first c (b ∷ t) r (sym (with_escape d b t wrote_b) ∙ sym e ∙ with_plain c r p)))
one_character c d r t (plain p) (plain q) e = encode_same c d r t (sym (with_plain c r p) ∙ e ∙ with_plain d t q)

no_quote : (letter : ℕ) (r t : List ℕ) → 0x5C ∷ letter ∷ r ≡ 0x22 ∷ t → ⊥
no_quote letter r t e = cc

quote_first : (c : ℕ) (r t : List ℕ) → encode_utf8 c ++ r ≡ 0x22 ∷ t → c ≡ 0x22
quote_first c r t e = (encode_same c 0x22 r t (e ∙ ap (λ l. l ++ t) (sym (encode_ascii 0x22 (omega arith))))).0

delimiter_apart : (c : ℕ) (r t : List ℕ) → string_character c ++ r ≡ 0x22 ∷ t → ⊥
delimiter_apart c r t e = elim (is_written c) [
  | escaped letter is from wrote ↦ no_quote letter r t (sym (with_escape c letter r wrote) ∙ e)
  | plain is ↦ is.quote (quote_first c r t (sym (with_plain c r is) ∙ e))
]

pub string_code : IsCode string_character 0x22
string_code = record {
  one = λ c d r t e. one_character c d r t (is_written c) (is_written d) e;
  apart = delimiter_apart;
}

pub length_written : (c : ℕ) → 1 ≤ length (string_character c)
length_written c = elim (is_written c) [
  | escaped letter is from wrote ↦ let long : length (string_character c) ≡ 2 = ap length wrote in omega (arith, long)
  | plain is ↦ let long : length (string_character c) ≡ length (encode_utf8 c) = ap length (plain_written c is) in omega (arith, long, one_byte c)
]

-- ---- a front of a text that is written of no character

pub none_of_nothing : (text : List ℕ) → text ≡ [] → (c : ℕ) (rest : List ℕ) → text ≢ string_character c ++ rest
none_of_nothing text none c rest e =
    let whole : length (string_character c ++ rest) ≡ 0 = ap length (sym e ∙ none) in
    omega (arith, whole, length-append (string_character c) rest, length_written c)

-- it begins with a character that is neither written as it is nor the start of an escape
pub neither : (text behind : List ℕ) (first : ℕ) → text ≡ encode_utf8 first ++ behind → (first ≡ 0x5C → ⊥) → (IsPlain first → ⊥)
    → (c : ℕ) (rest : List ℕ) → text ≢ string_character c ++ rest
neither text behind first begins other not_plain c rest e = elim (is_written c) [
  | escaped letter is from wrote ↦ other (backslash_first first (letter ∷ rest) behind (sym (with_escape c letter rest wrote) ∙ sym e ∙ begins))
  | plain is ↦
      let same : first ≡ c = (encode_same first c behind rest (sym begins ∙ e ∙ with_plain c rest is)).0 in
      not_plain (subst IsPlain (sym same) is)
]

pub quote_or_break : (first : ℕ) → (first ≡ 0x0A) ⊎ ((first ≡ 0x0D) ⊎ (first ≡ 0x22)) → (first ≡ 0x5C → ⊥) × (IsPlain first → ⊥)
quote_or_break first (inl is) = (λ e. absurd (omega arith), λ plain. plain.feed is)
quote_or_break first (inr (inl is)) = (λ e. absurd (omega arith), λ plain. plain.return is)
quote_or_break first (inr (inr is)) = (λ e. absurd (omega arith), λ plain. plain.quote is)

-- behind the backslash stands no letter of an escape
pub no_letter : (text : List ℕ) → ((letter : ℕ) (rest : List ℕ) → is_letter_of_escape letter ≡ true → text ≡ letter ∷ rest → ⊥)
    → (c : ℕ) (rest : List ℕ) → 0x5C ∷ text ≢ string_character c ++ rest
no_letter text none c rest e = elim (is_written c) [
  | escaped letter is from wrote ↦
      let whole : 0x5C ∷ text ≡ 0x5C ∷ letter ∷ rest = e ∙ with_escape c letter rest wrote in
      none letter rest is (ap (drop 1) whole)
  | plain is ↦ is.backslash (backslash_first c text rest (e ∙ with_plain c rest is))
]

pub nothing_there : (text : List ℕ) (letter : ℕ) (rest : List ℕ) → text ≡ [] → text ≡ letter ∷ rest → ⊥
nothing_there text letter rest none some = cc

pub letter_below : (b : ℕ) → is_letter_of_escape b ≡ true → b < 128
letter_below b is = grind (arith, nat_tests)

pub other_letter : (text behind : List ℕ) (first : ℕ) → text ≡ encode_utf8 first ++ behind → is_letter_of_escape first ≡ false
    → (letter : ℕ) (rest : List ℕ) → is_letter_of_escape letter ≡ true → text ≡ letter ∷ rest → ⊥
other_letter text behind first begins other letter rest is e =
    let same : first ≡ letter = (first_is_byte text behind rest first letter begins (letter_below letter is) e).0 in
    true≢false (sym is ∙ sym (ap is_letter_of_escape same) ∙ other)

-- ---- what stands behind the string

pub type_alone : (rest : List ℕ) → IsTypeEnding (0x5E ∷ rest) ↔ IsEnding (0x5E ∷ rest)
type_alone rest = (λ type. inr (inl type), back) where
  back : IsEnding (0x5E ∷ rest) → IsTypeEnding (0x5E ∷ rest)
  back (inl none) = absurd (some none) where
    some : 0x5E ∷ rest ≡ [] → ⊥
    some e = cc
  back (inr (inl type)) = type
  back (inr (inr tag)) = absurd (other tag.spelled) where
    other : {t : List ℕ} → 0x5E ∷ rest ≡ 0x40 ∷ t → ⊥
    other e = cc

pub tag_alone : (rest : List ℕ) → IsLanguageEnding (0x40 ∷ rest) ↔ IsEnding (0x40 ∷ rest)
tag_alone rest = (λ tag. inr (inr tag), back) where
  back : IsEnding (0x40 ∷ rest) → IsLanguageEnding (0x40 ∷ rest)
  back (inl none) = absurd (some none) where
    some : 0x40 ∷ rest ≡ [] → ⊥
    some e = cc
  back (inr (inl type)) = absurd (other type.spelled) where
    other : {t : List ℕ} → 0x40 ∷ rest ≡ 0x5E ∷ t → ⊥
    other e = cc
  back (inr (inr tag)) = tag

pub nothing_alone : (text : List ℕ) → ((rest : List ℕ) → text ≡ 0x5E ∷ 0x5E ∷ rest → ⊥) → ((rest : List ℕ) → text ≡ 0x40 ∷ rest → ⊥)
    → (text ≡ []) ↔ IsEnding text
nothing_alone text no_type no_tag = (λ none. inl none, back) where
  back : IsEnding text → text ≡ []
  back (inl none) = none
  back (inr (inl type)) = absurd (no_type _ type.spelled)
  back (inr (inr tag)) = absurd (no_tag _ tag.spelled)

pub same_type : (text type : List ℕ) (answer : Bool) → answer ≡ not (pointwise nat_eq text type) → answer ≡ false → text ≡ type
same_type text type answer is e = same_text text type (sym (not-false _ (sym is ∙ e)))

pub other_type : (text type : List ℕ) (answer : Bool) → answer ≡ not (pointwise nat_eq text type) → answer ≡ true → text ≢ type
other_type text type answer is e = other_text text type (sym (not-true _ (sym is ∙ e)))

-- the type that is not written
string_iri : iri_spelling string_type ≡ codes "<http://www.w3.org/2001/XMLSchema#string>"
unfolding encode_utf8
string_iri = refl

pub is_type : (text : List ℕ) → ((text ≢ codes "<http://www.w3.org/2001/XMLSchema#string>") × IsIri text) ↔ IsTypeEnding (0x5E ∷ 0x5E ∷ text)
is_type text = (forward, back) where
  forward : (text ≢ codes "<http://www.w3.org/2001/XMLSchema#string>") × IsIri text → IsTypeEnding (0x5E ∷ 0x5E ∷ text)
  forward h = record {
    characters = h.1.characters;
    scalars = h.1.scalars;
    other_type = λ is. h.0 (h.1.spelled ∙ ap iri_spelling is ∙ string_iri);
    spelled = ap (λ l. 0x5E ∷ 0x5E ∷ l) h.1.spelled;
  }

  back : IsTypeEnding (0x5E ∷ 0x5E ∷ text) → (text ≢ codes "<http://www.w3.org/2001/XMLSchema#string>") × IsIri text
  back type =
      let spelled : text ≡ iri_spelling type.characters = ap (drop 2) type.spelled in (
        λ is. type.other_type (same_characters iri_character 0x3E iri_code type.characters string_type [] [] (ap (drop 1) (sym spelled ∙ is ∙ sym string_iri))),
        record { characters = type.characters; scalars = type.scalars; spelled = spelled },
      )

-- ---- the whole literal

pub behind_string : (text inside : List ℕ) → text ≡ 0x22 ∷ inside
    → ((ending : List ℕ) × EndsAt string_character 0x22 inside ending × IsEnding ending) ↔ IsLiteral text
behind_string text inside begins = (forward, back) where
  forward : (ending : List ℕ) × EndsAt string_character 0x22 inside ending × IsEnding ending → IsLiteral text
  forward (ending, ends, is) = record {
    characters = ends.characters;
    scalars = ends.scalars;
    ending = ending;
    ends = is;
    spelled = begins ∙ ap (λ l. 0x22 ∷ l) (ends.spelled ∙ sym (append_assoc (flat_map string_character ends.characters) (0x22 ∷ []) ending));
  }

  back : IsLiteral text → (ending : List ℕ) × EndsAt string_character 0x22 inside ending × IsEnding ending
  back literal = (
    literal.ending,
    record {
      characters = literal.characters;
      scalars = literal.scalars;
      spelled = ap (drop 1) (sym begins ∙ literal.spelled) ∙ append_assoc (flat_map string_character literal.characters) (0x22 ∷ []) literal.ending;
    },
    literal.ends,
  )
