-- A canonical spelling is UTF-8.
use Rattle.std.specs.Prelude.{ℕ, ◌<◌, ◌/◌, ◌%◌, List, [], ◌∷◌, flat_map, encode_utf8_all, All, IsUtf8}
use Rattle.std.specs.Char.{IsScalar}
use Rattle.std.proofs.Common.{sym, refl, arith, subst, inl, inr}
use Rattle.std.proofs.lemmas.Bool.{cases_Bool}
use Rattle.std.proofs.lemmas.Str.{IsUtf8-append, IsUtf8-nil, IsUtf8-encode}
use Rattle.ts_model.specs.declared.term.TermKind.{TermKind}
use Rattle.ts_model.specs.declared.term.TermKind.TheVariants.{Node, Predicate, Value}
use Rattle.ts_model.specs.Characters.{is_iri_character}
use Rattle.ts_model.specs.Iri.{iri_escape, iri_character, iri_spelling}
use Rattle.ts_model.specs.BlankLabel.{IsBlankLabel}
use Rattle.ts_model.specs.Literal.{string_character, IsLiteral, IsEnding}
use Rattle.ts_model.specs.Canonical.{IsCanonical}
use Rattle.ts_model.proofs.TextLaws.{are_scalars, ascii_then, all_ascii, written_text}
use Rattle.ts_model.proofs.IriLaws.{direct_written, escape_written, escaped_below, digit_below}
use Rattle.ts_model.proofs.LiteralLaws.{is_written, plain_written, letter_below}
use Rattle.ts_model.proofs.LiteralLaws.Written.{escaped, plain}
use Rattle.ts_model.proofs.TagFronts.{tag_ascii}

-- ---- IRIs

escape_text : (c : ℕ) → c < 128 → IsUtf8 (iri_escape c)
escape_text c small =
    ascii_then 0x5C _ (omega arith) (ascii_then 0x75 _ (omega arith) (ascii_then 0x30 _ (omega arith) (ascii_then 0x30 _ (omega arith)
    (ascii_then _ _ (digit_below (c / 16) (omega arith)) (ascii_then _ [] (digit_below (c % 16) (omega arith)) IsUtf8-nil)))))

character_text : (c : ℕ) → IsScalar c → IsUtf8 (iri_character c)
character_text c scalar = elim (cases_Bool (is_iri_character c)) [
  | inl direct ↦ subst IsUtf8 (sym (direct_written c direct)) (IsUtf8-encode c scalar)
  | inr other ↦ subst IsUtf8 (sym (escape_written c other)) (escape_text c (escaped_below c other))
]

iri_text : (characters : List ℕ) → All IsScalar characters → IsUtf8 (iri_spelling characters)
iri_text characters scalars =
    ascii_then 0x3C _ (omega arith) (IsUtf8-append (flat_map iri_character characters) (0x3E ∷ []) (written_text iri_character character_text characters scalars)
    (ascii_then 0x3E [] (omega arith) IsUtf8-nil))

-- ---- labels

all_text : (cs : List ℕ) → All IsScalar cs → IsUtf8 (encode_utf8_all cs)
all_text cs scalars = (cs, (are_scalars cs scalars, refl))

label_text : (spelling : List ℕ) → IsBlankLabel spelling → IsUtf8 spelling
label_text spelling label =
    subst IsUtf8 (sym label.spelled) (ascii_then 0x5F _ (omega arith) (ascii_then 0x3A _ (omega arith) (all_text label.label label.scalars)))

-- ---- literals

string_character_text : (c : ℕ) → IsScalar c → IsUtf8 (string_character c)
string_character_text c scalar = elim (is_written c) [
  | escaped letter is from wrote ↦ subst IsUtf8 (sym wrote) (ascii_then 0x5C _ (omega arith) (ascii_then letter [] (letter_below letter is) IsUtf8-nil))
  | plain is ↦ subst IsUtf8 (sym (plain_written c is)) (IsUtf8-encode c scalar)
]

ending_text : (ending : List ℕ) → IsEnding ending → IsUtf8 ending
ending_text ending (inl none) = subst IsUtf8 (sym none) IsUtf8-nil
ending_text ending (inr (inl type)) =
    subst IsUtf8 (sym type.spelled) (ascii_then 0x5E _ (omega arith) (ascii_then 0x5E _ (omega arith) (iri_text type.characters type.scalars)))
ending_text ending (inr (inr tag)) =
    subst IsUtf8 (sym tag.spelled) (ascii_then 0x40 _ (omega arith) (all_ascii tag.tag (tag_ascii tag.tag tag.is_tag)))

literal_text : (spelling : List ℕ) → IsLiteral spelling → IsUtf8 spelling
literal_text spelling literal =
    subst IsUtf8 (sym literal.spelled)
    (IsUtf8-append _ literal.ending
    (ascii_then 0x22 _ (omega arith) (IsUtf8-append (flat_map string_character literal.characters) (0x22 ∷ [])
    (written_text string_character string_character_text literal.characters literal.scalars) (ascii_then 0x22 [] (omega arith) IsUtf8-nil)))
    (ending_text literal.ending literal.ends))

-- ---- terms

node_text : (spelling : List ℕ) → IsCanonical Node spelling → IsUtf8 spelling
node_text spelling (inl iri) = subst IsUtf8 (sym iri.spelled) (iri_text iri.characters iri.scalars)
node_text spelling (inr label) = label_text spelling label

pub canonical_text : (kind : TermKind) (spelling : List ℕ) → IsCanonical kind spelling → IsUtf8 spelling
canonical_text Node spelling is = node_text spelling is
canonical_text Predicate spelling is = subst IsUtf8 (sym is.spelled) (iri_text is.characters is.scalars)
canonical_text Value spelling is = literal_text spelling is
