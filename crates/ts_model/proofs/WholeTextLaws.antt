-- Texts that are a label or a tag as a whole, and the spellings that they make behind what begins them.
use Rattle.std.specs.Prelude.{◌≡◌, ◌≢◌, ◌↔◌, ℕ, ◌<◌, List, [], ◌∷◌, ◌++◌, IsUtf8, chars, encode_utf8_all, length}
use Rattle.std.specs.Char.{IsScalar}
use Rattle.std.proofs.Common.{sym, ap, subst, ◌∙◌, arith, drop, length-append}
use Rattle.std.proofs.Math.Utf8.{low_scalar}
use Rattle.std.proofs.lemmas.List.{append-nil, nil_from_length}
use Rattle.std.proofs.lemmas.List.Elements.{All-weaker}
use Rattle.std.proofs.lemmas.Str.{chars-nil, chars-encodes, encodes-chars, scalars-chars}
use Rattle.ts_model.specs.BlankLabel.{IsLabel, IsBlankLabel}
use Rattle.ts_model.specs.Literal.{IsTag, IsLanguageEnding}
use Rattle.ts_model.specs.Longest.{IsLongest}
use Rattle.ts_model.proofs.Fronts.{ascii_as_written}
use Rattle.ts_model.proofs.TagFronts.{tag_ascii}
use Rattle.ts_model.proofs.TextLaws.{are_scalars, each_scalar}

-- a text has P exactly where nothing is left behind its longest front of P
pub nothing_left : (P : List ℕ → Type 0) (text rest : List ℕ) → IsUtf8 rest → (front : List ℕ) × IsLongest P (chars text) front (chars rest) → (rest ≡ []) ↔ P (chars text)
nothing_left P text rest rest_is (front, longest) = (forward, back) where
  forward : rest ≡ [] → P (chars text)
  forward none =
      let whole : chars text ≡ front = longest.parts ∙ ap (λ r. front ++ chars r) none ∙ ap (λ r. front ++ r) chars-nil ∙ append-nil front in
      subst P (sym whole) longest.has

  back : P (chars text) → rest ≡ []
  back is =
      let short = longest.longest (chars text) [] is (sym (append-nil (chars text))) in
      let long : length (chars text) ≡ length (front ++ chars rest) = ap length longest.parts in
      let none : chars rest ≡ [] = nil_from_length (chars rest) (omega (arith, short, long, length-append front (chars rest))) in
      sym (encodes-chars rest rest_is) ∙ ap encode_utf8_all none

-- nor has it P where no front has
pub no_front : (P : List ℕ → Type 0) (text : List ℕ) → ((front rest : List ℕ) → P front → text ≢ front ++ rest) → P text → ⊥
no_front P text none is = none text [] is (sym (append-nil text))

pub blank_label : (text : List ℕ) → IsUtf8 text → IsLabel (chars text) ↔ IsBlankLabel (0x5F ∷ 0x3A ∷ text)
blank_label text text_is = (forward, back) where
  forward : IsLabel (chars text) → IsBlankLabel (0x5F ∷ 0x3A ∷ text)
  forward is = record {
    label = chars text;
    scalars = each_scalar (chars text) (scalars-chars text text_is);
    is_label = is;
    spelled = ap (λ l. 0x5F ∷ 0x3A ∷ l) (sym (encodes-chars text text_is));
  }

  back : IsBlankLabel (0x5F ∷ 0x3A ∷ text) → IsLabel (chars text)
  back blank =
      let spelled : text ≡ encode_utf8_all blank.label = ap (drop 2) blank.spelled in
      subst IsLabel (sym (ap chars spelled ∙ chars-encodes blank.label (are_scalars blank.label blank.scalars))) blank.is_label

low : (c : ℕ) → c < 128 → IsScalar c
low c small = low_scalar c (omega arith)

pub language_ending : (text : List ℕ) → IsUtf8 text → IsTag (chars text) ↔ IsLanguageEnding (0x40 ∷ text)
language_ending text text_is = (forward, back) where
  forward : IsTag (chars text) → IsLanguageEnding (0x40 ∷ text)
  forward is = record {
    tag = chars text;
    is_tag = is;
    spelled = ap (λ l. 0x40 ∷ l) (sym (encodes-chars text text_is) ∙ ascii_as_written (chars text) (tag_ascii (chars text) is));
  }

  back : IsLanguageEnding (0x40 ∷ text) → IsTag (chars text)
  back ending =
      let small = tag_ascii ending.tag ending.is_tag in
      let bytes : text ≡ encode_utf8_all ending.tag = ap (drop 1) ending.spelled ∙ sym (ascii_as_written ending.tag small) in
      let scalars = are_scalars ending.tag (All-weaker (λ c. c < 128) IsScalar low ending.tag small) in
      subst IsTag (sym (ap chars bytes ∙ chars-encodes ending.tag scalars)) ending.is_tag
