-- Blank labels and language tags at the front of a text: there is one reading, it is canonical, and what is canonical is read back.
use Rattle.std.specs.Prelude.{◌≡◌, ℕ, List, ◌∷◌, ◌++◌, ◌<◌, ◌==◌, ◌||◌, All, encode_utf8_all, refl}
use Rattle.std.specs.Char.{IsScalar}
use Rattle.std.proofs.Common.{sym, ap, subst, ◌∙◌, arith, lit<, true≢false}
use Rattle.std.proofs.Math.Utf8.{low_scalar}
use Rattle.std.proofs.lemmas.List.Elements.{All-cons, All-same, All-tail, All-weaker}
use Rattle.ts_model.specs.BlankLabel.{is_label_character, IsLabel, IsBlankLabel}
use Rattle.ts_model.specs.Characters.{is_letter, is_digit}
use Rattle.ts_model.specs.Literal.{IsTag, IsLanguageEnding}
use Rattle.ts_model.specs.Longest.{IsLongest}
use Rattle.ts_model.proofs.Fronts.{Stops, same_heads, all_front, longest_once, longest_before}
use Rattle.ts_model.proofs.LabelFronts.{InLabel, label_in_label}
use Rattle.ts_model.proofs.TagFronts.{InTag, tag_in_tag, tag_ascii}
use Rattle.ts_nt.specs.Terms.{LabelAt, TagAt}
use Rattle.ts_nt.proofs.VerbatimFronts.{label_bytes, tag_bytes}
use Rattle.ts_nt.proofs.Printing.{PrintsBeforeSpace}

scalar_ascii : (c : ℕ) → c < 128 → IsScalar c
scalar_ascii c small = low_scalar c (omega arith)

-- a space is in no label and in no tag
space_ends_label : (more : List ℕ) → Stops InLabel (0x20 ∷ more)
space_ends_label more c rest is same = true≢false (sym is ∙ ap is_label_character (sym ((same_heads 0x20 c more rest same).0)))

space_ends_tag : (more : List ℕ) → Stops InTag (0x20 ∷ more)
space_ends_tag more c rest is same = true≢false (sym is ∙ ap (λ d. is_letter d || is_digit d || (d == 0x2D)) (sym ((same_heads 0x20 c more rest same).0)))

pub label_once : (text a b r s : List ℕ) → LabelAt text a r → LabelAt text b s → (a ≡ b) × (r ≡ s)
label_once text a b r s (behind, label, begins, longest, spelled) (behind', label', begins', longest', spelled') =
    let outer = same_heads 0x5F 0x5F (0x3A ∷ behind') (0x3A ∷ behind) (sym begins' ∙ begins) in
    let inner = same_heads 0x3A 0x3A behind' behind (outer.1) in
    let there : IsLongest IsLabel behind label' s = subst (λ t. IsLongest IsLabel t label' s) (inner.1) longest' in
    let same = longest_once IsLabel behind label label' r s longest there in
    (spelled ∙ ap (λ l. 0x5F ∷ 0x3A ∷ encode_utf8_all l) (same.0) ∙ sym spelled', same.1)

pub label_canonical : (text spelling rest : List ℕ) → All IsScalar text → LabelAt text spelling rest → IsBlankLabel spelling × All IsScalar rest
label_canonical text spelling rest scalars (behind, label, begins, longest, spelled) =
    let outer = All-same IsScalar (0x5F ∷ 0x3A ∷ behind) text (sym begins) scalars in
    let inside = All-tail IsScalar 0x3A behind (All-tail IsScalar 0x5F (0x3A ∷ behind) outer) in
    let parts = all_front IsScalar label rest (All-same IsScalar (label ++ rest) behind (sym longest.parts) inside) in
    (record { label = label; scalars = parts.0; is_label = longest.has; spelled = spelled }, parts.1)

pub label_prints : (spelling : List ℕ) → IsBlankLabel spelling → PrintsBeforeSpace (λ text rest. LabelAt text spelling rest) spelling
label_prints spelling canonical =
    let label = canonical.label in
    let scalars = All-cons IsScalar 0x5F (0x3A ∷ label) (scalar_ascii 0x5F (lit< tt)) (All-cons IsScalar 0x3A label (scalar_ascii 0x3A (lit< tt)) canonical.scalars) in (
      0x5F ∷ 0x3A ∷ label,
      scalars,
      label_bytes label ∙ sym canonical.spelled,
      λ more. (label ++ 0x20 ∷ more, label, refl, longest_before IsLabel InLabel label (0x20 ∷ more) canonical.is_label (space_ends_label more) label_in_label, canonical.spelled),
    )

pub tag_once : (text a b r s : List ℕ) → TagAt text a r → TagAt text b s → (a ≡ b) × (r ≡ s)
tag_once text a b r s (behind, tag, begins, longest, spelled) (behind', tag', begins', longest', spelled') =
    let heads = same_heads 0x40 0x40 behind' behind (sym begins' ∙ begins) in
    let there : IsLongest IsTag behind tag' s = subst (λ t. IsLongest IsTag t tag' s) (heads.1) longest' in
    let same = longest_once IsTag behind tag tag' r s longest there in
    (spelled ∙ ap (λ t. 0x40 ∷ t) (same.0) ∙ sym spelled', same.1)

pub tag_canonical : (text ending rest : List ℕ) → All IsScalar text → TagAt text ending rest → IsLanguageEnding ending × All IsScalar rest
tag_canonical text ending rest scalars (behind, tag, begins, longest, spelled) =
    let inside = All-tail IsScalar 0x40 behind (All-same IsScalar (0x40 ∷ behind) text (sym begins) scalars) in
    let parts = all_front IsScalar tag rest (All-same IsScalar (tag ++ rest) behind (sym longest.parts) inside) in
    (record { tag = tag; is_tag = longest.has; spelled = spelled }, parts.1)

pub tag_prints : (ending : List ℕ) → IsLanguageEnding ending → PrintsBeforeSpace (λ text rest. TagAt text ending rest) ending
tag_prints ending canonical =
    let tag = canonical.tag in
    let small = All-cons (λ c. c < 128) 0x40 tag (lit< tt) (tag_ascii tag canonical.is_tag) in (
      0x40 ∷ tag,
      All-weaker (λ c. c < 128) IsScalar scalar_ascii (0x40 ∷ tag) small,
      tag_bytes tag canonical.is_tag ∙ sym canonical.spelled,
      λ more. (tag ++ 0x20 ∷ more, tag, refl, longest_before IsTag InTag tag (0x20 ∷ more) canonical.is_tag (space_ends_tag more) tag_in_tag, canonical.spelled),
    )
