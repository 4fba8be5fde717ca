-- The longest blank label or language tag at the front of a text, with what begins it.
use denote.Bor.{Bor}
use Rattle.std.specs.Prelude.{◌≡◌, ◌≢◌, ℕ, List, ◌∷◌, ◌++◌, Option, None, Some, MatchOption, chars, encode_utf8_all}
use Rattle.std.proofs.Common.{sym, ap, ◌∙◌, lit<}
use Rattle.ts_model.specs.BlankLabel.{IsLabel}
use Rattle.ts_model.specs.Literal.{IsTag}
use Rattle.ts_model.specs.Longest.{IsLongest}
use Rattle.ts_model.proofs.Fronts.{same_heads, ascii_head, ascii_as_written}
use Rattle.ts_model.proofs.TagFronts.{tag_ascii}
use Rattle.ts_nt.specs.Terms.{LabelAt, TagAt}

pub label_bytes : (label : List ℕ) → encode_utf8_all (0x5F ∷ 0x3A ∷ label) ≡ 0x5F ∷ 0x3A ∷ encode_utf8_all label
label_bytes label = ascii_head 0x5F (0x3A ∷ label) (lit< tt) ∙ ap (λ r. 0x5F ∷ r) (ascii_head 0x3A label (lit< tt))

-- `_:` and then nothing, or the longest label and the rest
pub label_at : (text behind_line behind : List ℕ) (found : Option (Bor (List ℕ)))
    → text ≡ 0x5F ∷ behind_line → behind_line ≡ 0x3A ∷ behind
    → MatchOption found ((label rest : List ℕ) → IsLabel label → behind ≢ label ++ rest) (λ rest. (label : List ℕ) × IsLongest IsLabel behind label (chars rest.now))
    → MatchOption found ((spelling rest : List ℕ) → LabelAt text spelling rest → ⊥) (λ rest. (front : List ℕ) × LabelAt text (encode_utf8_all front) (chars rest.now) × (text ≡ front ++ chars rest.now))
label_at text behind_line behind None low_line colon none = λ spelling rest (behind', label, begins, longest, spelled).
    let outer = same_heads 0x5F 0x5F (0x3A ∷ behind') behind_line (sym begins ∙ low_line) in
    let inner = same_heads 0x3A 0x3A behind' behind (outer.1 ∙ colon) in
    none label rest longest.has (sym (inner.1) ∙ longest.parts)
label_at text behind_line behind (Some rest) low_line colon (label, longest) =
    let begins : text ≡ 0x5F ∷ 0x3A ∷ behind = low_line ∙ ap (λ r. 0x5F ∷ r) colon in
    (0x5F ∷ 0x3A ∷ label, (behind, label, begins, longest, label_bytes label), begins ∙ ap (λ r. 0x5F ∷ 0x3A ∷ r) longest.parts)

pub tag_bytes : (tag : List ℕ) → IsTag tag → encode_utf8_all (0x40 ∷ tag) ≡ 0x40 ∷ tag
tag_bytes tag is = ascii_head 0x40 tag (lit< tt) ∙ ap (λ r. 0x40 ∷ r) (ascii_as_written tag (tag_ascii tag is))

-- `@` and then nothing, or the longest tag and the rest
pub tag_at : (text behind : List ℕ) (found : Option (Bor (List ℕ)))
    → text ≡ 0x40 ∷ behind
    → MatchOption found ((tag rest : List ℕ) → IsTag tag → behind ≢ tag ++ rest) (λ rest. (tag : List ℕ) × IsLongest IsTag behind tag (chars rest.now))
    → MatchOption found ((ending rest : List ℕ) → TagAt text ending rest → ⊥) (λ rest. (front : List ℕ) × TagAt text (encode_utf8_all front) (chars rest.now) × (text ≡ front ++ chars rest.now))
tag_at text behind None mark none = λ ending rest (behind', tag, begins, longest, spelled).
    none tag rest longest.has (sym ((same_heads 0x40 0x40 behind' behind (sym begins ∙ mark)).1) ∙ longest.parts)
tag_at text behind (Some rest) mark (tag, longest) =
    (0x40 ∷ tag, (behind, tag, mark, longest, tag_bytes tag longest.has), mark ∙ ap (λ r. 0x40 ∷ r) longest.parts)
