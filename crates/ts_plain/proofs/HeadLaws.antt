-- The head of a plain file.
use Rattle.std.proofs.Common.{◌≡◌, ◌≢◌, ℕ, ◌+◌, ◌<◌, List, [], ◌∷◌, ◌++◌, length, codes, take, drop, ◌^◌, ◌≤◌, ◌⊎◌, inl, inr, Option, None, Some, refl, sym, ap, ◌∙◌, arith, append_assoc, length-append}
use Rattle.std.proofs.lemmas.List.{append_cancel_left, take_at, drop_at}
use Rattle.std.specs.Int.{w32, to_be_bytes, from_be_bytes}
use Rattle.std.proofs.lemmas.Nat.{from_be_bytes-to_be_bytes_4}
use Rattle.ts_model.specs.LayerText.{layer_text}
use Rattle.ts_model.proofs.LayerLemmas.{decoded, text_length, not_none}
use Rattle.ts_plain.specs.PlainFile.{head_line, parent_text}
use Rattle.ts_plain.specs.PlainReading.{IsParent}

-- the head, part by part
pub head_parts : (number : ℕ) (parent : Option ℕ) (rest : List ℕ)
    → head_line number parent ++ rest ≡ codes "plain " ++ (layer_text number ++ (0x20 ∷ [] ++ (parent_text parent ++ 0x0A ∷ rest)))
head_parts number parent rest = simp append_assoc

pub behind_front : (front rest other bytes : List ℕ) → bytes ≡ front ++ rest → bytes ≡ front ++ other → rest ≡ other
behind_front front rest other bytes e f = append_cancel_left front rest other (sym e ∙ f)

-- what stands behind the layer's number
pub behind_number : (number : ℕ) (parent : Option ℕ) (rest bytes named spaced shown : List ℕ) → shown ≡ layer_text number → bytes ≡ codes "plain " ++ named
    → named ≡ shown ++ spaced → bytes ≡ head_line number parent ++ rest → spaced ≡ 0x20 ∷ [] ++ (parent_text parent ++ 0x0A ∷ rest)
behind_number number parent rest bytes named spaced shown is first second e =
    let behind = behind_front (codes "plain ") named _ bytes first (e ∙ head_parts number parent rest) in
    behind_front (layer_text number) spaced _ named (second ∙ ap (λ l. l ++ spaced) is) behind

-- ---- the number of a layer at the end of its line

pub layer_front : (layer : ℕ) (rest bytes : List ℕ) → bytes ≡ layer_text layer ++ 0x0A ∷ rest → (take 8 bytes ≡ layer_text layer) × (drop 8 bytes ≡ 0x0A ∷ rest)
layer_front layer rest bytes e =
    (ap (take 8) e ∙ take_at (layer_text layer) (0x0A ∷ rest) 8 (text_length layer), ap (drop 8) e ∙ drop_at (layer_text layer) (0x0A ∷ rest) 8 (text_length layer))

pub layer_is_long : (layer : ℕ) (rest bytes : List ℕ) → bytes ≡ layer_text layer ++ 0x0A ∷ rest → 8 ≤ length bytes
layer_is_long layer rest bytes e =
    let whole : length bytes ≡ length (layer_text layer) + length (0x0A ∷ rest) = ap length e ∙ length-append (layer_text layer) (0x0A ∷ rest) in
    omega (arith, whole, text_length layer)

text_once : (layer other : ℕ) → layer < 2 ^ 32 → other < 2 ^ 32 → layer_text layer ≡ layer_text other → layer ≡ other
text_once layer other small below e =
    let one = decoded layer (layer_text other) e in
    let two = decoded other (layer_text other) refl in
    let bytes : to_be_bytes w32 layer ≡ to_be_bytes w32 other = cc in
    sym (from_be_bytes-to_be_bytes_4 layer small) ∙ ap (from_be_bytes w32) bytes ∙ from_be_bytes-to_be_bytes_4 other below

pub layer_once : (layer other : ℕ) (rest behind bytes : List ℕ) → layer < 2 ^ 32 → other < 2 ^ 32 → bytes ≡ layer_text layer ++ 0x0A ∷ rest
    → bytes ≡ layer_text other ++ 0x0A ∷ behind → (layer ≡ other) × (rest ≡ behind)
layer_once layer other rest behind bytes small below e f =
    let one = layer_front layer rest bytes e in
    let two = layer_front other behind bytes f in
    let rests : 0x0A ∷ rest ≡ 0x0A ∷ behind = sym one.1 ∙ two.1 in
    (text_once layer other small below (sym one.0 ∙ two.0), cc)

-- ---- a parent at the end of its line

pub no_parent : (number layer : ℕ) (after bytes : List ℕ) → number < 2 ^ 32 → layer < 2 ^ 32 → bytes ≡ layer_text layer ++ 0x0A ∷ after
    → ((rest : List ℕ) → bytes ≢ codes "none\n" ++ rest) → (layer ≡ 0) ⊎ (number ≤ layer)
    → (parent : Option ℕ) (rest : List ℕ) → IsParent number parent → bytes ≢ parent_text parent ++ 0x0A ∷ rest
no_parent number layer after bytes fits small e none other None rest is f = none rest f
no_parent number layer after bytes fits small e none (inl zero) (Some parent) rest is f =
    let same = layer_once layer parent after rest bytes small (omega arith) e f in
    omega (arith, same.0)
no_parent number layer after bytes fits small e none (inr above) (Some parent) rest is f =
    let same = layer_once layer parent after rest bytes small (omega arith) e f in
    omega (arith, same.0)

parent_once : (number : ℕ) (parent other : Option ℕ) (rest behind bytes : List ℕ) → number < 2 ^ 32 → IsParent number parent → IsParent number other
    → bytes ≡ parent_text parent ++ 0x0A ∷ rest → bytes ≡ parent_text other ++ 0x0A ∷ behind → (parent ≡ other) × (rest ≡ behind)
parent_once number None None rest behind bytes fits one two e f =
    let rests : 0x0A ∷ rest ≡ 0x0A ∷ behind = behind_front (codes "none") _ _ bytes e f in
    (refl, cc)
parent_once number None (Some other) rest behind bytes fits one two e f = absurd (not_none other _ _ (sym f ∙ e))
parent_once number (Some parent) None rest behind bytes fits one two e f = absurd (not_none parent _ _ (sym e ∙ f))
parent_once number (Some parent) (Some other) rest behind bytes fits one two e f =
    let same = layer_once parent other rest behind bytes (omega arith) (omega arith) e f in
    (ap Some same.0, same.1)

-- one head stands at the front of bytes
pub head_once : (number : ℕ) (parent other : Option ℕ) (rest behind bytes : List ℕ) → number < 2 ^ 32 → IsParent number parent → IsParent number other
    → bytes ≡ head_line number parent ++ rest → bytes ≡ head_line number other ++ behind → (parent ≡ other) × (rest ≡ behind)
head_once number parent other rest behind bytes fits one two e f =
    let named = behind_front (codes "plain ") _ _ bytes (e ∙ head_parts number parent rest) (f ∙ head_parts number other behind) in
    let spaced = append_cancel_left (layer_text number) _ _ named in
    let last : parent_text parent ++ 0x0A ∷ rest ≡ parent_text other ++ 0x0A ∷ behind = append_cancel_left (0x20 ∷ []) _ _ spaced in
    parent_once number parent other rest behind (parent_text parent ++ 0x0A ∷ rest) fits one two refl last

-- one number stands in a head
pub number_once : (number other : ℕ) (parent named : Option ℕ) (rest behind : List ℕ) → number < 2 ^ 32 → other < 2 ^ 32
    → head_line number parent ++ rest ≡ head_line other named ++ behind → number ≡ other
number_once number other parent named rest behind small below e =
    let texts = append_cancel_left (codes "plain ") _ _ (sym (head_parts number parent rest) ∙ e ∙ head_parts other named behind) in
    text_once number other small below (sym (take_at (layer_text number) _ 8 (text_length number)) ∙ ap (take 8) texts ∙ take_at (layer_text other) _ 8 (text_length other))
