-- The first character of a text.
use Rattle.std.specs.Prelude.{◌≡◌, ℕ, Bool, true, false, ◌&&◌, ◌+◌, ◌++◌, List, [], ◌∷◌, length, chars, encode_utf8, encode_utf8_all, IsUtf8, refl}
use Rattle.std.proofs.Common.{sym, ap, ◌∙◌, arith, length-append, true≢false}
use Rattle.std.proofs.lemmas.Str.{chars-encodes, encode_same, length-encode, len_utf8_bounds}

both : (a b : Bool) → (a && b) ≡ true → (a ≡ true) × (b ≡ true)
both true b e = (refl, e)
both false b e = (e, absurd (true≢false (sym e)))

-- the text begins with the character, and its other characters are those of the rest
pub first_character : (text rest : List ℕ) (c : ℕ) → IsUtf8 text → text ≡ encode_utf8 c ++ rest → chars text ≡ c ∷ chars rest
first_character text rest c ([], (scalars, spelled)) begins =
    let bounds = len_utf8_bounds c in
    let long = length-encode c in
    let empty : length (encode_utf8 c ++ rest) ≡ 0 = ap length (sym (spelled ∙ begins)) in
    let whole : length (encode_utf8 c ++ rest) ≡ length (encode_utf8 c) + length rest = length-append (encode_utf8 c) rest in
    absurd (omega (arith, whole, empty, bounds, long))
first_character text rest c (d ∷ ds, (scalars, spelled)) begins =
    let same = encode_same d c (encode_utf8_all ds) rest (spelled ∙ begins) in
    let each = both _ _ scalars in
    let all : chars text ≡ d ∷ ds = ap chars (sym spelled) ∙ chars-encodes (d ∷ ds) scalars in
    let others : chars rest ≡ ds = ap chars (sym (same.1)) ∙ chars-encodes ds (each.1) in
    all ∙ (λ i. same.0 i ∷ sym others i)
