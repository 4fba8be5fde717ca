-- The characters of a text are Unicode's scalar values.
use Rattle.std.proofs.Common.{◌≡◌, ℕ, Bool, true, false, ◌&&◌, List, [], ◌∷◌, All, IsUtf8, encode_utf8_all, refl, sym, ap, ◌∙◌, true≢false, chars}
use Rattle.std.specs.Char.{IsScalar}
use Rattle.std.specs.Str.{all_scalars}
use Rattle.std.proofs.lemmas.List.Elements.{All-cons, All-nil, All-head, All-tail}
use Rattle.std.proofs.lemmas.Str.{scalars-chars, chars-encodes}

both : (a b : Bool) → (a && b) ≡ true → (a ≡ true) × (b ≡ true)
both true b e = (refl, e)
both false b e = absurd (true≢false (sym e))

pub All-from_scalars : (text : List ℕ) → all_scalars text ≡ true → All IsScalar text
All-from_scalars [] e = All-nil IsScalar
All-from_scalars (c ∷ text) e = let each = both _ _ e in All-cons IsScalar c text each.0 (All-from_scalars text each.1)

pub scalars_from_All : (text : List ℕ) → All IsScalar text → all_scalars text ≡ true
scalars_from_All [] all = refl
scalars_from_All (c ∷ text) all =
    ap (λ b. b && all_scalars text) (All-head IsScalar c text all) ∙ scalars_from_All text (All-tail IsScalar c text all)

pub All-chars : (bytes : List ℕ) → IsUtf8 bytes → All IsScalar (chars bytes)
All-chars bytes utf8 = All-from_scalars (chars bytes) (scalars-chars bytes utf8)

-- the bytes of such a text are UTF-8, and its characters
pub written_utf8 : (text bytes : List ℕ) → All IsScalar text → encode_utf8_all text ≡ bytes → IsUtf8 bytes
written_utf8 text bytes all encoded = (text, (scalars_from_All text all, encoded))

pub written_chars : (text bytes : List ℕ) → All IsScalar text → encode_utf8_all text ≡ bytes → chars bytes ≡ text
written_chars text bytes all encoded = ap chars (sym encoded) ∙ chars-encodes text (scalars_from_All text all)
