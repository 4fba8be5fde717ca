-- Where the front of a text ends and the rest begins, in bytes.
use Rattle.std.specs.Prelude.{◌≡◌, ℕ, ◌-◌, ◌≤◌, take, IsCharBoundary, List, ◌++◌, length, IsUtf8, chars, encode_utf8_all}
use Rattle.std.proofs.Common.{sym, ap, ◌∙◌, arith, length-append}
use Rattle.std.proofs.lemmas.List.{take_at}
use Rattle.std.proofs.lemmas.Str.{IsCharBoundary-at_seam}
use Rattle.ts_model.proofs.Fronts.{front_bytes}

-- the front ends where the rest begins
pub seam : (text rest front : List ℕ) → IsUtf8 text → IsUtf8 rest → chars text ≡ front ++ chars rest → (length rest ≤ length text) × (length text - length rest ≡ length (encode_utf8_all front))
seam text rest front text_is rest_is parts =
    let long : length text ≡ length (encode_utf8_all front ++ rest) = ap length (front_bytes text rest front text_is rest_is parts) in
    let sum = length-append (encode_utf8_all front) rest in
    (omega arith, omega arith)

pub seam_boundary : (text rest front : List ℕ) → IsUtf8 text → IsUtf8 rest → chars text ≡ front ++ chars rest → IsCharBoundary text (length text - length rest)
seam_boundary text rest front text_is rest_is parts =
    rw ((seam text rest front text_is rest_is parts).1) (IsCharBoundary-at_seam text (encode_utf8_all front) rest (front_bytes text rest front text_is rest_is parts) rest_is)

pub seam_front : (text rest front : List ℕ) → IsUtf8 text → IsUtf8 rest → chars text ≡ front ++ chars rest → take (length text - length rest) text ≡ encode_utf8_all front
seam_front text rest front text_is rest_is parts =
    let bytes = front_bytes text rest front text_is rest_is parts in
    ap (λ t. take (length text - length rest) t) bytes ∙ take_at (encode_utf8_all front) rest (length text - length rest) (sym ((seam text rest front text_is rest_is parts).1))
