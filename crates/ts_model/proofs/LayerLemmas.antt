-- What is decoded from a layer's text.
use Rattle.std.proofs.Common.{◌≡◌, ◌≢◌, false, ◌==◌, ◌++◌, length, codes, slice_index, sym, true≢false, ℕ, ◌<◌, ◌^◌, ◌%◌, ◌/◌, List, [], ◌∷◌, zero, suc, Result, Ok, Err, MatchResult, ap, subst, ◌∙◌, refl, arith}
use Rattle.std.specs.Int.{w32, to_be_bytes, from_be_bytes}
use Rattle.std.proofs.lemmas.Nat.{from_be_bytes-to_be_bytes_4}
use Rattle.std.proofs.lemmas.Bool.{agree_below_at}
use Rattle.hex.specs.Hex.{decode_sized, encode_with, lower_digits, IsBytes}
use Rattle.hex.specs.declared.error.FromHexError.{FromHexError}
use Rattle.hex.proofs.HexLemmas.{decode_sized-encode_lower}
use Rattle.ts_model.specs.LayerText.{layer_text}

byte_below : (x : ℕ) → x % 256 < 256
byte_below x = omega arith

no_bytes : IsBytes []
no_bytes i = omega arith

bytes_cons : (x : ℕ) (xs : List ℕ) → x < 256 → IsBytes xs → IsBytes (x ∷ xs)
bytes_cons x xs first others zero = first
bytes_cons x xs first others (suc i) = others i

bytes_of_number : (n : ℕ) → IsBytes (to_be_bytes w32 n)
bytes_of_number n =
    bytes_cons _ (n / 65536 % 256 ∷ n / 256 % 256 ∷ n % 256 ∷ []) (byte_below (n / 16777216))
    (bytes_cons _ (n / 256 % 256 ∷ n % 256 ∷ []) (byte_below (n / 65536))
    (bytes_cons _ (n % 256 ∷ []) (byte_below (n / 256)) (bytes_cons _ [] (byte_below n) no_bytes)))

-- the text of a number decodes to its bytes
pub decoded : (n : ℕ) (text : List ℕ) → layer_text n ≡ text → decode_sized text 4 ≡ Ok (to_be_bytes w32 n)
decoded n text is = subst (λ t. decode_sized t 4 ≡ Ok (to_be_bytes w32 n)) is (decode_sized-encode_lower (to_be_bytes w32 n) 4 refl (bytes_of_number n))

abbrev Decoded : Result (List ℕ) FromHexError → Result (Unit {0}) FromHexError → List ℕ → Type 0
Decoded decoding answer written = MatchResult decoding (λ bytes. (answer ≡ Ok tt) × (written ≡ bytes)) (λ e. answer ≡ Err e)

-- decoding it does not fail, and gives the number back
pub no_failure : (n : ℕ) (text written : List ℕ) (answer : Result (Unit {0}) FromHexError) → layer_text n ≡ text
    → Decoded (decode_sized text 4) answer written → answer ≡ Ok tt
no_failure n text written answer is h = (subst (λ d. Decoded d answer written) (decoded n text is) h).0

pub given_back : (n : ℕ) (text written : List ℕ) (answer : Result (Unit {0}) FromHexError) → n < 2 ^ 32 → layer_text n ≡ text
    → Decoded (decode_sized text 4) answer written → from_be_bytes w32 written ≡ n
given_back n text written answer below is h =
    ap (from_be_bytes w32) (subst (λ d. Decoded d answer written) (decoded n text is) h).1 ∙ from_be_bytes-to_be_bytes_4 n below

-- a layer's number has 8 digits
pub text_length : (layer : ℕ) → length (layer_text layer) ≡ 8
unfolding encode_with
text_length layer = refl

no_digit : (digit : ℕ) → digit < 16 → slice_index lower_digits digit ≢ 0x6E
no_digit digit small e =
    let other : (slice_index lower_digits digit == 0x6E) ≡ false = agree_below_at (λ d. slice_index lower_digits d == 0x6E) (λ d. false) 16 digit refl small in
    true≢false (sym (ap (λ b. b == 0x6E) e) ∙ other)

-- and none of them is `n`
pub not_none : (layer : ℕ) (rest more : List ℕ) → layer_text layer ++ rest ≢ codes "none" ++ more
unfolding encode_with
not_none layer rest more e =
    let first : slice_index lower_digits (layer / 16777216 % 256 / 16) ≡ 0x6E = cc in
    no_digit (layer / 16777216 % 256 / 16) (omega arith) first
