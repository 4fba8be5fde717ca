-- Texts and their characters.
use Rattle.std.specs.Prelude.{◌≡◌, ℕ, ◌<◌, ◌≤◌, true, List, [], ◌∷◌, ◌++◌, length, All, IsUtf8, flat_map}
use Rattle.std.specs.Char.{IsScalar, encode_utf8}
use Rattle.std.specs.Str.{all_scalars}
use Rattle.std.proofs.Common.{refl, ap, arith, subst, length-append}
use Rattle.std.proofs.lemmas.Bool.{and_parts, and_from}
use Rattle.std.proofs.lemmas.List.Elements.{All-cons, All-nil, All-head, All-tail}
use Rattle.std.proofs.lemmas.Str.{IsUtf8-append, IsUtf8-nil, IsUtf8-encode, encode_ascii, length-encode, len_utf8_bounds}
use lib.Utf8.{low_scalar}

pub are_scalars : (cs : List ℕ) → All IsScalar cs → all_scalars cs ≡ true
are_scalars [] each = refl
are_scalars (c ∷ cs) each = and_from _ _ (All-head IsScalar c cs each) (are_scalars cs (All-tail IsScalar c cs each))

pub each_scalar : (cs : List ℕ) → all_scalars cs ≡ true → All IsScalar cs
each_scalar [] e = All-nil IsScalar
each_scalar (c ∷ cs) e = let parts = and_parts _ _ e in All-cons IsScalar c cs parts.0 (each_scalar cs parts.1)

-- what is left behind something is shorter
pub shorter : (text front rest : List ℕ) → 1 ≤ length front → text ≡ front ++ rest → length rest < length text
shorter text front rest some begins = omega (arith, some, ap length begins, length-append front rest)

pub one_byte : (c : ℕ) → 1 ≤ length (encode_utf8 c)
one_byte c = let long = length-encode c in let bounds = len_utf8_bounds c in omega (arith, long, bounds)

-- ---- what is UTF-8

pub ascii_then : (b : ℕ) (bytes : List ℕ) → b < 128 → IsUtf8 bytes → IsUtf8 (b ∷ bytes)
ascii_then b bytes small text = IsUtf8-append (b ∷ []) bytes (subst IsUtf8 (encode_ascii b small) (IsUtf8-encode b (low_scalar b (omega arith)))) text

pub all_ascii : (bytes : List ℕ) → All (λ b. b < 128) bytes → IsUtf8 bytes
all_ascii [] each = IsUtf8-nil
all_ascii (b ∷ bs) each = ascii_then b bs (All-head (λ x. x < 128) b bs each) (all_ascii bs (All-tail (λ x. x < 128) b bs each))

pub written_text : (written : ℕ → List ℕ) → ((c : ℕ) → IsScalar c → IsUtf8 (written c)) → (cs : List ℕ) → All IsScalar cs → IsUtf8 (flat_map written cs)
written_text written each [] scalars = IsUtf8-nil
written_text written each (c ∷ cs) scalars =
    IsUtf8-append (written c) (flat_map written cs) (each c (All-head IsScalar c cs scalars)) (written_text written each cs (All-tail IsScalar c cs scalars))
