-- Hexadecimal digits, read one after the other.
use Rattle.std.proofs.Common.{◌≡◌, ℕ, zero, suc, ◌+◌, ◌*◌, ◌^◌, ◌<◌, ◌≤◌, Bool, true, false, ◌&&◌, nat_le, if◌then◌else◌, List, [], ◌∷◌, length, take, drop, Option, Some, None, refl, sym, ap, ◌∙◌, arith, lit≤, add-one}
use Rattle.std.proofs.Math.Nat.{pow-suc, pow-le-pow_right}
use Rattle.std.proofs.lemmas.Bool.Decides.{nat_tests}
use Rattle.std.specs.Char.{digit_value, is_digit}
use Rattle.ts_nt.specs.Items.{are_hex_digits, hex_number}

-- what so many digits at the front of a text write, behind digits that write `high`, and the text after them
abbrev pub digits_from : ℕ → ℕ → List ℕ → Option (ℕ × List ℕ)
digits_from high zero text = Some (high, text)
digits_from high (suc n) [] = None
digits_from high (suc n) (c ∷ text) = if is_digit c 16 then digits_from (16 * high + digit_value c) n text else None

branch : (digit fits more others : Bool) (x y : Option (ℕ × List ℕ)) → more ≡ fits → x ≡ (if fits && others then y else None)
    → (if digit then x else None) ≡ (if more && (digit && others) then y else None)
branch true true true others x y same e = e
branch true false false others x y same e = e
branch false true true others x y same e = refl
branch false false false others x y same e = refl
branch digit true false others x y same e = cc
branch digit false true others x y same e = cc

one_more : (n m : ℕ) → nat_le (suc n) (suc m) ≡ nat_le n m
one_more n m = grind (arith, nat_tests)

none_short : (n : ℕ) → nat_le (suc n) 0 ≡ false
none_short n = grind (arith, nat_tests)

-- the whole of the digits at once
abbrev pub at_once : ℕ → ℕ → List ℕ → Option (ℕ × List ℕ)
at_once high n text =
    if nat_le n (length text) && are_hex_digits (take n text) then Some (hex_number high (take n text), drop n text) else None

pub digits_at_once : (high n : ℕ) (text : List ℕ) → digits_from high n text ≡ at_once high n text
digits_at_once high zero text =
    let fits : nat_le 0 (length text) ≡ true = grind (arith, nat_tests) in
    rw fits refl
digits_at_once high (suc n) [] = rw (none_short n) refl
digits_at_once high (suc n) (c ∷ text) =
    branch (is_digit c 16) (nat_le n (length text)) _ (are_hex_digits (take n text)) _ _ (one_more n (length text)) (digits_at_once (16 * high + digit_value c) n text)

no_more : (high n : ℕ) → 0 < n → digits_from high n [] ≡ None
no_more high zero some = absurd (omega arith)
no_more high (suc n) some = refl

refused : (high n c : ℕ) (text : List ℕ) → 0 < n → is_digit c 16 ≡ false → digits_from high n (c ∷ text) ≡ None
refused high zero c text some other = absurd (omega arith)
refused high (suc n) c text some other = rw other refl

-- the text ends before the last digit
pub ends_early : (high n count : ℕ) (rest text : List ℕ) → 0 < n → rest ≡ [] → digits_from high n rest ≡ digits_from 0 count text → at_once 0 count text ≡ None
ends_early high n count rest text some empty same =
    sym (digits_at_once 0 count text) ∙ (sym same ∙ (ap (λ (l : List ℕ). digits_from high n l) empty ∙ no_more high n some))

-- a character is no digit
pub meets_other : (high n count c : ℕ) (rest more text : List ℕ) → 0 < n → rest ≡ c ∷ more → is_digit c 16 ≡ false → digits_from high n rest ≡ digits_from 0 count text → at_once 0 count text ≡ None
meets_other high n count c rest more text some parts other same =
    sym (digits_at_once 0 count text) ∙ (sym same ∙ (ap (λ (l : List ℕ). digits_from high n l) parts ∙ refused high n c more some other))

-- the last digit is read
pub all_read : (high n count : ℕ) (rest text : List ℕ) → n ≡ 0 → digits_from high n rest ≡ digits_from 0 count text → at_once 0 count text ≡ Some (high, rest)
all_read high n count rest text none same =
    sym (digits_at_once 0 count text) ∙ (sym same ∙ ap (λ k. digits_from high k rest) none)

-- a number of fewer than eight digits has room for one more
pub digit_fits : (i number digit : ℕ) → i < 8 → number < 16 ^ i → digit < 16 → (16 * number + digit < 2 ^ 32) × (16 * number + digit < 16 ^ (i + 1))
digit_fits i number digit few small below =
    let more : 16 ^ suc i ≡ 16 ^ i * 16 = pow-suc 16 i in
    let more' : 16 ^ (i + 1) ≡ 16 ^ i * 16 = rw add-one more in
    let within : i ≤ 7 = omega arith in
    let most : 16 ^ i ≤ 16 ^ 7 = pow-le-pow_right (lit≤ tt) within in
    (omega arith, omega arith)
