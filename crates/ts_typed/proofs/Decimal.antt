-- The decimal text of a number within 128 bits, read back.
use Rattle.std.proofs.Common.{◌≡◌, ◌≢◌, ℕ, zero, suc, ◌+◌, ◌^◌, ◌<◌, ◌≤◌, List, [], ◌∷◌, length, drop, get_or, Result, Ok, Err, Option, Some, None, IsTrue, refl, sym, ap, ◌∙◌, subst, arith, lit<, false, cond, ◌==◌}
use Rattle.std.specs.Prelude.{ℤ, pos, negsuc, nat_lt}
use Rattle.std.specs.Result.{OkIff}
use lib.IntN.{neg_ℤ}
use Rattle.std.proofs.lemmas.Str.Ascii.{IsAscii-cons}
use Rattle.std.specs.Fmt.{decimal, signed_decimal}
use Rattle.std.specs.Int.{IsInRange}
use Rattle.std.specs.Str.{IsAscii, IsUtf8}
use Rattle.std.specs.Str.Parse.{AllDigits, IsNumeral, ParsesSigned, digits_value}
use Rattle.std.proofs.lemmas.Bool.Decides.{nat_tests}
use Rattle.std.proofs.lemmas.Fmt.{IsAscii-decimal_wide, decimal_is_IsNumeral_wide}
use Rattle.std.proofs.lemmas.Str.{IsUtf8-from_ascii}
use Rattle.std.proofs.lemmas.Str.Parse.{IsNumeralModel, digit_at, numerals_by_value, parse_signed_minus, parse_signed_plain, tells_digits}
use mir.Syntax.{w128}
use Rattle.ts_model.specs.Integers.{is_within_128, signed_value}

own : IsNumeralModel (AllDigits 10) (digits_value 10)
own = numerals_by_value (AllDigits 10) tells_digits

below : (n m : ℕ) → IsTrue (nat_lt n m) → n < m
below n m is = grind (arith, nat_tests)

-- as many digits as are enough
enough : (n : ℕ) → n ≤ 2 ^ 127 → n < 10 ^ 64
enough n h = omega (arith, lit)
  where
    lit : 2 ^ 127 < 10 ^ 64
    lit = lit< tt

numeral : (n : ℕ) → n ≤ 2 ^ 127 → IsNumeral 10 (decimal n)
numeral n h = (decimal_is_IsNumeral_wide n (enough n h)).0

value : (n : ℕ) → n ≤ 2 ^ 127 → digits_value 10 (decimal n) ≡ n
value n h = (decimal_is_IsNumeral_wide n (enough n h)).1

first : (n : ℕ) → n ≤ 2 ^ 127 → IsInRange 48 57 (get_or (decimal n) 0 0)
first n h = let is = numeral n h in digit_at (decimal n) 0 is.1 is.0

ends : {E : Type 0} (P : Type 0) (r : Result ℤ E) (number said : ℤ) → said ≡ number → P → OkIff r P said → r ≡ Ok number
ends P (Ok x) number said same holds is = ap Ok (is.1 ∙ same)
ends P (Err e) number said same holds not = absurd (not holds)

pub read_back : {E : Type 0} (number : ℤ) (r : Result ℤ E) → IsTrue (is_within_128 number) → ParsesSigned w128 10 (signed_decimal number) r → r ≡ Ok number
read_back (pos n) r within parses =
    let small : n < 2 ^ 127 = below n (2 ^ 127) within in
    let low : IsInRange 48 57 (get_or (decimal n) 0 0) = first n (omega arith) in
    let is : IsNumeral 10 (decimal n) = numeral n (omega arith) in
    let same : digits_value 10 (decimal n) ≡ n = value n (omega arith) in
    ends _ r (pos n) (pos (digits_value 10 (decimal n))) (ap pos same) (is.1, is.0, subst (λ k. k < 2 ^ 127) (sym same) small)
    (parse_signed_plain own w128 (decimal n) r parses (λ plus. absurd (omega arith)) (λ minus. absurd (omega arith)))
read_back (negsuc n) r within parses =
    let small : n < 2 ^ 127 = below n (2 ^ 127) within in
    let is : IsNumeral 10 (decimal (suc n)) = numeral (suc n) (omega arith) in
    let same : digits_value 10 (decimal (suc n)) ≡ suc n = value (suc n) (omega arith) in
    ends _ r (negsuc n) (neg_ℤ (pos (digits_value 10 (decimal (suc n))))) (ap (λ k. neg_ℤ (pos k)) same) (is.1, is.0, subst (λ k. k ≤ 2 ^ 127) (sym same) (omega arith))
    (parse_signed_minus own w128 (45 ∷ decimal (suc n)) r parses refl)

pub is_text : (number : ℤ) → IsTrue (is_within_128 number) → IsUtf8 (signed_decimal number)
is_text (pos n) within =
    let small : n < 2 ^ 127 = below n (2 ^ 127) within in
    IsUtf8-from_ascii (decimal n) (IsAscii-decimal_wide n (enough n (omega arith)))
is_text (negsuc n) within =
    let small : n < 2 ^ 127 = below n (2 ^ 127) within in
    IsUtf8-from_ascii (45 ∷ decimal (suc n)) (IsAscii-cons 45 (decimal (suc n)) (omega arith) (IsAscii-decimal_wide (suc n) (enough (suc n) (omega arith))))

plain : (digits : List ℕ) → 0 < length digits → get_or digits 0 0 ≢ 45 → signed_value digits ≡ pos (digits_value 10 digits)
plain [] some other = absurd (omega arith)
plain (c ∷ digits) some other =
    let no : (c == 45) ≡ false = grind (arith, nat_tests) in
    ap (λ b. cond b (neg_ℤ (pos (digits_value 10 digits))) (pos (digits_value 10 (c ∷ digits)))) no

pub said : (number : ℤ) → IsTrue (is_within_128 number) → signed_value (signed_decimal number) ≡ number
said (pos n) within =
    let small : n < 2 ^ 127 = below n (2 ^ 127) within in
    let low : IsInRange 48 57 (get_or (decimal n) 0 0) = first n (omega arith) in
    plain (decimal n) (numeral n (omega arith)).0 (λ minus. absurd (omega arith)) ∙ ap pos (value n (omega arith))
said (negsuc n) within =
    let small : n < 2 ^ 127 = below n (2 ^ 127) within in
    ap (λ k. neg_ℤ (pos k)) (value (suc n) (omega arith))
