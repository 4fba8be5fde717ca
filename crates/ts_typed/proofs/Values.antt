-- The number of a canonical spelling, and of no other.
use Rattle.std.proofs.Common.{◌≡◌, ◌≢◌, ℕ, ◌-◌, ◌&&◌, Bool, true, false, true≢false, cond, List, [], ◌∷◌, ◌++◌, length, length-append, take, drop, Option, Some, None, IsTrue, refl, sym, ap, ◌∙◌, subst, arith}
use Rattle.std.specs.Prelude.{ℤ, IfNone, IfSome}
use Rattle.std.specs.Fmt.{signed_decimal}
use Rattle.std.specs.Str.{bytes_eq}
use Rattle.std.proofs.lemmas.List.{append_cancel_right, take_at}
use Rattle.std.proofs.lemmas.Slice.Eq.{bytes_eq-Decides}
use Rattle.ts_model.specs.Integers.{integer_ending, integer_of, integer_spelling, is_within_128, number_said, signed_value}
use Rattle.ts_typed.proofs.Decimal.{said}

number_is : (number : ℤ) → IsTrue (is_within_128 number) → number_said (integer_spelling number) ≡ number
number_is number within =
    let digits : List ℕ = signed_decimal number in
    ap signed_value (take_at digits integer_ending (length (integer_spelling number) - 1 - length integer_ending) (omega (arith, length-append digits integer_ending))) ∙ said number within

bytes_same : (xs : List ℕ) → bytes_eq xs xs ≡ true
bytes_same xs = (bytes_eq-Decides xs xs).1 refl

pub of_spelling : (number : ℤ) (spelling : List ℕ) → IsTrue (is_within_128 number) → spelling ≡ integer_spelling number → integer_of spelling ≡ Some number
of_spelling number spelling within is =
    ap integer_of is
    ∙ ap (λ z. cond (is_within_128 z && bytes_eq (integer_spelling z) (integer_spelling number)) (Some z) None) (number_is number within)
    ∙ ap (λ b. cond (b && bytes_eq (integer_spelling number) (integer_spelling number)) (Some number) None) within
    ∙ ap (λ b. cond b (Some number) None) (bytes_same (integer_spelling number))

refused : (within same : Bool) (number : ℤ) → (within ≡ true → same ≡ true → ⊥) → cond (within && same) (Some number) None ≡ None
refused true true number not = absurd (not refl refl)
refused true false number not = refl
refused false same number not = refl

pub of_none : (spelling : List ℕ) → ((number : ℤ) → IsTrue (is_within_128 number) → spelling ≢ integer_spelling number) → integer_of spelling ≡ None
of_none spelling none =
    let number : ℤ = number_said spelling in
    refused (is_within_128 number) (bytes_eq (integer_spelling number) spelling) number
    (λ within same. none number within (sym ((bytes_eq-Decides (integer_spelling number) spelling).0 same)))

pub by_digits : (spelling digits : List ℕ) (o : Option ℤ) → spelling ≡ 0x22 ∷ (digits ++ integer_ending) → IfSome o (λ number. digits ≡ signed_decimal number)
    → IfSome o (λ number. IsTrue (is_within_128 number)) → IfNone o ((number : ℤ) → IsTrue (is_within_128 number) → digits ≢ signed_decimal number) → o ≡ integer_of spelling
by_digits spelling digits (Some number) is some within none = sym (of_spelling number spelling within (is ∙ ap (λ d. 0x22 ∷ (d ++ integer_ending)) some))
by_digits spelling digits None is some within none = sym (of_none spelling (λ number inside same.
    let tails : digits ++ integer_ending ≡ signed_decimal number ++ integer_ending = ap (drop 1) (sym is ∙ same) in
    none number inside (append_cancel_right digits (signed_decimal number) integer_ending tails)))
