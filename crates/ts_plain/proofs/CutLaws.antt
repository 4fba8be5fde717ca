-- The first line of bytes, and what stands before the other bytes.
use Rattle.std.proofs.Common.{◌≡◌, ◌≢◌, ℕ, ◌+◌, ◌-◌, ◌<◌, true, ◌==◌, List, ◌∷◌, ◌++◌, length, take, drop, get_or, Option, None, Some, MatchOption, IfSome, IfNone, refl, sym, ap, ◌∙◌, arith, length-append}
use Rattle.std.proofs.lemmas.Bool.Decides.{nat_tests}
use Rattle.std.proofs.lemmas.List.{take-append-drop, drop_more, take_rest, get_or-take, get_or_default, get_or_at, length-take-le}
use Rattle.memchr.specs.Find.{Nowhere, NoneBefore, Passes, is_byte}
use Rattle.ts_plain.specs.PlainReading.{HasNoEnd}

is_end : (byte : ℕ) → (byte == 0x0A) ≡ true → byte ≡ 0x0A
is_end byte h = grind (arith, nat_tests)

pub cut_at : (bytes : List ℕ) (k : ℕ) → NoneBefore (Passes (is_byte 0x0A) bytes) 0 (length bytes) k × Passes (is_byte 0x0A) bytes k
    → HasNoEnd (take k bytes) × (bytes ≡ take k bytes ++ 0x0A ∷ take (length bytes - (k + 1)) (drop (k + 1) bytes))
cut_at bytes k found =
    let inside : k < length bytes = found.0.high in
    let there : get_or bytes k 0 ≡ 0x0A = is_end _ found.1 in
    let parts : drop k bytes ≡ 0x0A ∷ drop (k + 1) bytes = drop_more bytes k 0 inside ∙ ap (λ b. b ∷ drop (k + 1) bytes) there in
    let none : HasNoEnd (take k bytes) = λ j d small is.
    let long : length (take k bytes) ≡ k = length-take-le k bytes (omega arith) in
    let below : j < k = omega arith in
    let same : get_or bytes j 0 ≡ 0x0A = get_or_default bytes j 0 d (omega arith) ∙ sym (get_or-take k bytes j d below) ∙ is in
    found.0.before j (omega arith) below (ap (λ b. b == 0x0A) same) in
    (none, sym (take-append-drop k bytes) ∙ ap (λ l. take k bytes ++ l) (parts ∙ ap (λ l. 0x0A ∷ l) (sym (take_rest bytes (k + 1)))))

pub no_cut : (bytes : List ℕ) → Nowhere (Passes (is_byte 0x0A) bytes) 0 (length bytes) → (text rest : List ℕ) → bytes ≢ text ++ 0x0A ∷ rest
no_cut bytes none text rest is =
    let long : length bytes ≡ length text + length (0x0A ∷ rest) = ap length is ∙ length-append text (0x0A ∷ rest) in
    let there : get_or bytes (length text) 0 ≡ 0x0A = ap (λ l. get_or l (length text) 0) is ∙ get_or_at text 0x0A rest 0 (length text) refl in
    none (length text) (omega arith) (omega (arith, long)) (ap (λ b. b == 0x0A) there)

-- ---- the bytes behind a front

module _ {X : Type 0} (P : Type 0) (Q : X → Type 0) where
  pub at_some : (r : Option X) → MatchOption r P Q → IfSome r Q
  at_some None h = tt
  at_some (Some x) h = h

  pub at_none : (r : Option X) → MatchOption r P Q → IfNone r P
  at_none None h = h
  at_none (Some x) h = tt

pub if_none_weaker : {X : Type 0} (P Q : Type 0) → (P → Q) → (r : Option X) → IfNone r P → IfNone r Q
if_none_weaker P Q f None h = f h
if_none_weaker P Q f (Some x) h = tt

-- ---- no bytes

pub length_zero : (n : ℕ) → (n == 0) ≡ true → n ≡ 0
length_zero n h = grind (arith, nat_tests)
