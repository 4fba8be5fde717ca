-- One character of an IRI or of a string: what follows it, and that what is written of it is read back.
use Rattle.std.proofs.Common.{◌≡◌, ℕ, ◌-◌, ◌/◌, ◌%◌, ◌<◌, ◌≤◌, Bool, true, false, ◌&&◌, ◌||◌, ◌==◌, nat_le, if◌then◌else◌, List, [], ◌∷◌, ◌++◌, length, take, drop, Option, Some, None, All, IfSome, ◌≢◌, encode_utf8_all, refl, sym, ap, ◌∙◌, subst, arith, length-drop, inl, inr, lit<}
use Rattle.std.specs.Char.{IsScalar, digit_value, is_digit, encode_utf8}
use Rattle.std.proofs.lemmas.Bool.{and_parts, and_from, or_from, le-leb, lt-ltb, eqb-true, ne_eqb, cases_eq, cond-true, cond-false, agree_below_at, true≢false}
use Rattle.std.proofs.lemmas.Bool.Decides.{nat_tests}
use Rattle.std.proofs.lemmas.List.{append-nil}
use Rattle.std.proofs.lemmas.Str.{encode_ascii}
use Rattle.std.proofs.Math.Utf8.{scalar as is_scalar, low_scalar}
use Rattle.std.proofs.lemmas.List.Elements.{All-nil, All-cons, All-tail, All-head, All-drop, All-same, All-weaker, All-from_recursion}
use Rattle.std.proofs.lemmas.Option.{cond_some, some_pair_parts}
use Rattle.ts_model.specs.Characters.{is_iri_character}
use Rattle.ts_model.specs.Iri.{iri_character, iri_escape, upper_digit}
use Rattle.ts_model.specs.Literal.{string_character}
use Rattle.ts_nt.specs.Items.{hex_number, are_hex_digits, numbered, uchar, echar, escape, iri_item, string_item}
use Rattle.ts_nt.proofs.ReadsLaws.{Piece}

pub iri_item-end : (rest : List ℕ) → iri_item (0x3E ∷ rest) ≡ None
unfolding iri_item
iri_item-end rest = refl

pub string_item-end : (rest : List ℕ) → string_item (0x22 ∷ rest) ≡ None
unfolding string_item
string_item-end rest = refl

-- ---- what follows

-- the text behind is no longer, and what was read of scalars is one, with scalars behind
abbrev Goes : List ℕ → ℕ → List ℕ → Type 0
Goes text c rest = (length rest ≤ length text) × (All IsScalar text → IsScalar c × All IsScalar rest)

-- one of two things gave the result
either : {A : Type 0} (P : Type 0) (b : Bool) (x y : Option A) (a : A) → (if b then x else y) ≡ Some a → (x ≡ Some a → P) → (y ≡ Some a → P) → P
either P true x y a e first second = first e
either P false x y a e first second = second e

numbered-goes : (n : ℕ) (text rest : List ℕ) (c : ℕ) → numbered n text ≡ Some (c, rest) → Goes text c rest
unfolding numbered
numbered-goes n text rest c e =
    let found = cond_some ((nat_le n (length text) && are_hex_digits (take n text)) && is_scalar (hex_number 0 (take n text))) (hex_number 0 (take n text), drop n text) (c, rest) e in
    let tests = and_parts (nat_le n (length text) && are_hex_digits (take n text)) (is_scalar (hex_number 0 (take n text))) found.0 in
    let character : hex_number 0 (take n text) ≡ c = ap (λ (p : ℕ × List ℕ). p.0) found.1 in
    let behind : drop n text ≡ rest = ap (λ (p : ℕ × List ℕ). p.1) found.1 in
    let shorter : length rest ≡ length text - n = ap length (sym behind) ∙ length-drop n text in
    (omega (arith, shorter), λ scalars. (subst IsScalar character tests.1, All-same IsScalar rest (drop n text) (sym behind) (All-drop IsScalar n text scalars)))

goes_behind : (text rest : List ℕ) (c d : ℕ) → Goes text c rest → Goes (d ∷ text) c rest
goes_behind text rest c d goes = (omega (arith, goes.0), λ scalars. goes.1 (All-tail IsScalar d text scalars))

uchar-goes : (text rest : List ℕ) (c : ℕ) → uchar text ≡ Some (c, rest) → Goes text c rest
unfolding uchar
uchar-goes [] rest c e = cc e
uchar-goes (d ∷ text) rest c e =
    either _ (d == 0x75) _ _ _ e
    (λ four. goes_behind text rest c d (numbered-goes 4 text rest c four))
    (λ other. either _ (d == 0x55) _ _ _ other (λ eight. goes_behind text rest c d (numbered-goes 8 text rest c eight)) (λ no. cc no))

one_of : (b : Bool) (x : ℕ) (y : Option ℕ) → IsScalar x → IfSome y IsScalar → IfSome (if b then Some x else y) IsScalar
one_of true x y first second = first
one_of false x y first second = second

echar-scalar : (d : ℕ) → IfSome (echar d) IsScalar
unfolding echar
echar-scalar d =
    one_of (d == 0x74) _ _ refl (one_of (d == 0x62) _ _ refl (one_of (d == 0x6E) _ _ refl (one_of (d == 0x72) _ _ refl
    (one_of (d == 0x66) _ _ refl (one_of (d == 0x22) _ _ refl (one_of (d == 0x27) _ _ refl (one_of (d == 0x5C) _ _ refl tt)))))))

escape-goes : (text rest : List ℕ) (c : ℕ) → escape text ≡ Some (c, rest) → Goes text c rest
unfolding escape
escape-goes [] rest c e = cc e
escape-goes (d ∷ text) rest c e = by_kind (echar d) refl
  where
    by_kind : (o : Option ℕ) → echar d ≡ o → Goes (d ∷ text) c rest
    by_kind (Some x) same =
        let found : ◌≡◌ {A = Option (ℕ × List ℕ)} (Some (x, text)) (Some (c, rest)) = rw same at e in
        let parts = some_pair_parts x c text rest found in
        let scalar : IsScalar x = subst (λ (o : Option ℕ). IfSome o IsScalar) same (echar-scalar d) in
        (omega (arith, ap length parts.1), λ scalars. (subst IsScalar parts.0 scalar, All-same IsScalar rest text (sym parts.1) (All-tail IsScalar d text scalars)))
    by_kind None same =
        let found : uchar (d ∷ text) ≡ Some (c, rest) = rw same at e in
        uchar-goes (d ∷ text) rest c found

-- the text behind is shorter
abbrev pub GoesOn : List ℕ → ℕ → List ℕ → Type 0
GoesOn text c rest = (length rest < length text) × (All IsScalar text → IsScalar c × All IsScalar rest)

goes_on : (text rest : List ℕ) (c d : ℕ) → Goes text c rest → GoesOn (d ∷ text) c rest
goes_on text rest c d goes = (omega (arith, goes.0), λ scalars. goes.1 (All-tail IsScalar d text scalars))

itself : (text rest : List ℕ) (c d : ℕ) → ◌≡◌ {A = Option (ℕ × List ℕ)} (Some (d, text)) (Some (c, rest)) → GoesOn (d ∷ text) c rest
itself text rest c d e =
    let parts = some_pair_parts d c text rest e in (
      omega (arith, ap length parts.1),
      λ scalars. (subst IsScalar parts.0 (All-head IsScalar d text scalars), All-same IsScalar rest text (sym parts.1) (All-tail IsScalar d text scalars)),
    )

-- an item takes a character away, and gives a scalar where there are scalars
pub iri_item-goes : (text rest : List ℕ) (c : ℕ) → iri_item text ≡ Some (c, rest) → GoesOn text c rest
unfolding iri_item
iri_item-goes [] rest c e = cc e
iri_item-goes (d ∷ text) rest c e =
    either _ (d == 0x5C) _ _ _ e
    (λ escaped. goes_on text rest c d (uchar-goes text rest c escaped))
    (λ other. either _ (is_iri_character d) _ _ _ other (λ direct. itself text rest c d direct) (λ no. cc no))

pub string_item-goes : (text rest : List ℕ) (c : ℕ) → string_item text ≡ Some (c, rest) → GoesOn text c rest
unfolding string_item
string_item-goes [] rest c e = cc e
string_item-goes (d ∷ text) rest c e =
    either _ (d == 0x5C) _ _ _ e
    (λ escaped. goes_on text rest c d (escape-goes text rest c escaped))
    (λ other. either _ ((d == 0x22) || (d == 0x0A) || (d == 0x0D)) _ _ _ other (λ no. cc no) (λ direct. itself text rest c d direct))

-- ---- what is written of an IRI

encodes_small : (cs : List ℕ) → All (λ c. c < 128) cs → encode_utf8_all cs ≡ cs
encodes_small [] small = refl
encodes_small (c ∷ cs) small =
    let one = encode_ascii c (All-head (λ c. c < 128) c cs small) in
    let others = encodes_small cs (All-tail (λ c. c < 128) c cs small) in
    λ i. one i ++ others i

small_scalar : (c : ℕ) → c < 128 → IsScalar c
small_scalar c small = low_scalar c (omega arith)

-- what an IRI escapes is of ASCII
escaped_small : (c : ℕ) → is_iri_character c ≡ false → c < 128
escaped_small c other = grind (arith, nat_tests)

-- an upper-case digit has its value back
reads_back : ℕ → Bool
reads_back d = digit_value (upper_digit d) == d

digit_back : (d : ℕ) → d < 16 → digit_value (upper_digit d) ≡ d
unfolding reads_back
digit_back d below = eqb-true _ d (agree_below_at reads_back (λ _. true) 16 d refl below)

upper_digit_small : (d : ℕ) → d < 16 → upper_digit d < 128
upper_digit_small d below = grind (arith, nat_tests)

four_fit : (text : List ℕ) (a b c d : ℕ) → nat_le 4 (length (a ∷ b ∷ c ∷ d ∷ text)) ≡ true
four_fit text a b c d = le-leb 4 _ (omega arith)

two_digits : (c high low : ℕ) → digit_value high ≡ c / 16 → digit_value low ≡ c % 16 → hex_number 0 (0x30 ∷ 0x30 ∷ high ∷ low ∷ []) ≡ c
two_digits c high low same_high same_low = omega (arith, same_high, same_low)

below_sixteen : (c d : ℕ) → d < 16 → digit_value c ≡ d → is_digit c 16 ≡ true
below_sixteen c d below same = lt-ltb _ _ (omega (arith, same))

number_back : (c : ℕ) (more : List ℕ) → IsScalar c → c < 128 → numbered 4 (0x30 ∷ 0x30 ∷ upper_digit (c / 16) ∷ upper_digit (c % 16) ∷ more) ≡ Some (c, more)
unfolding numbered
number_back c more scalar small =
    let high = digit_back (c / 16) (omega arith) in
    let low = digit_back (c % 16) (omega arith) in
    let value = two_digits c (upper_digit (c / 16)) (upper_digit (c % 16)) high low in
    let digits : are_hex_digits (0x30 ∷ 0x30 ∷ upper_digit (c / 16) ∷ upper_digit (c % 16) ∷ []) ≡ true =
    and_from _ _ (below_sixteen (upper_digit (c / 16)) (c / 16) (omega arith) high) (and_from _ _ (below_sixteen (upper_digit (c % 16)) (c % 16) (omega arith) low) refl) in
    let fits = four_fit more 0x30 0x30 (upper_digit (c / 16)) (upper_digit (c % 16)) in
    cond-true _ _ _ (and_from _ _ (and_from _ _ fits digits) (subst IsScalar (sym value) scalar)) ∙ ap (λ n. Some (n, more)) value

iri_direct : (c : ℕ) → IsScalar c → is_iri_character c ≡ true → Piece iri_item iri_character c
unfolding iri_item
iri_direct c scalar direct =
    let other : (c == 0x5C) ≡ false = ne_eqb c 0x5C (λ e. true≢false (sym direct ∙ ap is_iri_character e)) in (
      c ∷ [],
      All-cons IsScalar c [] scalar (All-nil IsScalar),
      append-nil (encode_utf8 c) ∙ sym (cond-true (is_iri_character c) _ _ direct),
      λ more. cond-false (c == 0x5C) _ _ other ∙ cond-true (is_iri_character c) _ _ direct,
    )

iri_escaped : (c : ℕ) → IsScalar c → is_iri_character c ≡ false → Piece iri_item iri_character c
unfolding iri_item uchar
iri_escaped c scalar escaped =
    let small = escaped_small c escaped in
    let P : ℕ → Type 0 = λ d. d < 128 in
    let high = upper_digit_small (c / 16) (omega arith) in
    let low = upper_digit_small (c % 16) (omega arith) in
    let ascii : All P (iri_escape c) = All-from_recursion P (iri_escape c) (lit< tt, (lit< tt, (lit< tt, (lit< tt, (high, (low, tt)))))) in (
      iri_escape c,
      All-weaker P IsScalar small_scalar (iri_escape c) ascii,
      encodes_small (iri_escape c) ascii ∙ sym (cond-false (is_iri_character c) _ _ escaped),
      λ more. number_back c more scalar small,
    )

pub iri_piece : (c : ℕ) → IsScalar c → Piece iri_item iri_character c
iri_piece c scalar = by_kind (is_iri_character c) refl
  where
    by_kind : (b : Bool) → is_iri_character c ≡ b → Piece iri_item iri_character c
    by_kind true direct = iri_direct c scalar direct
    by_kind false escaped = iri_escaped c scalar escaped

-- ---- what is written of a string

two_scalars : (c d : ℕ) → IsScalar c → IsScalar d → All IsScalar (c ∷ d ∷ [])
two_scalars c d first second = All-cons IsScalar c (d ∷ []) first (All-cons IsScalar d [] second (All-nil IsScalar))

quote_piece : Piece string_item string_character 0x22
unfolding string_item escape echar encode_utf8
quote_piece = (0x5C ∷ 0x22 ∷ [], two_scalars 0x5C 0x22 refl refl, refl, λ more. refl)

backslash_piece : Piece string_item string_character 0x5C
unfolding string_item escape echar encode_utf8
backslash_piece = (0x5C ∷ 0x5C ∷ [], two_scalars 0x5C 0x5C refl refl, refl, λ more. refl)

newline_piece : Piece string_item string_character 0x0A
unfolding string_item escape echar encode_utf8
newline_piece = (0x5C ∷ 0x6E ∷ [], two_scalars 0x5C 0x6E refl refl, refl, λ more. refl)

return_piece : Piece string_item string_character 0x0D
unfolding string_item escape echar encode_utf8
return_piece = (0x5C ∷ 0x72 ∷ [], two_scalars 0x5C 0x72 refl refl, refl, λ more. refl)

plain_piece : (c : ℕ) → IsScalar c → c ≢ 0x22 → c ≢ 0x5C → c ≢ 0x0A → c ≢ 0x0D → Piece string_item string_character c
unfolding string_item
plain_piece c scalar quote backslash newline return =
    let no_quote = ne_eqb c 0x22 quote in
    let no_backslash = ne_eqb c 0x5C backslash in
    let no_newline = ne_eqb c 0x0A newline in
    let no_return = ne_eqb c 0x0D return in (
      c ∷ [],
      All-cons IsScalar c [] scalar (All-nil IsScalar),
      append-nil (encode_utf8 c) ∙ sym (cond-false (c == 0x22) _ _ no_quote ∙ (cond-false (c == 0x5C) _ _ no_backslash ∙ (cond-false (c == 0x0A) _ _ no_newline ∙ cond-false (c == 0x0D) _ _ no_return))),
      λ more. cond-false (c == 0x5C) _ _ no_backslash ∙ cond-false _ _ _ (or_from _ _ (or_from _ _ no_quote no_newline) no_return),
    )

pub string_piece : (c : ℕ) → IsScalar c → Piece string_item string_character c
string_piece c scalar =
    elim (cases_eq c 0x22) [
      | inl same ↦ subst (Piece string_item string_character) (sym same) quote_piece
      | inr quote ↦ elim (cases_eq c 0x5C) [
        | inl same ↦ subst (Piece string_item string_character) (sym same) backslash_piece
        | inr backslash ↦ elim (cases_eq c 0x0A) [
          | inl same ↦ subst (Piece string_item string_character) (sym same) newline_piece
          | inr newline ↦ elim (cases_eq c 0x0D) [
            | inl same ↦ subst (Piece string_item string_character) (sym same) return_piece
            | inr return ↦ plain_piece c scalar quote backslash newline return
          ]
        ]
      ]
    ]
