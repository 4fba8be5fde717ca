-- The two lines of a label's file.
use Rattle.std.proofs.Common.{◌≡◌, ◌≢◌, ℕ, zero, suc, ◌+◌, ◌-◌, ◌<◌, ◌≤◌, ◌^◌, ◌/◌, ◌%◌, true, List, [], ◌∷◌, ◌++◌, length, get_or, take, Option, Some, None, Result, Ok, refl, sym, ap, ◌∙◌, subst, arith}
use Rattle.std.specs.Prelude.{decimal, slice_index, MatchOption, nat_le}
use Rattle.std.specs.Char.{digit_value}
use Rattle.std.specs.Int.{w32, to_be_bytes, from_be_bytes}
use Rattle.std.specs.List.{AllByRecursion}
use Rattle.std.specs.Str.{IsAscii, IsUtf8}
use Rattle.std.specs.Str.Parse.{AllDigits}
use Rattle.std.specs.Str.Pattern.{FindsCharSuffix}
use Rattle.std.proofs.lemmas.Bool.{leb-true, agree_below_at}
use Rattle.std.proofs.lemmas.Fmt.{IsAscii-decimal, decimal_is_IsNumeral}
use Rattle.std.proofs.lemmas.List.{append_cancel_right}
use Rattle.std.proofs.lemmas.Nat.{from_be_bytes-to_be_bytes_4}
use Rattle.std.proofs.lemmas.Str.{IsAscii-append, IsUtf8-from_ascii}
use Rattle.std.proofs.lemmas.Str.Ascii.{IsAscii-nil}
use Rattle.std.proofs.lemmas.Str.Pattern.{IsSplitOnceResult, split_after, strip_suffix_char}
use denote.Ref.{Bor}
use Rattle.hex.specs.Hex.{lower_digits, encode_lower, encode_with}
use Rattle.ts_model.specs.LayerText.{layer_text}
use Rattle.ts_model.proofs.LayerLemmas.{decoded, text_length}
use Rattle.ts_labels.specs.declared.label.Label.{Label}
use Rattle.ts_labels.specs.LabelFile.{IsLabel, IsLabelLayer, label_text, layer_or_none}

-- ---- words

-- numbers of 32 bits with one text are one number
layer_text_tells : (n m : ℕ) → n < 2 ^ 32 → m < 2 ^ 32 → layer_text n ≡ layer_text m → n ≡ m
layer_text_tells n m below_n below_m same =
    let bytes : Ok (to_be_bytes w32 n) ≡ Ok (to_be_bytes w32 m) = sym (decoded n (layer_text m) same) ∙ decoded m (layer_text m) refl in
    let equal : to_be_bytes w32 n ≡ to_be_bytes w32 m = cc in
    sym (from_be_bytes-to_be_bytes_4 n below_n) ∙ ap (from_be_bytes w32) equal ∙ from_be_bytes-to_be_bytes_4 m below_m

pub one_word : (a b : Option ℕ) → IsLabelLayer a → IsLabelLayer b → layer_or_none a ≡ layer_or_none b → a ≡ b
one_word None None is other e = refl
one_word None (Some m) is other e = absurd (omega (arith, ap (λ (t : List ℕ). length t) e, text_length m))
one_word (Some n) None is other e = absurd (omega (arith, ap (λ (t : List ℕ). length t) e, text_length n))
one_word (Some n) (Some m) is other e = ap (λ (k : ℕ). Some k) (layer_text_tells n m is.1 other.1 e)

-- the text of 0 is no label's word
pub no_word : (n : ℕ) (word : List ℕ) → n ≡ 0 → layer_text n ≡ word → (layer : Option ℕ) → IsLabelLayer layer → layer_or_none layer ≡ word → ⊥
no_word n word nought text None is e = omega (arith, ap (λ (t : List ℕ). length t) (text ∙ sym e), text_length n)
no_word n word nought text (Some m) is e = omega (arith, is.0, nought, layer_text_tells m n is.1 (omega arith) (e ∙ sym text))

-- ---- the file is a text

byte_below : (x : ℕ) → x % 256 < 256
byte_below x = omega arith

ascii_cons : (x : ℕ) (xs : List ℕ) → x < 128 → IsAscii xs → IsAscii (x ∷ xs)
ascii_cons x xs first others zero = first
ascii_cons x xs first others (suc i) = others i

ascii_digit : (d : ℕ) → d < 16 → slice_index lower_digits d < 128
ascii_digit d small =
    let within : slice_index lower_digits d ≤ 127 = leb-true _ 127 (agree_below_at (λ k. nat_le (slice_index lower_digits k) 127) (λ k. true) 16 d refl small) in
    omega (arith, within)

ascii_encoded : (bytes : List ℕ) → AllByRecursion (λ b. b < 256) bytes → IsAscii (encode_lower bytes)
unfolding encode_with
ascii_encoded [] below = IsAscii-nil
ascii_encoded (b ∷ bytes) below =
    let low : IsAscii (slice_index lower_digits (b % 16) ∷ encode_lower bytes) = ascii_cons _ (encode_lower bytes) (ascii_digit (b % 16) (omega arith)) (ascii_encoded bytes below.1) in
    ascii_cons (slice_index lower_digits (b / 16)) (slice_index lower_digits (b % 16) ∷ encode_lower bytes) (ascii_digit (b / 16) (omega (arith, below.0))) low

ascii_word : (layer : Option ℕ) → IsAscii (layer_or_none layer)
ascii_word None =
    ascii_cons 0x6E (0x6F ∷ 0x6E ∷ 0x65 ∷ []) (omega arith) (ascii_cons 0x6F (0x6E ∷ 0x65 ∷ []) (omega arith) (ascii_cons 0x6E (0x65 ∷ []) (omega arith) (ascii_cons 0x65 [] (omega arith) IsAscii-nil)))
ascii_word (Some n) =
    ascii_encoded (to_be_bytes w32 n) (byte_below (n / 16777216), (byte_below (n / 65536), (byte_below (n / 256), (byte_below n, tt))))

pub is_text : (label : Label) (bytes : List ℕ) → IsLabel label → label_text label ≡ bytes → IsUtf8 bytes
is_text label bytes is e =
    let feed : IsAscii (10 ∷ []) = ascii_cons 10 [] (omega arith) IsAscii-nil in
    let word : IsAscii (layer_or_none label.layer ++ 10 ∷ []) = IsAscii-append (layer_or_none label.layer) (10 ∷ []) (ascii_word label.layer) feed in
    let rest : IsAscii (10 ∷ (layer_or_none label.layer ++ 10 ∷ [])) = ascii_cons 10 (layer_or_none label.layer ++ 10 ∷ []) (omega arith) word in
    subst IsUtf8 e (IsUtf8-from_ascii (label_text label) (IsAscii-append (decimal label.version) (10 ∷ (layer_or_none label.layer ++ 10 ∷ [])) (IsAscii-decimal label.version is.0) rest))

-- ---- its lines

no_feed : (ds : List ℕ) (i : ℕ) → AllDigits 10 ds → i < length ds → get_or ds i 0 ≢ 10
no_feed [] i digits below e = omega (arith, below)
no_feed (d ∷ ds) zero digits below e =
    let feed : digit_value 10 < 10 = subst (λ (c : ℕ). digit_value c < 10) e digits.0 in
    omega (arith, feed)
no_feed (d ∷ ds) (suc i) digits below e = no_feed ds i digits.1 (omega arith) e

abbrev Lines : Type 0
Lines = Option (Bor (List ℕ) × Bor (List ℕ))

-- the first line is the version, and the rest is the layer's word and the end of its line
pub cut : (label : Label) (text : List ℕ) (r : Lines) → IsLabel label → label_text label ≡ text → IsSplitOnceResult 10 text r
    → MatchOption r ⊥ (λ x. (x.0.now ≡ decimal label.version) × (x.1.now ≡ layer_or_none label.layer ++ 10 ∷ []))
cut label text r is e found =
    split_after 10 text (decimal label.version) (layer_or_none label.layer ++ 10 ∷ []) r found (omega arith) (sym e)
    (λ i below. no_feed (decimal label.version) i (decimal_is_IsNumeral label.version is.0).0.1 below)

pub cut_some : (label : Label) (text : List ℕ) (r : Lines) (digits rest : Bor (List ℕ)) → IsLabel label → label_text label ≡ text → IsSplitOnceResult 10 text r
    → r ≡ Some (digits, rest) → (digits.now ≡ decimal label.version) × (rest.now ≡ layer_or_none label.layer ++ 10 ∷ [])
cut_some label text r digits rest is e found was =
    subst (λ (o : Lines). MatchOption o ⊥ (λ x. (x.0.now ≡ decimal label.version) × (x.1.now ≡ layer_or_none label.layer ++ 10 ∷ []))) was (cut label text r is e found)

pub cut_none : (label : Label) (text : List ℕ) (r : Lines) → IsLabel label → label_text label ≡ text → IsSplitOnceResult 10 text r → r ≡ None → ⊥
cut_none label text r is e found was =
    subst (λ (o : Lines). MatchOption o ⊥ (λ x. (x.0.now ≡ decimal label.version) × (x.1.now ≡ layer_or_none label.layer ++ 10 ∷ []))) was (cut label text r is e found)

-- the clause of `strip_suffix` at a line feed
abbrev IsStripped : List ℕ → Option (Bor (List ℕ)) → Type 0
IsStripped rest r = MatchOption r (FindsCharSuffix 10 rest None) (λ x. (n : ℕ) × FindsCharSuffix 10 rest (Some n) × (x.now ≡ take (length rest - n) rest) × (length x.now + n ≡ length rest))

abbrev IsWordOf : List ℕ → Option (Bor (List ℕ)) → Type 0
IsWordOf rest r = MatchOption r ((front : List ℕ) → rest ≢ front ++ 10 ∷ []) (λ x. rest ≡ x.now ++ 10 ∷ [])

-- the word of the layer is what stands before that end
pub word_some : (label : Label) (rest : List ℕ) (r : Option (Bor (List ℕ))) (word : Bor (List ℕ)) → rest ≡ layer_or_none label.layer ++ 10 ∷ [] → IsStripped rest r
    → r ≡ Some word → word.now ≡ layer_or_none label.layer
word_some label rest r word is found was =
    let ended : rest ≡ word.now ++ 10 ∷ [] = subst (IsWordOf rest) was (strip_suffix_char 10 rest r found (omega arith)) in
    append_cancel_right word.now (layer_or_none label.layer) (10 ∷ []) (sym ended ∙ is)

pub word_none : (label : Label) (rest : List ℕ) (r : Option (Bor (List ℕ))) → rest ≡ layer_or_none label.layer ++ 10 ∷ [] → IsStripped rest r → r ≡ None → ⊥
word_none label rest r is found was = subst (IsWordOf rest) was (strip_suffix_char 10 rest r found (omega arith)) (layer_or_none label.layer) is

pub version_is : {E : Type 0} (n m : ℕ) (r : Result ℕ E) → r ≡ Ok n → r ≡ Ok m → n ≡ m
version_is n m r here there =
    let same : Ok n ≡ Ok m = sym here ∙ there in
    cc
