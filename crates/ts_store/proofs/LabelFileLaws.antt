-- A label's file is that of one label.
use Rattle.std.proofs.Common.{◌≡◌, ℕ, ◌<◌, List, [], ◌∷◌, ◌++◌, drop, get_or, length, refl, sym, ap, subst, arith}
use Rattle.std.specs.Prelude.{decimal}
use Rattle.std.specs.Char.{digit_value}
use Rattle.std.specs.Str.Parse.{AllDigits}
use Rattle.std.proofs.lemmas.Fmt.{decimal_injective, decimal_is_IsNumeral}
use Rattle.std.proofs.lemmas.List.{append_cancel_right}
use Rattle.ts_labels.specs.declared.label.Label.{Label}
use Rattle.ts_labels.specs.LabelFile.{IsLabel, label_text, layer_or_none}
use Rattle.ts_labels.proofs.FileLaws.{one_word}
use Rattle.ts_model.proofs.Fronts.{same_fronts}

-- no digit is a line feed
no_feed : (d : ℕ) → digit_value d < 10 → 10 ≡ d → ⊥
no_feed d digit e =
    let feed : digit_value 10 < 10 = subst (λ (c : ℕ). digit_value c < 10) (sym e) digit in
    omega (arith, feed)

-- digits up to a line feed are the same digits
same_digits : (xs ys r s : List ℕ) → AllDigits 10 xs → AllDigits 10 ys → xs ++ 10 ∷ r ≡ ys ++ 10 ∷ s → xs ≡ ys
same_digits [] [] r s one other e = refl
same_digits [] (y ∷ ys) r s one other e = absurd (no_feed y other.0 (ap (λ (l : List ℕ). get_or l 0 0) e))
same_digits (x ∷ xs) [] r s one other e = absurd (no_feed x one.0 (ap (λ (l : List ℕ). get_or l 0 0) (sym e)))
same_digits (x ∷ xs) (y ∷ ys) r s one other e =
    let first : x ≡ y = ap (λ (l : List ℕ). get_or l 0 0) e in
    let later : xs ≡ ys = same_digits xs ys r s one.1 other.1 (ap (drop 1) e) in
    λ i. first i ∷ later i

-- what stands behind the version
abbrev rest : Label → List ℕ
rest label = layer_or_none label.layer ++ 10 ∷ []

pub one_label : (a b : Label) → IsLabel a → IsLabel b → label_text a ≡ label_text b → a ≡ b
one_label a b one other e =
    let digits : decimal a.version ≡ decimal b.version =
    same_digits (decimal a.version) (decimal b.version) (rest a) (rest b) (decimal_is_IsNumeral a.version one.0).0.1 (decimal_is_IsNumeral b.version other.0).0.1 e in
    let ends : 10 ∷ rest a ≡ 10 ∷ rest b = (same_fronts (decimal a.version) (decimal b.version) (10 ∷ rest a) (10 ∷ rest b) (ap length digits) e).1 in
    let word : layer_or_none a.layer ≡ layer_or_none b.layer = append_cancel_right (layer_or_none a.layer) (layer_or_none b.layer) (10 ∷ []) (ap (drop 1) ends) in
    let version : a.version ≡ b.version = decimal_injective a.version b.version one.0 other.0 digits in
    let layer = one_word a.layer b.layer one.1 other.1 word in
    λ i. record { version = version i; layer = layer i }
