-- The names of the store's files are names of files.
use Rattle.std.proofs.Common.{◌≡◌, ◌≢◌, ℕ, ◌/◌, ◌%◌, ◌<◌, ◌==◌, ◌&&◌, Bool, true, false, not, nat_le, List, [], ◌∷◌, length, get_or, refl, sym, ◌∙◌, ap, subst, arith, length-append, IsTrue}
use Rattle.std.specs.Prelude.{codes, All, slice_index}
use Rattle.std.specs.Int.{w32, to_be_bytes}
use Rattle.std.specs.List.{list_all, AllByRecursion}
use Rattle.std.proofs.lemmas.List.Folds.{list_all_at}
use Rattle.std.proofs.lemmas.Bool.{leb-true, eqb-false}
use Rattle.std.proofs.lemmas.List.Elements.{All-append, All-from_recursion, All-weaker}
use Rattle.hex.specs.Hex.{lower_digits, encode_with, encode_lower}
use Rattle.ts_model.specs.LayerText.{layer_text}
use Rattle.ts_site.specs.FileName.{IsNameByte, IsFileName}
use Rattle.ts_model.specs.Names.{is_label_byte, IsLabelName}
use Rattle.ts_replace.specs.Names.{layer_name, rollup_name, label_file_name}
use Rattle.ts_replace.specs.Replaced.{new_tmp}

abbrev is_visible : ℕ → Bool
is_visible b = nat_le 0x21 b && (nat_le b 0x7E && not (b == 0x2F))

first_true : (a b : Bool) → (a && b) ≡ true → a ≡ true
first_true true b e = refl
first_true false b e = e

second_true : (a b : Bool) → (a && b) ≡ true → b ≡ true
second_true true b e = e
second_true false b e = absurd (cc)

not_true : (b : Bool) → not b ≡ true → b ≡ false
not_true true e = sym e
not_true false e = refl

visible : (b : ℕ) → is_visible b ≡ true → IsNameByte b
visible b e =
    let rest = second_true (nat_le 0x21 b) _ e in
    record {
      low = leb-true 0x21 b (first_true _ _ e);
      high = leb-true b 0x7E (first_true _ _ rest);
      no_slash = eqb-false b 0x2F (not_true (b == 0x2F) (second_true (nat_le b 0x7E) _ rest));
    }

is_true : (b : Bool) → (b ≡ false → ⊥) → b ≡ true
is_true true h = refl
is_true false h = absurd (h refl)

seen_in : (xs : List ℕ) (i : ℕ) → list_all is_visible xs ≡ true → i < length xs → IsNameByte (get_or xs i 0)
seen_in xs i all lt = visible (get_or xs i 0) (is_true (is_visible (get_or xs i 0)) (λ unseen. let e : true ≡ false = sym all ∙ list_all_at is_visible xs i 0 lt unseen in absurd (cc)))

by_recursion : (xs : List ℕ) → list_all is_visible xs ≡ true → AllByRecursion IsNameByte xs
by_recursion [] all = tt
by_recursion (x ∷ xs) all = (visible x (first_true (is_visible x) _ all), by_recursion xs (second_true (is_visible x) _ all))

all_seen : (xs : List ℕ) → list_all is_visible xs ≡ true → All IsNameByte xs
all_seen xs all = All-from_recursion IsNameByte xs (by_recursion xs all)

byte_below : (x : ℕ) → x % 256 < 256
byte_below x = omega arith

digit : (d : ℕ) → d < 16 → is_visible (slice_index lower_digits d) ≡ true
digit d lt = is_true (is_visible (slice_index lower_digits d)) (λ unseen. let e : true ≡ false = list_all_at is_visible lower_digits d 0 lt unseen in absurd (cc))

encoded : (bytes : List ℕ) → AllByRecursion (λ b. b < 256) bytes → list_all is_visible (encode_lower bytes) ≡ true
unfolding encode_with
encoded [] below = refl
encoded (b ∷ bytes) below =
    rw (digit (b / 16) (omega (arith, below.0)), digit (b % 16) (omega arith)) (encoded bytes below.1)

bytes_of : (n : ℕ) → AllByRecursion (λ b. b < 256) (to_be_bytes w32 n)
bytes_of n = (byte_below (n / 16777216), (byte_below (n / 65536), (byte_below (n / 256), (byte_below n, tt))))

length-layer_name : (n : ℕ) → length (layer_name n) ≡ 14
unfolding encode_with
length-layer_name n = refl

pub layer_name-IsFileName : (n : ℕ) → IsFileName (layer_name n)
layer_name-IsFileName n = record {
  not_empty = omega (arith, length-layer_name n);
  within = omega (arith, length-layer_name n);
  visible = All-append IsNameByte (layer_text n) (codes ".layer") (all_seen (layer_text n) (encoded (to_be_bytes w32 n) (bytes_of n))) (all_seen (codes ".layer") refl);
}

pub layer_name-other : (n : ℕ) → layer_name n ≢ new_tmp
layer_name-other n e = omega (arith, length-layer_name n, ap length e)

length-rollup_name : (n : ℕ) → length (rollup_name n) ≡ 15
unfolding encode_with
length-rollup_name n = refl

pub rollup_name-IsFileName : (n : ℕ) → IsFileName (rollup_name n)
rollup_name-IsFileName n = record {
  not_empty = omega (arith, length-rollup_name n);
  within = omega (arith, length-rollup_name n);
  visible = All-append IsNameByte (layer_text n) (codes ".rollup") (all_seen (layer_text n) (encoded (to_be_bytes w32 n) (bytes_of n))) (all_seen (codes ".rollup") refl);
}

label_byte : (b : ℕ) → IsTrue (is_label_byte b) → IsNameByte b
label_byte b is =
    let low = first_true (nat_le 0x21 b && nat_le b 0x7E && not (b == 0x2F)) (not (b == 0x22)) is in
    let high = first_true (nat_le 0x21 b && nat_le b 0x7E) (not (b == 0x2F)) low in
    record {
      low = leb-true 0x21 b (first_true (nat_le 0x21 b) (nat_le b 0x7E) high);
      high = leb-true b 0x7E (second_true (nat_le 0x21 b) (nat_le b 0x7E) high);
      no_slash = eqb-false b 0x2F (not_true (b == 0x2F) (second_true (nat_le 0x21 b && nat_le b 0x7E) (not (b == 0x2F)) low));
    }

label_file_name-IsFileName : (name : List ℕ) → IsLabelName name → IsFileName (label_file_name name)
label_file_name-IsFileName name is = record {
  not_empty = omega (arith, length-append name (codes ".label"), is.0);
  within = omega (arith, length-append name (codes ".label"), is.1);
  visible = All-append IsNameByte name (codes ".label") (All-weaker (λ b. IsTrue (is_label_byte b)) IsNameByte label_byte name is.2) (all_seen (codes ".label") refl);
}

pub IsFileName-of_label : (name bytes : List ℕ) → IsLabelName name → bytes ≡ label_file_name name → IsFileName bytes
IsFileName-of_label name bytes is same = subst IsFileName (sym same) (label_file_name-IsFileName name is)
