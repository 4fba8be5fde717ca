-- That the store's files have different names.
use Rattle.std.proofs.Common.{◌≡◌, ◌≢◌, ℕ, ◌+◌, List, ◌++◌, length, get_or, codes, refl, ap, ◌∙◌, arith, length-append, append_assoc}
use Rattle.std.proofs.lemmas.List.{append_cancel_right}
use Rattle.ts_model.specs.LayerText.{layer_text}
use Rattle.ts_model.proofs.Fronts.{same_fronts}
use Rattle.ts_model.proofs.LayerLemmas.{text_length}
use Rattle.ts_replace.specs.Names.{IsLayerNumber, layer_name, rollup_name, label_file_name}
use Rattle.ts_replace.specs.Replaced.{new_tmp}
use Rattle.ts_replace.proofs.NamedLemmas.{layer_text_tells}

-- texts with endings of one length have one ending
same_ending : (a b x y : List ℕ) → length x ≡ length y → a ++ x ≡ b ++ y → x ≡ y
same_ending a b x y long e =
    let fronts : length a ≡ length b = omega (arith, long, length-append a x, length-append b y, ap length e) in
    (same_fronts a b x y fronts e).1

length-layer_name : (n : ℕ) → length (layer_name n) ≡ 14
length-layer_name n = length-append (layer_text n) (codes ".layer") ∙ ap (λ k. k + 6) (text_length n)

length-rollup_name : (n : ℕ) → length (rollup_name n) ≡ 15
length-rollup_name n = length-append (layer_text n) (codes ".rollup") ∙ ap (λ k. k + 7) (text_length n)

pub layer_name-tells : (n m : ℕ) → IsLayerNumber n → IsLayerNumber m → layer_name n ≡ layer_name m → n ≡ m
layer_name-tells n m one other e = layer_text_tells n m one.1 other.1 (append_cancel_right (layer_text n) (layer_text m) (codes ".layer") e)

pub layer_is_not_new : (n : ℕ) → layer_name n ≢ new_tmp
layer_is_not_new n e = omega (arith, length-layer_name n, ap length e)

pub rollup_is_not_layer : (k n : ℕ) → rollup_name k ≢ layer_name n
rollup_is_not_layer k n e = omega (arith, length-rollup_name k, length-layer_name n, ap length e)

pub rollup_is_not_new : (k : ℕ) → rollup_name k ≢ new_tmp
rollup_is_not_new k e = omega (arith, length-rollup_name k, ap length e)

pub label_is_not_layer : (name : List ℕ) (n : ℕ) → label_file_name name ≢ layer_name n
label_is_not_layer name n e = let ends : codes ".label" ≡ codes ".layer" = same_ending name (layer_text n) (codes ".label") (codes ".layer") refl e in omega (arith, ap (λ (text : List ℕ). get_or text 3 0) ends)

pub label_is_not_new : (name : List ℕ) → label_file_name name ≢ new_tmp
label_is_not_new name e = let ends : codes ".label" ≡ codes "ew.tmp" = same_ending name (codes "n") (codes ".label") (codes "ew.tmp") refl e in omega (arith, ap (λ (text : List ℕ). get_or text 0 0) ends)

pub label_file_name-tells : (a b : List ℕ) → label_file_name a ≡ label_file_name b → a ≡ b
label_file_name-tells a b e = append_cancel_right a b (codes ".label") e

pub rollup_is_not_label : (k : ℕ) (name : List ℕ) → rollup_name k ≢ label_file_name name
rollup_is_not_label k name e =
    let ends : codes "rollup" ≡ codes ".label" = same_ending (layer_text k ++ codes ".") name (codes "rollup") (codes ".label") refl (append_assoc (layer_text k) (codes ".") (codes "rollup") ∙ e) in
    omega (arith, ap (λ (text : List ℕ). get_or text 0 0) ends)
