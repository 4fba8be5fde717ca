-- The levels of a tree, written one after another, and its bytes.
use Rattle.std.proofs.Common.{◌≡◌, ℕ, suc, ◌+◌, ◌-◌, ◌*◌, ◌/◌, ◌^◌, ◌<◌, ◌≤◌, Bool, true, eqb, Option, Some, Result, Ok, Err, replicate, List, [], ◌∷◌, ◌++◌, map, get_or, refl, sym, ap, subst, ◌∙◌, arith}
use Rattle.std.proofs.lemmas.Bool.{eq-eqb, cond-true}
use Rattle.std.proofs.lemmas.List.{append_assoc, append-nil}
use Rattle.std.proofs.lemmas.List.Concat.{flat_map-append}
use Rattle.std.proofs.Math.Nat.{pow-suc, div-eq_of_lt}
use Rattle.std.specs.Int.{bit_at}
use Rattle.std.specs.List.{All, filter, flat_map, range_with_len}
use Rattle.std.specs.Option.{IsSomeAnd}
use Rattle.std.specs.Result.{OnOk}
use Rattle.ts_bits.specs.BitArray.{bit_array_of, BitsSay}
use Rattle.ts_wavelet.specs.WaveletTree.{with_top, ordered, level_bits, tree_bits, wavelet_of, IsWidth, Appended}
use Rattle.ts_wavelet.proofs.Filters.{range_more}
use Rattle.ts_wavelet.proofs.Trees.{length-tree}
use Rattle.ts_wavelet.proofs.Says.{fits_all}
use Rattle.std.proofs.lemmas.Nat.{pow_pos}

-- a test that all pass
filter_all : (p : ℕ → Bool) (xs : List ℕ) → ((j : ℕ) → p (get_or xs j 0) ≡ true) → filter p xs ≡ xs
filter_all p [] all = refl
filter_all p (x ∷ xs) all =
    cond-true (p x) (x ∷ filter p xs) (filter p xs) (all 0) ∙ ap (λ ys. x ∷ ys) (filter_all p xs (λ j. all (suc j)))

-- the first order is the sequence's
pub first_order : (width : ℕ) (xs : List ℕ) → All (λ x. x < 2 ^ width) xs → xs ≡ ordered xs (width - 0) (2 ^ 0)
unfolding ordered
first_order width xs all =
    let s : width - 0 ≡ width = omega arith in
    let fits = fits_all (2 ^ width) xs (pow_pos width) all in
    sym (append-nil (with_top xs (width - 0) 0)
    ∙ ap (λ (s : ℕ). with_top xs s 0) s ∙ filter_all (λ x. eqb (x / 2 ^ width) 0) xs (λ j. eq-eqb _ 0 (div-eq_of_lt (fits j))))

-- the next order
pub next_order : (width l shift : ℕ) (xs order parted : List ℕ) → l < width → shift ≡ width - 1 - l → order ≡ ordered xs (width - l) (2 ^ l)
    → ((sequence : List ℕ) (n : ℕ) → order ≡ ordered sequence (shift + 1) n → parted ≡ ordered sequence shift (2 * n))
    → parted ≡ ordered xs (width - (l + 1)) (2 ^ (l + 1))
next_order width l shift xs order parted h is before step =
    let s : width - l ≡ shift + 1 = omega arith in
    let t : shift ≡ width - (l + 1) = omega arith in
    let e : l + 1 ≡ suc l = omega arith in
    let pow : 2 * 2 ^ l ≡ 2 ^ (l + 1) = omega (arith, pow-suc 2 l, ap (λ (m : ℕ). 2 ^ m) e) in
    step xs (2 ^ l) (before ∙ ap (λ (s : ℕ). ordered xs s (2 ^ l)) s)
    ∙ ap (λ (s : ℕ). ordered xs s (2 * 2 ^ l)) t ∙ ap (ordered xs (width - (l + 1))) pow

-- the levels so far
abbrev pub levels_to : ℕ → List ℕ → ℕ → List Bool
levels_to width xs l = flat_map (level_bits width xs) (range_with_len 0 l)

-- one level more
pub next_level : (width l shift : ℕ) (xs order : List ℕ) (before after : Option (List Bool)) → shift ≡ width - 1 - l → order ≡ ordered xs (width - l) (2 ^ l)
    → before ≡ Some (levels_to width xs l)
    → ((old : List Bool) → before ≡ Some old → after ≡ Some (old ++ map (λ x. eqb (bit_at x shift) 1) order))
    → after ≡ Some (levels_to width xs (l + 1))
unfolding level_bits
next_level width l shift xs order before after is at so_far step =
    step (levels_to width xs l) so_far
    ∙ ap (λ ys. Some (levels_to width xs l ++ ys)) (ap (map (λ x. eqb (bit_at x shift) 1)) at
    ∙ ap (λ (m : ℕ). map (λ x. eqb (bit_at x m) 1) (ordered xs (width - l) (2 ^ l))) is)
    ∙ ap (λ ys. Some ys) (sym (ap (flat_map (level_bits width xs)) (range_more l) ∙ flat_map-append (level_bits width xs) (range_with_len 0 l) (l ∷ [])
    ∙ ap (λ ys. levels_to width xs l ++ ys) (append-nil (level_bits width xs l))))

-- all levels
pub all_levels : (width l : ℕ) (xs : List ℕ) (bits : Option (List Bool)) → l ≡ width → bits ≡ Some (levels_to width xs l) → bits ≡ Some (tree_bits width xs)
unfolding tree_bits
all_levels width l xs bits e is = is ∙ ap (λ (l : ℕ). Some (levels_to width xs l)) e

joined : (a b c d : List ℕ) → ((a ++ b) ++ c) ++ d ≡ a ++ (b ++ (c ++ d))
joined a b c d = simp append_assoc

-- the bytes that are written say the sequence
pub appended : (width : ℕ) (xs old first second new : List ℕ) (bits : Option (List Bool)) → All (λ x. 1 ≤ x) xs → IsWidth width xs → width ≤ 64
    → bits ≡ Some (tree_bits width xs) → first ≡ old ++ width ∷ [] → second ≡ first ++ replicate 7 0
    → IsSomeAnd bits (λ b. new ≡ second ++ bit_array_of b) → IsSomeAnd bits (λ b. BitsSay (bit_array_of b) b) → Appended old new xs
unfolding wavelet_of
appended width xs old first second new bits positive is_width narrow is one seven written said =
    let tail : new ≡ second ++ bit_array_of (tree_bits width xs) = subst (λ o. IsSomeAnd o (λ b. new ≡ second ++ bit_array_of b)) is written in
    let says : BitsSay (bit_array_of (tree_bits width xs)) (tree_bits width xs) = subst (λ o. IsSomeAnd o (λ b. BitsSay (bit_array_of b) b)) is said in
    let long = length-tree width xs (fits_all (2 ^ width) xs (pow_pos width) is_width.fits) in
    record {
      tree = width ∷ replicate 7 0 ++ bit_array_of (tree_bits width xs);
      whole = tail ∙ ap (λ ys. ys ++ bit_array_of (tree_bits width xs)) (seven ∙ ap (λ ys. ys ++ replicate 7 0) one)
          ∙ joined old (width ∷ []) (replicate 7 0) (bit_array_of (tree_bits width xs));
      says = record {
        positive = positive;
        width = width;
        is_width = is_width;
        narrow = narrow;
        form = refl;
        fits = omega (arith, long, says.fits);
      };
    }

-- what follows from two clauses on an `Ok`
pub on_ok_both : {T E : Type 0} (r : Result T E) {A B C : Type 0} → (A → B → C) → OnOk r A → OnOk r B → OnOk r C
on_ok_both (Ok x) f a b = f a b
on_ok_both (Err e) f a b = tt
