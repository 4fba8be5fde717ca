-- What bytes say of a tree's width, bits and numbers.
use Rattle.std.proofs.Common.{◌≡◌, ℕ, zero, suc, ◌+◌, ◌-◌, ◌*◌, ◌/◌, ◌^◌, ◌<◌, ◌≤◌, Bool, eqb, Option, Some, None, replicate, List, ◌∷◌, ◌++◌, length, drop, get_or, refl, sym, ap, subst, ◌∙◌, arith, inl, inr}
use Rattle.std.proofs.lemmas.Bool.{cases_lt, cases_eq, ne_eqb}
use Rattle.std.proofs.lemmas.List.{get_or_past, get_or_default}
use Rattle.std.proofs.lemmas.Nat.{pow_pos}
use Rattle.std.proofs.Math.Nat.{pow-suc, div-eq_of_lt, div-lt_iff_lt-mul}
use Rattle.std.specs.List.{All}
use Rattle.std.specs.Option.{IfNone}
use Rattle.ts_bits.specs.BitArray.{bit_array_of, BitsSay}
use Rattle.ts_bits.specs.Rank.{rank}
use Rattle.ts_bits.proofs.Arrays.{says_one}
use Rattle.ts_bits.proofs.Ranks.{rank-le}
use Rattle.ts_wavelet.specs.Control.{IsControl}
use Rattle.ts_wavelet.specs.Sequence.{occurrences}
use Rattle.ts_wavelet.specs.WaveletTree.{tree_bits, wavelet_of, IsWidth, WaveletSays}
use Rattle.ts_wavelet.specs.Nodes.{digit_of, lesser, among, tops_in, IsTree}
use Rattle.ts_wavelet.proofs.Filters.{count_more}
use Rattle.ts_wavelet.proofs.Counts.{lesser-zero, among_all, among_more_no, among_more_yes, among_mono}
use Rattle.ts_wavelet.proofs.Trees.{tree_is, tree_only, length-tree, length-tops, sequence_is, tree_of_bits, below_from}
use Rattle.ts_wavelet.proofs.Descents.{node_ones, among_leaf}

-- numbers that fit do so at each place, also past the end
pub fits_all : (n : ℕ) (xs : List ℕ) → 0 < n → All (λ x. x < n) xs → (j : ℕ) → get_or xs j 0 < n
fits_all n xs some all j = elim (cases_lt j (length xs)) [
  | inl within ↦ all j 0 within
  | inr behind ↦ rw (get_or_past xs j 0 behind) some
]

-- bytes that say a sequence begin with its width
pub says_control : (bytes xs : List ℕ) (says : WaveletSays bytes xs) → IsControl bytes says.width (bit_array_of (tree_bits says.width xs))
unfolding wavelet_of
says_control bytes xs says = record { some = says.is_width.some; narrow = says.narrow; form = says.form }

-- bytes begin in one way
pub control_only : (bytes : List ℕ) (v w : ℕ) (a b : List ℕ) → IsControl bytes v a → IsControl bytes w b → (v ≡ w) × (a ≡ b)
control_only bytes v w a b is_v is_w =
    let same = sym is_v.form ∙ is_w.form in
    (ap (λ (ys : List ℕ). get_or ys 0 0) same, ap (λ (ys : List ℕ). drop 8 ys) same)

-- what bytes with this width and these bits say of a sequence
pub record IsFound (bytes xs : List ℕ) (width : ℕ) (rest : List ℕ) (says : WaveletSays bytes xs) : Type 0 where
  pub width_is : says.width ≡ width
  pub is_width : IsWidth width xs
  pub bits : BitsSay rest (tree_bits width xs)
  pub tree : IsTree width (tree_bits width xs) xs

pub found : (bytes xs : List ℕ) (width : ℕ) (rest : List ℕ) → IsControl bytes width rest → (says : WaveletSays bytes xs) → IsFound bytes xs width rest says
found bytes xs width rest control says =
    let both = control_only bytes says.width width (bit_array_of (tree_bits says.width xs)) rest (says_control bytes xs says) control in
    let is_width : IsWidth width xs = subst (λ (w : ℕ). IsWidth w xs) both.0 says.is_width in
    let fits = fits_all (2 ^ width) xs (pow_pos width) is_width.fits in
    record {
      width_is = both.0;
      is_width = is_width;
      bits = record {
        form = sym both.1 ∙ ap (λ (w : ℕ). bit_array_of (tree_bits w xs)) both.0;
        fits = omega (arith, length-tree width xs fits, says.fits, ap (λ (w : ℕ). w * length xs) both.0);
      };
      tree = tree_is width xs fits;
    }

-- and with these bits alone
pub found_tree : (bytes xs : List ℕ) (width : ℕ) (rest : List ℕ) (bits : List Bool) → IsControl bytes width rest → BitsSay rest bits → WaveletSays bytes xs → IsTree width bits xs
found_tree bytes xs width rest bits control said says =
    let is = found bytes xs width rest control says in
    subst (λ (b : List Bool). IsTree width b xs) (says_one rest (tree_bits width xs) bits is.bits said) is.tree

pub found_width : (bytes xs : List ℕ) (width : ℕ) (rest : List ℕ) → IsControl bytes width rest → WaveletSays bytes xs → IsWidth width xs
found_width bytes xs width rest control says = (found bytes xs width rest control says).is_width

-- so they say one sequence of a length
pub found_sequence : (bytes xs : List ℕ) (width len : ℕ) (rest : List ℕ) (bits : List Bool) → IsControl bytes width rest → BitsSay rest bits → WaveletSays bytes xs → length xs ≡ len
    → tops_in len bits width ≡ xs
found_sequence bytes xs width len rest bits control said says long =
    ap (λ (m : ℕ). tops_in m bits width) (sym long) ∙ sequence_is width bits xs (found_tree bytes xs width rest bits control said says)

-- what no number's top digits make stands nowhere
among_none : (xs : List ℕ) (s v j : ℕ) → ((k : ℕ) → get_or xs k 0 / 2 ^ s ≡ v → ⊥) → j ≤ length xs → among xs s v j ≡ 0
among_none xs s v zero other h = refl
among_none xs s v (suc j) other h =
    let ih = among_none xs s v j other (omega arith) in
    let e : j + 1 ≡ suc j = omega arith in
    ap (among xs s v) (sym e) ∙ among_more_no xs s v j (omega arith) (other j) ∙ ih

-- the ones of the top level are the numbers with the top digit
top_ones : (width : ℕ) (bits : List Bool) (xs : List ℕ) → IsTree width bits xs → (r : ℕ) → suc r ≡ width → rank bits (length xs) ≡ among xs r 1 (length xs)
top_ones width bits xs tree r e =
    let fits : (j : ℕ) → get_or xs j 0 < 2 ^ suc r = λ j. rw e (tree.fits j) in
    let ones = node_ones width bits xs tree r 0 0 (length xs) (omega arith) (omega arith) in
    let all = among_all xs (suc r) (length xs) fits (omega arith) in
    let none = lesser-zero xs (suc r) in
    let whole : 0 * length xs + (lesser xs (suc r) 0 + among xs (suc r) 0 (length xs)) ≡ length xs = omega arith in
    let first : 0 * length xs + lesser xs (suc r) 0 ≡ 0 = omega arith in
    let at_whole = ap (rank bits) whole in
    let at_first = ap (rank bits) first in
    let zero = rank-le bits 0 in
    omega arith

-- no number has the top digit where the top level has no one
pub top_low : (width : ℕ) (bits : List Bool) (xs : List ℕ) → IsTree width bits xs → 1 ≤ width → rank bits (length xs) ≡ 0 → All (λ x. x < 2 ^ (width - 1)) xs
top_low width bits xs tree some none j d h =
    let r : ℕ = width - 1 in
    let e : suc (width - 1) ≡ width = omega arith in
    let ones = top_ones width bits xs tree (width - 1) e in
    let fits : get_or xs j 0 < 2 ^ width = tree.fits j in
    let pow : 2 ^ width ≡ 2 ^ (width - 1) * 2 = ap (λ (w : ℕ). 2 ^ w) (sym e) ∙ pow-suc 2 (width - 1) in
    let top : get_or xs j 0 / 2 ^ (width - 1) < 2 = (div-lt_iff_lt-mul {k = 2 ^ (width - 1)} {x = get_or xs j 0} {y = 2} (pow_pos (width - 1))).1 (omega arith) in
    let not_one : get_or xs j 0 / 2 ^ (width - 1) ≡ 1 → ⊥ = λ is.
    let more = among_more_yes xs (width - 1) 1 j h is in
    let mono = among_mono xs (width - 1) 1 (j + 1) (length xs) (omega arith) (omega arith) in
    omega arith in
    let low = below_from (get_or xs j 0) (width - 1) (omega arith) in
    rw (get_or_default xs j d 0 h) low

-- and the other way round
pub top_none : (width : ℕ) (bits : List Bool) (xs : List ℕ) → IsTree width bits xs → 1 ≤ width → All (λ x. x < 2 ^ (width - 1)) xs → rank bits (length xs) ≡ 0
top_none width bits xs tree some all =
    let e : suc (width - 1) ≡ width = omega arith in
    let low = fits_all (2 ^ (width - 1)) xs (pow_pos (width - 1)) all in
    top_ones width bits xs tree (width - 1) e ∙ among_none xs (width - 1) 1 (length xs) (λ k is. let z = div-eq_of_lt (low k) in omega arith) (omega arith)

-- no number is 0 where 0 stands nowhere
pub positive_from : (xs : List ℕ) → occurrences xs 0 (length xs) ≡ 0 → All (λ x. 1 ≤ x) xs
positive_from xs none j d h = elim (cases_eq (get_or xs j 0) 0) [
  | inr other ↦ rw (get_or_default xs j d 0 h) (omega arith)
  | inl is ↦
      let more = among_more_yes xs 0 (0 / 2 ^ 0) j h (ap (λ (x : ℕ). x / 2 ^ 0) is) in
      let mono = among_mono xs 0 (0 / 2 ^ 0) (j + 1) (length xs) (omega arith) (omega arith) in
      absurd (omega (arith, more, mono, none, among_leaf xs 0 (length xs)))
]

positive_below : (xs : List ℕ) → All (λ x. 1 ≤ x) xs → (j : ℕ) → j ≤ length xs → occurrences xs 0 j ≡ 0
positive_below xs all zero h = refl
positive_below xs all (suc j) h =
    let ih = positive_below xs all j (omega arith) in
    let e : j + 1 ≡ suc j = omega arith in
    let some = all j 0 (omega arith) in
    let none : digit_of (eqb (get_or xs j 0) 0) ≡ 0 = ap digit_of (ne_eqb (get_or xs j 0) 0 (λ is. omega arith)) in
    ap (occurrences xs 0) (sym e) ∙ omega (arith, count_more (λ x. eqb x 0) xs j 0 (omega arith), ih, none)

-- and the other way round
pub positive_none : (xs : List ℕ) → All (λ x. 1 ≤ x) xs → occurrences xs 0 (length xs) ≡ 0
positive_none xs all = positive_below xs all (length xs) (omega arith)

-- what holds where nothing is answered
pub none_since : {X : Type 0} (o : Option X) {P : Type 0} → P → IfNone o P
none_since None h = h
none_since (Some x) h = tt

-- what a view's width and bits make of the bytes
pub opened : (bytes : List ℕ) (width len : ℕ) (rest : List ℕ) (bits : List Bool) → IsControl bytes width rest → BitsSay rest bits → width * len ≡ length bits
    → (1 < width → rank bits len ≡ 0 → ⊥) → occurrences (tops_in len bits width) 0 len ≡ 0 → WaveletSays bytes (tops_in len bits width)
unfolding wavelet_of
opened bytes width len rest bits control said whole top none =
    let xs = tops_in len bits width in
    let long = length-tops len bits width in
    let tree = tree_of_bits width bits len (sym whole) in
    record {
      positive = positive_from (tops_in len bits width) (ap (occurrences (tops_in len bits width) 0) long ∙ none);
      width = width;
      is_width = record {
        some = control.some;
        fits = λ j d h. rw (get_or_default (tops_in len bits width) j d 0 h) (tree.fits j);
        least = λ more all. top more (ap (rank bits) (sym long) ∙ top_none width bits (tops_in len bits width) tree control.some all);
      };
      narrow = control.narrow;
      form = control.form ∙ ap (λ (ys : List ℕ). width ∷ replicate 7 0 ++ ys) (said.form ∙ ap bit_array_of (tree_only width bits (tops_in len bits width) tree));
      fits = omega (arith, long, whole, said.fits, ap (λ (m : ℕ). width * m) long);
    }
