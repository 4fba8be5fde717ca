-- The levels' bits of a sequence, and the sequence that levels' bits say.
use Rattle.std.proofs.Common.{◌≡◌, ℕ, zero, suc, ◌+◌, ◌-◌, ◌*◌, ◌/◌, ◌%◌, ◌^◌, ◌<◌, ◌≤◌, Bool, true, false, eqb, ltb, List, [], ◌∷◌, ◌++◌, length, take, map, replicate, get_or, refl, sym, ap, subst, ◌∙◌, arith, inl, inr}
use Rattle.std.proofs.lemmas.Bool.{cases_lt}
use Rattle.std.proofs.lemmas.List.{length-append, append-nil, length-map, get_or-map, take-map, same_lists, get_or_default, get_or_past, length-replicate, get_or-replicate}
use Rattle.std.proofs.lemmas.List.Concat.{get_or-flat_map, flat_map-append}
use Rattle.std.proofs.lemmas.List.FromFn.{length-range_with_len, get_or-range_with_len, length-map-range_with_len, get_or-map-range_with_len}
use Rattle.std.proofs.lemmas.Nat.{pow-add, pow_pos, shr_split, div-add-mod'}
use Rattle.std.proofs.lemmas.Nat.Bits.{bit_at-lt}
use Rattle.std.proofs.Math.Nat.{div-lt_iff_lt-mul, div-one, div-eq_of_lt, mod-lt}
use Rattle.std.specs.Int.{bit_at}
use Rattle.std.specs.List.{count_by, flat_map, range_with_len}
use Rattle.ts_wavelet.specs.WaveletTree.{ordered, level_bits, tree_bits}
use Rattle.ts_wavelet.specs.Nodes.{lesser, among, order_place, digit_of, tops_in, IsTree}
use Rattle.ts_wavelet.proofs.Filters.{count-map, take-range, range_more}
use Rattle.ts_wavelet.proofs.Counts.{half, node_within, among_more_yes}
use Rattle.ts_wavelet.proofs.Orders.{ordered_at, ordered_from, ordered_all}

-- the numbers fit
abbrev pub Fits : ℕ → List ℕ → Type 0
Fits width xs = (j : ℕ) → get_or xs j 0 < 2 ^ width

-- the top l digits of a number of l + s digits are below 2 ^ l
pub top_below : (x l s : ℕ) → x < 2 ^ (l + s) → x / 2 ^ s < 2 ^ l
top_below x l s h = (div-lt_iff_lt-mul {k = 2 ^ s} {x = x} {y = 2 ^ l} (pow_pos s)).1 (subst (λ (m : ℕ). x < m) (pow-add 2 l s) h)

-- each level has a bit for each number
pub length-level : (width : ℕ) (xs : List ℕ) (l : ℕ) → Fits width xs → l ≤ width → length (level_bits width xs l) ≡ length xs
unfolding level_bits
length-level width xs l fits h =
    length-map (ordered xs (width - l) (2 ^ l)) _
    ∙ ordered_all xs (width - l) (2 ^ l) (λ j. top_below (get_or xs j 0) l (width - l) (let e : l + (width - l) ≡ width = omega arith in rw e (fits j)))

-- rows of one length
length_rows : (f : ℕ → List Bool) (n m : ℕ) → ((l : ℕ) → l < n → length (f l) ≡ m) → length (flat_map f (range_with_len 0 n)) ≡ n * m
length_rows f zero m rows = omega arith
length_rows f (suc n) m rows =
    let e : suc n ≡ n + 1 = omega arith in
    let ih = length_rows f n m (λ l h. rows l (omega arith)) in
    let split : flat_map f (range_with_len 0 (n + 1)) ≡ flat_map f (range_with_len 0 n) ++ f n =
    ap (flat_map f) (range_more n) ∙ flat_map-append f (range_with_len 0 n) (n ∷ [])
    ∙ ap (λ ys. flat_map f (range_with_len 0 n) ++ ys) (append-nil (f n)) in
    let both = length-append (flat_map f (range_with_len 0 n)) (f n) in
    let last = rows n (omega arith) in
    ap (λ (k : ℕ). length (flat_map f (range_with_len 0 k))) e ∙ ap length split ∙ omega (arith, both, ih, last)

pub length-tree : (width : ℕ) (xs : List ℕ) → Fits width xs → length (tree_bits width xs) ≡ width * length xs
unfolding tree_bits
length-tree width xs fits = length_rows (level_bits width xs) width (length xs) (λ l h. length-level width xs l fits (omega arith))

-- place q of level l
tree_at : (width : ℕ) (xs : List ℕ) (l q : ℕ) → Fits width xs → l < width → q < length xs
    → get_or (tree_bits width xs) (l * length xs + q) false ≡ get_or (level_bits width xs l) q false
unfolding tree_bits
tree_at width xs l q fits h inside =
    let rows = λ (k : ℕ) (t : k < l). length-level width xs k fits (omega arith) in
    let front : length (flat_map (level_bits width xs) (take l (range_with_len 0 width))) ≡ l * length xs =
    ap (λ ys. length (flat_map (level_bits width xs) ys)) (take-range 0 width l (omega arith)) ∙ length_rows (level_bits width xs) l (length xs) (λ k t. length-level width xs k fits (omega arith)) in
    let row : get_or (range_with_len 0 width) l 0 ≡ l = get_or-range_with_len 0 width l 0 h ∙ omega arith in
    let here : q < length (level_bits width xs (get_or (range_with_len 0 width) l 0)) = rw row (omega (arith, length-level width xs l fits (omega arith))) in
    ap (λ (m : ℕ). get_or (flat_map (level_bits width xs) (range_with_len 0 width)) (m + q) false) (sym front)
    ∙ get_or-flat_map (level_bits width xs) (range_with_len 0 width) l q 0 false (omega (arith, length-range_with_len 0 width)) here
    ∙ ap (λ (m : ℕ). get_or (level_bits width xs m) q false) row

-- a digit that is tested is itself
tested : (x : ℕ) → x < 2 → digit_of (eqb x 1) ≡ x
tested zero h = refl
tested (suc zero) h = refl
tested (suc (suc x)) h = absurd (omega arith)

-- the tree of a sequence is its tree
pub tree_is : (width : ℕ) (xs : List ℕ) → Fits width xs → IsTree width (tree_bits width xs) xs
unfolding level_bits
tree_is width xs fits = record {
  whole = length-tree width xs fits;
  fits = fits;
  stands = λ r l j e h.
      let s : width - l ≡ suc r = omega arith in
      let t : width - 1 - l ≡ r = omega arith in
      let x = get_or xs j 0 in
      let v : ℕ = get_or xs j 0 / 2 ^ suc r in
      let q : ℕ = lesser xs (suc r) v + among xs (suc r) v j in
      let inside : q < length xs =
      omega (arith, node_within xs (suc r) v (j + 1) (omega arith), among_more_yes xs (suc r) v j h refl) in
      let below : v < 2 ^ l = top_below (get_or xs j 0) l (suc r) (rw e (fits j)) in
      let at : get_or (ordered xs (width - l) (2 ^ l)) q 0 ≡ get_or xs j 0 = rw s (ordered_at xs (suc r) (2 ^ l) j v h refl below) in
      let long : length (ordered xs (width - l) (2 ^ l)) ≡ length xs =
      rw s (ordered_all xs (suc r) (2 ^ l) (λ k. top_below (get_or xs k 0) l (suc r) (rw e (fits k)))) in
      ap digit_of (tree_at width xs l q fits (omega arith) inside
      ∙ get_or-map (λ x. eqb (bit_at x (width - 1 - l)) 1) (ordered xs (width - l) (2 ^ l)) q 0 false (omega (arith, long))
      ∙ ap (λ (y : ℕ). eqb (bit_at y (width - 1 - l)) 1) at ∙ ap (λ (m : ℕ). eqb (bit_at (get_or xs j 0) m) 1) t)
      ∙ tested (bit_at (get_or xs j 0) r) (bit_at-lt (get_or xs j 0) r);
}

-- a product is over none only
positive_of : (a m : ℕ) → 0 < a * m → 0 < m
positive_of a zero h = absurd (omega arith)
positive_of a (suc m) h = omega arith

-- a digit is below 2
pub digit-lt : (bit : Bool) → digit_of bit < 2
digit-lt true = omega arith
digit-lt false = omega arith

-- bits with one digit are one
pub same_digit : (a b : Bool) → digit_of a ≡ digit_of b → a ≡ b
same_digit true true e = refl
same_digit false false e = refl
same_digit true false e = absurd (omega arith)
same_digit false true e = absurd (omega arith)

-- a sequence has one tree
pub tree_only : (width : ℕ) (bits : List Bool) (xs : List ℕ) → IsTree width bits xs → bits ≡ tree_bits width xs
tree_only width bits xs tree =
    let other = tree_is width xs tree.fits in
    same_lists bits (tree_bits width xs) (tree.whole ∙ sym other.whole)
    (λ i d h.
    let m : ℕ = length xs in
    let some : 0 < length xs = positive_of width (length xs) (omega (arith, tree.whole, h)) in
    let l : ℕ = i / length xs in
    let q : ℕ = i % length xs in
    let split : i ≡ i / length xs * length xs + i % length xs = sym (div-add-mod' i (length xs)) in
    let row : i / length xs < width = (div-lt_iff_lt-mul {k = length xs} {x = i} {y = width} some).1 (omega (arith, tree.whole, h)) in
    let column : i % length xs < length xs = mod-lt i some in
    let r : ℕ = width - 1 - i / length xs in
    let e : i / length xs + suc (width - 1 - i / length xs) ≡ width = omega arith in
    let long : length (ordered xs (suc r) (2 ^ (i / length xs))) ≡ length xs =
    ordered_all xs (suc r) (2 ^ (i / length xs)) (λ k. top_below (get_or xs k 0) (i / length xs) (suc r) (rw e (tree.fits k))) in
    let found = ordered_from xs (suc r) (2 ^ (i / length xs)) (i % length xs) (omega (arith, long)) in
    let here = tree.stands r (i / length xs) found.place e found.within in
    let there = other.stands r (i / length xs) found.place e found.within in
    let same = same_digit _ _ (here ∙ sym there) in
    let place : i / length xs * length xs + (lesser xs (suc r) (get_or xs found.place 0 / 2 ^ suc r) + among xs (suc r) (get_or xs found.place 0 / 2 ^ suc r) found.place) ≡ i =
    omega (arith, split, found.is) in
    get_or_default bits i d false h ∙ ap (λ (k : ℕ). get_or bits k false) (sym place) ∙ same
    ∙ ap (λ (k : ℕ). get_or (tree_bits width xs) k false) place
    ∙ get_or_default (tree_bits width xs) i false d (omega (arith, tree.whole, other.whole, h)))

-- the place in the order of a list of tops
order_place-map : (xs : List ℕ) (s j : ℕ) → j < length xs
    → order_place (map (λ x. x / 2 ^ s) xs) j ≡ lesser xs s (get_or xs j 0 / 2 ^ s) + among xs s (get_or xs j 0 / 2 ^ s) j
order_place-map xs s j h =
    let at : get_or (map (λ x. x / 2 ^ s) xs) j 0 ≡ get_or xs j 0 / 2 ^ s = get_or-map (λ x. x / 2 ^ s) xs j 0 0 h in
    ap (λ (v : ℕ). count_by (λ t. ltb t v) (map (λ x. x / 2 ^ s) xs) + count_by (λ t. eqb t v) (take j (map (λ x. x / 2 ^ s) xs))) at
    ∙ ap (λ (n : ℕ). n + count_by (λ t. eqb t (get_or xs j 0 / 2 ^ s)) (take j (map (λ x. x / 2 ^ s) xs))) (count-map (λ t. ltb t (get_or xs j 0 / 2 ^ s)) (λ x. x / 2 ^ s) xs)
    ∙ ap (λ (n : ℕ). lesser xs s (get_or xs j 0 / 2 ^ s) + n)
    (ap (count_by (λ t. eqb t (get_or xs j 0 / 2 ^ s))) (take-map (λ x. x / 2 ^ s) j xs) ∙ count-map (λ t. eqb t (get_or xs j 0 / 2 ^ s)) (λ x. x / 2 ^ s) (take j xs))

pub length-tops : (len : ℕ) (bits : List Bool) (l : ℕ) → length (tops_in len bits l) ≡ len
unfolding tops_in
length-tops len bits zero = length-replicate len 0
length-tops len bits (suc l) = length-map-range_with_len (λ j. 2 * get_or (tops_in len bits l) j 0 + digit_of (get_or bits (l * len + order_place (tops_in len bits l) j) false)) 0 len

-- one digit more of number j
tops_more : (len : ℕ) (bits : List Bool) (l j : ℕ) → j < len
    → get_or (tops_in len bits (suc l)) j 0 ≡ 2 * get_or (tops_in len bits l) j 0 + digit_of (get_or bits (l * len + order_place (tops_in len bits l) j) false)
unfolding tops_in
tops_more len bits l j h = get_or-map-range_with_len (λ j. 2 * get_or (tops_in len bits l) j 0 + digit_of (get_or bits (l * len + order_place (tops_in len bits l) j) false)) 0 len j j 0 h (omega arith)

-- a number by its digits above the lowest and that one
by_digit : (x r : ℕ) → x / 2 ^ r ≡ 2 * (x / 2 ^ suc r) + bit_at x r
by_digit x r = let h = half x r in omega arith

-- the levels' bits say the top digits of their sequence
pub tops_are : (width : ℕ) (bits : List Bool) (xs : List ℕ) → IsTree width bits xs → (l s : ℕ) → l + s ≡ width
    → tops_in (length xs) bits l ≡ map (λ x. x / 2 ^ s) xs
unfolding tops_in
tops_are width bits xs tree zero s e =
    same_lists (replicate (length xs) 0) (map (λ x. x / 2 ^ s) xs) (length-replicate {A = ℕ} (length xs) 0 ∙ sym (length-map xs (λ x. x / 2 ^ s)))
    (λ j d h.
    let within : j < length xs = omega (arith, length-replicate {A = ℕ} (length xs) 0) in
    let whole : s ≡ width = omega arith in
    get_or-replicate (length xs) j 0 d within
    ∙ sym (get_or-map (λ x. x / 2 ^ s) xs j 0 d within ∙ div-eq_of_lt (rw whole (tree.fits j))))
tops_are width bits xs tree (suc l) s e =
    let ih = tops_are width bits xs tree l (suc s) (omega arith) in
    same_lists (tops_in (length xs) bits (suc l)) (map (λ x. x / 2 ^ s) xs) (length-tops (length xs) bits (suc l) ∙ sym (length-map xs (λ x. x / 2 ^ s)))
    (λ j d h.
    let within : j < length xs = omega (arith, length-tops (length xs) bits (suc l)) in
    let top : get_or (tops_in (length xs) bits l) j 0 ≡ get_or xs j 0 / 2 ^ suc s =
    ap (λ ys. get_or ys j 0) ih ∙ get_or-map (λ x. x / 2 ^ suc s) xs j 0 0 within in
    let place = ap (λ ys. order_place ys j) ih ∙ order_place-map xs (suc s) j within in
    let digit : digit_of (get_or bits (l * length xs + order_place (tops_in (length xs) bits l) j) false) ≡ bit_at (get_or xs j 0) s =
    ap (λ (k : ℕ). digit_of (get_or bits (l * length xs + k) false)) place ∙ tree.stands s l j (omega arith) within in
    get_or_default (tops_in (length xs) bits (suc l)) j d 0 h
    ∙ tops_more (length xs) bits l j within
    ∙ omega (arith, top, digit, by_digit (get_or xs j 0) s)
    ∙ sym (get_or-map (λ x. x / 2 ^ s) xs j 0 d within))

-- so they say their sequence
pub sequence_is : (width : ℕ) (bits : List Bool) (xs : List ℕ) → IsTree width bits xs → tops_in (length xs) bits width ≡ xs
sequence_is width bits xs tree =
    tops_are width bits xs tree width 0 (omega arith)
    ∙ same_lists (map (λ x. x / 2 ^ 0) xs) xs (length-map xs (λ x. x / 2 ^ 0))
    (λ j d h. get_or-map (λ x. x / 2 ^ 0) xs j d d (omega (arith, length-map xs (λ x. x / 2 ^ 0))) ∙ div-one (get_or xs j d))

-- the top digits of the sequence that bits say
tops_top : (len : ℕ) (bits : List Bool) (l s j : ℕ) → j < len → get_or (tops_in len bits (l + s)) j 0 / 2 ^ s ≡ get_or (tops_in len bits l) j 0
tops_top len bits l zero j h = let e : l + 0 ≡ l = omega arith in rw e (div-one (get_or (tops_in len bits l) j 0))
tops_top len bits l (suc s) j h =
    let e : l + suc s ≡ suc l + s = omega arith in
    let ih = tops_top len bits (suc l) s j h in
    let more = tops_more len bits l j h in
    let digit = digit-lt (get_or bits (l * len + order_place (tops_in len bits l) j) false) in
    let here : get_or (tops_in len bits (suc l)) j 0 / 2 ≡ get_or (tops_in len bits l) j 0 = omega arith in
    rw e (half (get_or (tops_in len bits (suc l + s)) j 0) s ∙ ap (λ (x : ℕ). x / 2) ih ∙ here)

-- at first no digit is known
tops_none : (len : ℕ) (bits : List Bool) (j : ℕ) → j < len → get_or (tops_in len bits 0) j 0 ≡ 0
unfolding tops_in
tops_none len bits j h = get_or-replicate len j 0 0 h

-- a number with no digits from `width` on
pub below_from : (x width : ℕ) → x / 2 ^ width ≡ 0 → x < 2 ^ width
below_from x width none = omega (arith, shr_split x width, mod-lt x (pow_pos width), ap (λ (y : ℕ). y * 2 ^ width) none)

-- bits of the right number are the levels of the sequence that they say
pub tree_of_bits : (width : ℕ) (bits : List Bool) (len : ℕ) → length bits ≡ width * len → IsTree width bits (tops_in len bits width)
tree_of_bits width bits len whole =
    let long = length-tops len bits width in
    record {
      whole = rw long whole;
      fits = λ j. elim (cases_lt j len) [
        | inl within ↦
            let none = tops_top len bits 0 width j within in
            let zero : get_or (tops_in len bits 0) j 0 ≡ 0 = tops_none len bits j within in
            let e : 0 + width ≡ width = omega arith in
            below_from (get_or (tops_in len bits width) j 0) width (ap (λ (w : ℕ). get_or (tops_in len bits w) j 0 / 2 ^ width) (sym e) ∙ none ∙ zero)
        | inr behind ↦ rw (get_or_past (tops_in len bits width) j 0 (omega (arith, long))) (pow_pos width)
      ];
      stands = λ r l j e h.
          let within : j < len = omega (arith, long) in
          let all : tops_in len bits l ≡ map (λ x. x / 2 ^ suc r) (tops_in len bits width) =
          same_lists (tops_in len bits l) (map (λ x. x / 2 ^ suc r) (tops_in len bits width)) (length-tops len bits l ∙ sym (length-map (tops_in len bits width) (λ x. x / 2 ^ suc r) ∙ long))
          (λ k d t.
          let inside : k < len = omega (arith, length-tops len bits l) in
          get_or_default (tops_in len bits l) k d 0 t ∙ sym (tops_top len bits l (suc r) k inside)
          ∙ ap (λ (w : ℕ). get_or (tops_in len bits w) k 0 / 2 ^ suc r) e
          ∙ sym (get_or-map (λ x. x / 2 ^ suc r) (tops_in len bits width) k 0 d (omega (arith, long)))) in
          let place = ap (λ ys. order_place ys j) all ∙ order_place-map (tops_in len bits width) (suc r) j h in
          let more = tops_more len bits l j within in
          let digit = digit-lt (get_or bits (l * len + order_place (tops_in len bits l) j) false) in
          let e' : suc l + r ≡ width = omega arith in
          let next : get_or (tops_in len bits width) j 0 / 2 ^ r ≡ get_or (tops_in len bits (suc l)) j 0 =
          ap (λ (w : ℕ). get_or (tops_in len bits w) j 0 / 2 ^ r) (sym e') ∙ tops_top len bits (suc l) r j within in
          let at : bit_at (get_or (tops_in len bits width) j 0) r ≡ digit_of (get_or bits (l * len + order_place (tops_in len bits l) j) false) =
          ap (λ (x : ℕ). x % 2) next ∙ omega arith in
          ap (λ (m : ℕ). digit_of (get_or bits (l * m + (lesser (tops_in len bits width) (suc r) (get_or (tops_in len bits width) j 0 / 2 ^ suc r) + among (tops_in len bits width) (suc r) (get_or (tops_in len bits width) j 0 / 2 ^ suc r) j)) false)) long
          ∙ ap (λ (k : ℕ). digit_of (get_or bits (l * len + k) false)) (sym place) ∙ sym at;
    }
