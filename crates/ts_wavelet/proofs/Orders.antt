-- Where each number stands in the order of top digits.
use Rattle.std.proofs.Common.{◌≡◌, ℕ, zero, suc, ◌+◌, ◌/◌, ◌^◌, ◌<◌, ◌≤◌, true, eqb, ltb, List, [], ◌∷◌, ◌++◌, length, take, get_or, refl, sym, ap, subst, ◌∙◌, arith}
use Rattle.std.proofs.lemmas.Bool.{eqb-true, eq-eqb, lt-ltb}
use Rattle.std.proofs.lemmas.List.{length-append, append-nil, take_all}
use Rattle.std.proofs.lemmas.List.Concat.{get_or-flat_map, flat_map-append}
use Rattle.std.proofs.lemmas.List.FromFn.{length-range_with_len, get_or-range_with_len}
use Rattle.std.proofs.lemmas.List.Sums.{length-filter}
use Rattle.std.specs.List.{count_by, flat_map, range_with_len}
use Rattle.ts_wavelet.specs.WaveletTree.{with_top, ordered}
use Rattle.ts_wavelet.specs.Nodes.{lesser, among, digit_of}
use Rattle.ts_wavelet.proofs.Filters.{filter_place, count-cons, count_before, passing, piece_of, take-range, range_more}
use Rattle.ts_wavelet.proofs.Counts.{lesser_more, lesser-zero}

-- how many stand before those with these top digits
pub length-ordered : (xs : List ℕ) (s n : ℕ) → length (ordered xs s n) ≡ lesser xs s n
unfolding ordered
length-ordered xs s zero = sym (lesser-zero xs s)
length-ordered xs s (suc n) =
    let e : suc n ≡ n + 1 = omega arith in
    let ih = length-ordered xs s n in
    let one = length-filter (λ x. eqb (x / 2 ^ s) n) xs in
    let whole = take_all (length xs) xs (omega arith) in
    let split : flat_map (with_top xs s) (range_with_len 0 (n + 1)) ≡ flat_map (with_top xs s) (range_with_len 0 n) ++ with_top xs s n =
    ap (flat_map (with_top xs s)) (range_more n) ∙ flat_map-append (with_top xs s) (range_with_len 0 n) (n ∷ [])
    ∙ ap (λ ys. flat_map (with_top xs s) (range_with_len 0 n) ++ ys) (append-nil (with_top xs s n)) in
    let both = length-append (flat_map (with_top xs s) (range_with_len 0 n)) (with_top xs s n) in
    let same : count_by (λ x. eqb (x / 2 ^ s) n) xs ≡ among xs s n (length xs) = ap (count_by (λ x. eqb (x / 2 ^ s) n)) (sym whole) in
    ap (λ (m : ℕ). length (ordered xs s m)) e ∙ ap length split ∙ omega (arith, both, ih, one, same, lesser_more xs s n) ∙ ap (lesser xs s) (sym e)

-- the same in a front of the order
front_length : (xs : List ℕ) (s n v : ℕ) → v ≤ n → length (flat_map (with_top xs s) (take v (range_with_len 0 n))) ≡ lesser xs s v
unfolding ordered
front_length xs s n v h = ap (λ ys. length (flat_map (with_top xs s) ys)) (take-range 0 n v h) ∙ length-ordered xs s v

-- number j stands behind the lesser ones and the earlier ones that agree with it
pub ordered_at : (xs : List ℕ) (s n j v : ℕ) → j < length xs → get_or xs j 0 / 2 ^ s ≡ v → v < n
    → get_or (ordered xs s n) (lesser xs s v + among xs s v j) 0 ≡ get_or xs j 0
unfolding ordered
ordered_at xs s n j v h is below =
    let piece : get_or (range_with_len 0 n) v 0 ≡ v = get_or-range_with_len 0 n v 0 below ∙ omega arith in
    let yes : eqb (get_or xs j 0 / 2 ^ s) v ≡ true = eq-eqb _ v is in
    let inside : among xs s v j < length (with_top xs s (get_or (range_with_len 0 n) v 0)) =
    rw piece (omega (arith, length-filter (λ x. eqb (x / 2 ^ s) v) xs, count_before (λ x. eqb (x / 2 ^ s) v) xs j 0 h yes)) in
    ap (λ (m : ℕ). get_or (flat_map (with_top xs s) (range_with_len 0 n)) (m + among xs s v j) 0) (sym (front_length xs s n v (omega arith)))
    ∙ get_or-flat_map (with_top xs s) (range_with_len 0 n) v (among xs s v j) 0 0 (omega (arith, length-range_with_len 0 n)) inside
    ∙ ap (λ (m : ℕ). get_or (with_top xs s m) (among xs s v j) 0) piece
    ∙ filter_place (λ x. eqb (x / 2 ^ s) v) xs j 0 h yes

-- each place of the order is that of some number
pub record IsOrdered (xs : List ℕ) (s q : ℕ) : Type 0 where
  pub place : ℕ
  pub within : place < length xs
  pub is : q ≡ lesser xs s (get_or xs place 0 / 2 ^ s) + among xs s (get_or xs place 0 / 2 ^ s) place

pub ordered_from : (xs : List ℕ) (s n q : ℕ) → q < length (ordered xs s n) → IsOrdered xs s q
unfolding ordered
ordered_from xs s n q h =
    let found = piece_of (with_top xs s) (range_with_len 0 n) 0 q h in
    let v = found.piece in
    let below : found.piece < n = omega (arith, found.within, length-range_with_len 0 n) in
    let piece : get_or (range_with_len 0 n) found.piece 0 ≡ found.piece = get_or-range_with_len 0 n found.piece 0 below ∙ omega arith in
    let inside : found.place < count_by (λ x. eqb (x / 2 ^ s) found.piece) xs =
    omega (arith, found.inside, ap (λ (m : ℕ). length (with_top xs s m)) piece, length-filter (λ x. eqb (x / 2 ^ s) found.piece) xs) in
    let one = passing (λ x. eqb (x / 2 ^ s) found.piece) xs 0 found.place inside in
    let top : get_or xs one.place 0 / 2 ^ s ≡ found.piece = eqb-true _ found.piece one.passes in
    record {
      place = one.place;
      within = one.within;
      is = subst (λ (v : ℕ). q ≡ lesser xs s v + among xs s v one.place) (sym top)
          (omega (arith, found.is, front_length xs s n found.piece (omega arith), one.before));
    }

-- where all top digits are below n, all are lesser
all_lesser : (xs : List ℕ) (s n : ℕ) → ((j : ℕ) → get_or xs j 0 / 2 ^ s < n) → lesser xs s n ≡ length xs
all_lesser [] s n fits = refl
all_lesser (x ∷ xs) s n fits =
    let ih = all_lesser xs s n (λ j. fits (suc j)) in
    let one : digit_of (ltb (x / 2 ^ s) n) ≡ 1 = ap (λ b. digit_of b) (lt-ltb (x / 2 ^ s) n (fits 0)) in
    omega (arith, count-cons (λ y. ltb (y / 2 ^ s) n) x xs, ih, one)

-- and the order has all numbers
pub ordered_all : (xs : List ℕ) (s n : ℕ) → ((j : ℕ) → get_or xs j 0 / 2 ^ s < n) → length (ordered xs s n) ≡ length xs
ordered_all xs s n fits = length-ordered xs s n ∙ all_lesser xs s n fits
