-- The way down the levels and up again.
use Rattle.std.proofs.Common.{◌≡◌, ℕ, zero, suc, ◌+◌, ◌-◌, ◌*◌, ◌/◌, ◌%◌, ◌^◌, ◌<◌, ◌≤◌, ◌↔◌, Bool, true, false, cond, eqb, Option, Some, None, List, length, take, get_or, slice_get, refl, sym, ap, subst, ◌∙◌, arith, inl, inr}
use Rattle.std.proofs.lemmas.Bool.{cases_lt, cases_eq, cases_order, eqb-true, eq-eqb, ne_eqb}
use Rattle.std.proofs.lemmas.List.{take_all}
use Rattle.std.proofs.lemmas.Nat.Bits.{bit_at-lt}
use Rattle.std.proofs.lemmas.Option.{slice_get-get_or, slice_get_within, get_or_from_slice_get}
use Rattle.std.proofs.Math.Nat.{div-one, div-eq_of_lt}
use Rattle.std.proofs.Math.Pow.{pow_mono}
use Rattle.std.proofs.lemmas.Nat.{shr_le}
use Rattle.std.specs.Int.{bit_at}
use mir.Val.{bool_byte}
use Rattle.std.specs.List.{count_by}
use Rattle.ts_bits.specs.Rank.{rank}
use Rattle.ts_bits.specs.BitKinds.{kind_rank, IsPlaceOfKind}
use Rattle.ts_bits.specs.Select.{IsPlaceOfOne, IsPlaceOfZero}
use Rattle.std.specs.Option.{IfSome, IfNone, IsNone}
use Rattle.ts_bits.proofs.Ranks.{rank_more, rank-le, rank-mono, rank_after_place, place_only}
use Rattle.ts_bits.proofs.BitKinds.{kind_mono}
use Rattle.ts_wavelet.specs.Sequence.{occurrences, IsPlaceOf}
use Rattle.ts_wavelet.specs.Nodes.{lesser, among, digit_of, IsTree, IsNode, IsSpot, IsOffsetOf}
use Rattle.ts_wavelet.proofs.Filters.{count_before, count_more, count_same, passing}
use Rattle.ts_wavelet.proofs.Counts.{half, lesser_more, lesser_even, lesser-zero, among_split, among_more_yes, among_more_no, among_mono, among_all, among-zero, node_within}
use Rattle.ts_wavelet.proofs.Trees.{same_digit}

-- a place of a node is a bit of its level
place_fits : (width : ℕ) (bits : List Bool) (xs : List ℕ) → IsTree width bits xs → (r l v j : ℕ) → l + suc r ≡ width → j < length xs → get_or xs j 0 / 2 ^ suc r ≡ v
    → l * length xs + (lesser xs (suc r) v + among xs (suc r) v j) < length bits
place_fits width bits xs tree r l v j e h is =
    let more = among_more_yes xs (suc r) v j h is in
    let within = node_within xs (suc r) v (j + 1) (omega arith) in
    let whole = tree.whole in
    let w : width * length xs ≡ l * length xs + suc r * length xs = rw (← e) (omega arith) in
    let some : length xs ≤ suc r * length xs = omega arith in
    omega (arith, more, within, whole, w, some)

-- the ones among the first of a node are the numbers with a one
pub node_ones : (width : ℕ) (bits : List Bool) (xs : List ℕ) → IsTree width bits xs → (r l v j : ℕ) → l + suc r ≡ width → j ≤ length xs
    → rank bits (l * length xs + (lesser xs (suc r) v + among xs (suc r) v j)) ≡ rank bits (l * length xs + lesser xs (suc r) v) + among xs r (2 * v + 1) j
node_ones width bits xs tree r l v zero e h =
    let z : lesser xs (suc r) v + 0 ≡ lesser xs (suc r) v = omega arith in
    ap (λ (k : ℕ). rank bits (l * length xs + k)) z ∙ omega arith
node_ones width bits xs tree r l v (suc j) e h =
    let ih = node_ones width bits xs tree r l v j e (omega arith) in
    let s : j + 1 ≡ suc j = omega arith in
    let inside : j < length xs = omega arith in
    let halved = half (get_or xs j 0) r in
    elim (cases_eq (get_or xs j 0 / 2 ^ suc r) v) [
      | inr other ↦
          let here = among_more_no xs (suc r) v j inside other in
          let next = among_more_no xs r (2 * v + 1) j inside (λ is. other (omega (arith, halved, is))) in
          ap (λ (k : ℕ). rank bits (l * length xs + (lesser xs (suc r) v + k))) (ap (among xs (suc r) v) (sym s) ∙ here) ∙ ih
          ∙ ap (λ (k : ℕ). rank bits (l * length xs + lesser xs (suc r) v) + k) (sym next ∙ ap (among xs r (2 * v + 1)) s)
      | inl same ↦
          let here = among_more_yes xs (suc r) v j inside same in
          let place : ℕ = l * length xs + (lesser xs (suc r) v + among xs (suc r) v j) in
          let fits = place_fits width bits xs tree r l v j e inside same in
          let more = rank_more bits (l * length xs + (lesser xs (suc r) v + among xs (suc r) v j)) fits in
          let stands = subst (λ (v : ℕ). digit_of (get_or bits (l * length xs + (lesser xs (suc r) v + among xs (suc r) v j)) false) ≡ bit_at (get_or xs j 0) r) same (tree.stands r l j e inside) in
          let step : l * length xs + (lesser xs (suc r) v + among xs (suc r) v (suc j)) ≡ (l * length xs + (lesser xs (suc r) v + among xs (suc r) v j)) + 1 =
          omega (arith, here, ap (among xs (suc r) v) s) in
          let after = ap (rank bits) step in
          let digit : get_or xs j 0 / 2 ^ r ≡ 2 * v + bit_at (get_or xs j 0) r = omega (arith, halved, same) in
          let low = bit_at-lt (get_or xs j 0) r in
          elim (cases_eq (bit_at (get_or xs j 0) r) 1) [
            | inl one ↦
                let next = among_more_yes xs r (2 * v + 1) j inside (omega (arith, digit, one)) in
                omega (arith, after, more, stands, one, ih, next, ap (among xs r (2 * v + 1)) s)
            | inr other ↦
                let next = among_more_no xs r (2 * v + 1) j inside (λ is. other (omega (arith, digit, is))) in
                omega (arith, after, more, stands, other, low, ih, next, ap (among xs r (2 * v + 1)) s)
          ]
    ]

-- the whole top level
pub spot_top : (width : ℕ) (bits : List Bool) (xs : List ℕ) → IsTree width bits xs → (j : ℕ) → j ≤ length xs → IsSpot xs width 0 0 (length xs) j j
spot_top width bits xs tree j h = record {
  node = record { starts = sym (lesser-zero xs width); ends = omega (arith, among_all xs width (length xs) tree.fits (omega arith)) };
  within = h;
  reached = omega (arith, among_all xs width j tree.fits h);
}

-- a spot is within its level
pub record IsInOrder (start end place len : ℕ) : Type 0 where
  pub after : start ≤ place
  pub before : place ≤ end
  pub within : end ≤ len

pub spot_order : (xs : List ℕ) (s v start end j place : ℕ) → IsSpot xs s v start end j place → IsInOrder start end place (length xs)
spot_order xs s v start end j place spot = record {
  after = omega (arith, spot.reached);
  before = omega (arith, spot.reached, spot.node.ends, among_mono xs s v j (length xs) (omega arith) spot.within);
  within = omega (arith, spot.node.starts, spot.node.ends, node_within xs s v (length xs) (omega arith));
}

-- the ones of a part, and those before a place in it
pub record StepCounts (xs : List ℕ) (bits : List Bool) (base r v start end j place : ℕ) : Type 0 where
  pub all : rank bits (base + end) ≡ rank bits (base + start) + among xs r (2 * v + 1) (length xs)
  pub here : rank bits (base + place) ≡ rank bits (base + start) + among xs r (2 * v + 1) j

pub step_counts : (width : ℕ) (bits : List Bool) (xs : List ℕ) → IsTree width bits xs → (r l v start end j place : ℕ) → l + suc r ≡ width
    → IsSpot xs (suc r) v start end j place → StepCounts xs bits (l * length xs) r v start end j place
step_counts width bits xs tree r l v start end j place e spot =
    let at : rank bits (l * length xs + start) ≡ rank bits (l * length xs + lesser xs (suc r) v) = ap (λ (k : ℕ). rank bits (l * length xs + k)) spot.node.starts in
    let to_end : end ≡ lesser xs (suc r) v + among xs (suc r) v (length xs) = omega (arith, spot.node.starts, spot.node.ends) in
    let to_place : place ≡ lesser xs (suc r) v + among xs (suc r) v j = omega (arith, spot.node.starts, spot.reached) in
    record {
      all = ap (λ (k : ℕ). rank bits (l * length xs + k)) to_end ∙ node_ones width bits xs tree r l v (length xs) e (omega arith) ∙ omega (arith, at);
      here = ap (λ (k : ℕ). rank bits (l * length xs + k)) to_place ∙ node_ones width bits xs tree r l v j e spot.within ∙ omega (arith, at);
    }

-- the part with ones
pub step_one : (width : ℕ) (bits : List Bool) (xs : List ℕ) → IsTree width bits xs → (r l v start end j place ones ones_here : ℕ) → l + suc r ≡ width
    → IsSpot xs (suc r) v start end j place
    → ones ≡ rank bits (l * length xs + end) - rank bits (l * length xs + start)
    → ones_here ≡ rank bits (l * length xs + place) - rank bits (l * length xs + start)
    → IsSpot xs r (2 * v + 1) (end - ones) end j (end - ones + ones_here)
step_one width bits xs tree r l v start end j place ones ones_here e spot ones_are here_are =
    let counts = step_counts width bits xs tree r l v start end j place e spot in
    let split = among_split xs r v (length xs) in
    let below = lesser_more xs r (2 * v) in
    let even = lesser_even xs r v in
    let start_is = spot.node.starts in
    let end_is = spot.node.ends in
    let all : ones ≡ among xs r (2 * v + 1) (length xs) = omega (arith, counts.all, ones_are) in
    let here : ones_here ≡ among xs r (2 * v + 1) j = omega (arith, counts.here, here_are) in
    record {
      node = record { starts = omega arith; ends = omega arith };
      within = spot.within;
      reached = omega arith;
    }

-- the part with zeros
pub step_zero : (width : ℕ) (bits : List Bool) (xs : List ℕ) → IsTree width bits xs → (r l v start end j place ones ones_here : ℕ) → l + suc r ≡ width
    → IsSpot xs (suc r) v start end j place
    → ones ≡ rank bits (l * length xs + end) - rank bits (l * length xs + start)
    → ones_here ≡ rank bits (l * length xs + place) - rank bits (l * length xs + start)
    → IsSpot xs r (2 * v) start (end - ones) j (place - ones_here)
step_zero width bits xs tree r l v start end j place ones ones_here e spot ones_are here_are =
    let counts = step_counts width bits xs tree r l v start end j place e spot in
    let split = among_split xs r v (length xs) in
    let split_here = among_split xs r v j in
    let even = lesser_even xs r v in
    let start_is = spot.node.starts in
    let end_is = spot.node.ends in
    let reached = spot.reached in
    let all : ones ≡ among xs r (2 * v + 1) (length xs) = omega (arith, counts.all, ones_are) in
    let here : ones_here ≡ among xs r (2 * v + 1) j = omega (arith, counts.here, here_are) in
    record {
      node = record { starts = omega arith; ends = omega arith };
      within = spot.within;
      reached = omega arith;
    }

-- the bit at a number's spot is its digit
pub spot_bit : (width : ℕ) (bits : List Bool) (xs : List ℕ) → IsTree width bits xs → (r l v start end j place : ℕ) → l + suc r ≡ width
    → IsSpot xs (suc r) v start end j place → j < length xs → v ≡ get_or xs j 0 / 2 ^ suc r
    → (l * length xs + place < length bits) × (digit_of (get_or bits (l * length xs + place) false) ≡ bit_at (get_or xs j 0) r)
spot_bit width bits xs tree r l v start end j place e spot h is =
    let at : lesser xs (suc r) v + among xs (suc r) v j ≡ place = omega (arith, spot.node.starts, spot.reached) in
    let fits = place_fits width bits xs tree r l v j e h (sym is) in
    let stands = subst (λ (v : ℕ). digit_of (get_or bits (l * length xs + (lesser xs (suc r) v + among xs (suc r) v j)) false) ≡ bit_at (get_or xs j 0) r) (sym is) (tree.stands r l j e h) in
    (omega (arith, fits, at), ap (λ (k : ℕ). digit_of (get_or bits (l * length xs + k) false)) (sym at) ∙ stands)

-- no digit is left below all levels
pub among_leaf : (xs : List ℕ) (p j : ℕ) → among xs 0 (p / 2 ^ 0) j ≡ occurrences xs p j
among_leaf xs p j =
    count_same (λ x. eqb (x / 2 ^ 0) (p / 2 ^ 0)) (λ x. eqb x p)
    (λ x. ap (λ (y : ℕ). digit_of (eqb y (p / 2 ^ 0))) (div-one x) ∙ ap (λ (q : ℕ). digit_of (eqb x q)) (div-one p)) (take j xs)

-- below all levels a node's numbers are those of one number
pub leaf_is : (xs : List ℕ) (p start end j place : ℕ) → IsSpot xs 0 (p / 2 ^ 0) start end j place → place - start ≡ occurrences xs p j
leaf_is xs p start end j place spot =
    omega (arith, spot.reached, among_leaf xs p j)

-- a level's bits end among all bits
pub level_fits : (l width len : ℕ) → l < width → l * len + len ≤ width * len
level_fits l width len h =
    let e : width ≡ l + suc (width - suc l) = omega arith in
    let w : width * len ≡ l * len + suc (width - suc l) * len = ap (λ (m : ℕ). m * len) e ∙ omega arith in
    let some : len ≤ suc (width - suc l) * len = omega arith in
    omega arith

-- the ones of a part are within it
pub record StepBounds (bits : List Bool) (base start end place : ℕ) : Type 0 where
  pub rises : rank bits (base + start) ≤ rank bits (base + end)
  pub rises_here : rank bits (base + start) ≤ rank bits (base + place)
  pub most : rank bits (base + end) - rank bits (base + start) ≤ end - start
  pub most_here : rank bits (base + place) - rank bits (base + start) ≤ place - start
  pub fewer : rank bits (base + place) ≤ rank bits (base + end)

pub step_bounds : (bits : List Bool) (base start end place : ℕ) → start ≤ place → place ≤ end → StepBounds bits base start end place
step_bounds bits base start end place after before =
    let all = rank-mono bits (base + start) (base + end) (omega arith) in
    let here = rank-mono bits (base + start) (base + place) (omega arith) in
    let rest = rank-mono bits (base + place) (base + end) (omega arith) in
    record {
      rises = all.0;
      rises_here = here.0;
      most = omega (arith, all.1);
      most_here = omega (arith, here.1);
      fewer = rest.0;
    }

-- a number that stands more often than n has a place with n before it
pub find_place : (xs : List ℕ) (p n : ℕ) → n < occurrences xs p (length xs) → (j : ℕ) × IsPlaceOf xs p n j
find_place xs p n h =
    let whole = take_all (length xs) xs (omega arith) in
    let found = passing (λ x. eqb x p) xs 0 n (omega (arith, ap (count_by (λ x. eqb x p)) whole)) in (
      found.place,
      record {
        there = slice_get-get_or xs found.place 0 found.within ∙ ap (λ (x : ℕ). Some x) (eqb-true _ p found.passes);
        before = found.before;
      },
    )

-- and stands no less often
pub place_counts : (xs : List ℕ) (p n j : ℕ) → IsPlaceOf xs p n j → n < occurrences xs p (length xs)
place_counts xs p n j is =
    let within = slice_get_within xs j p is.there in
    let at : get_or xs j 0 ≡ p = get_or_from_slice_get xs j p 0 is.there in
    let whole = take_all (length xs) xs (omega arith) in
    omega (arith, is.before, count_before (λ x. eqb x p) xs j 0 within (eq-eqb _ p at), ap (count_by (λ x. eqb x p)) whole)

-- behind a zero there is one more
zero_rises : (bits : List Bool) (n p q : ℕ) → IsPlaceOfKind false bits n p → IsPlaceOfKind false bits n q → p < q → ⊥
zero_rises bits n p q is_p is_q h =
    let within = slice_get_within bits p false is_p.bit in
    let zero : digit_of (get_or bits p false) ≡ 0 = ap digit_of (get_or_from_slice_get bits p false false is_p.bit) in
    let more = rank_more bits p within in
    let mono = rank-mono bits (p + 1) q (omega arith) in
    let le = rank-le bits p in
    omega (arith, is_p.before, is_q.before, zero, more, mono.1, le)

-- the bits of a kind in a part, of which so many are zeros and so many ones
kind_counted : (kind : Bool) (bits : List Bool) (from all none ones to : ℕ) → to ≡ from + all → all ≡ none + ones → rank bits to ≡ rank bits from + ones
    → kind_rank kind bits to ≡ kind_rank kind bits from + cond kind ones none
kind_counted true bits from all none ones to is split counted = counted
kind_counted false bits from all none ones to is split counted = let le = rank-le bits from in omega arith

-- the numbers of a part that have the digit
kind_among : (kind : Bool) (xs : List ℕ) (r p j : ℕ) → digit_of kind ≡ bit_at p r
    → cond kind (among xs r (2 * (p / 2 ^ suc r) + 1) j) (among xs r (2 * (p / 2 ^ suc r)) j) ≡ among xs r (p / 2 ^ r) j
kind_among true xs r p j digit =
    let halved = half p r in
    let e : 2 * (p / 2 ^ suc r) + 1 ≡ p / 2 ^ r = omega arith in
    ap (λ (v : ℕ). among xs r v j) e
kind_among false xs r p j digit =
    let halved = half p r in
    let e : 2 * (p / 2 ^ suc r) ≡ p / 2 ^ r = omega arith in
    ap (λ (v : ℕ). among xs r v j) e

-- there is one place of a kind with so many before it
kind_only : (kind : Bool) (bits : List Bool) (n p q : ℕ) → IsPlaceOfKind kind bits n p → IsPlaceOfKind kind bits n q → p ≡ q
kind_only true bits n p q is_p is_q =
    place_only bits n p q (record { one = is_p.bit; before = is_p.before }) (record { one = is_q.bit; before = is_q.before })
kind_only false bits n p q is_p is_q = elim (cases_order p q) [
  | inl same ↦ same
  | inr other ↦ elim other [
    | inl lower ↦ absurd (zero_rises bits n p q is_p is_q lower)
    | inr upper ↦ absurd (zero_rises bits n q p is_q is_p upper)
  ]
]

-- a place of a node's numbers as a bit of a kind
spot_kind : (width : ℕ) (bits : List Bool) (xs : List ℕ) → IsTree width bits xs → (r l j start end : ℕ) (kind : Bool) → l + suc r ≡ width → j < length xs
    → IsNode xs (suc r) (get_or xs j 0 / 2 ^ suc r) start end → digit_of kind ≡ bit_at (get_or xs j 0) r
    → IsPlaceOfKind kind bits (kind_rank kind bits (l * length xs + start) + among xs r (get_or xs j 0 / 2 ^ r) j) (l * length xs + start + among xs (suc r) (get_or xs j 0 / 2 ^ suc r) j)
spot_kind width bits xs tree r l j start end kind e h node digit =
    let v : ℕ = get_or xs j 0 / 2 ^ suc r in
    let spot : IsSpot xs (suc r) (get_or xs j 0 / 2 ^ suc r) start end j (start + among xs (suc r) (get_or xs j 0 / 2 ^ suc r) j) = record { node = node; within = omega arith; reached = refl } in
    let counts = step_counts width bits xs tree r l (get_or xs j 0 / 2 ^ suc r) start end j (start + among xs (suc r) (get_or xs j 0 / 2 ^ suc r) j) e spot in
    let bit = spot_bit width bits xs tree r l (get_or xs j 0 / 2 ^ suc r) start end j (start + among xs (suc r) (get_or xs j 0 / 2 ^ suc r) j) e spot h refl in
    let place : l * length xs + (start + among xs (suc r) (get_or xs j 0 / 2 ^ suc r) j) ≡ l * length xs + start + among xs (suc r) (get_or xs j 0 / 2 ^ suc r) j = omega arith in
    let same : get_or bits (l * length xs + start + among xs (suc r) (get_or xs j 0 / 2 ^ suc r) j) false ≡ kind =
    ap (λ (k : ℕ). get_or bits k false) (sym place) ∙ same_digit _ kind (bit.1 ∙ sym digit) in
    record {
      bit = slice_get-get_or bits _ false (omega (arith, place, bit.0)) ∙ ap (λ (b : Bool). Some b) same;
      before = ap (kind_rank kind bits) (sym place)
          ∙ kind_counted kind bits (l * length xs + start) (among xs (suc r) (get_or xs j 0 / 2 ^ suc r) j) (among xs r (2 * (get_or xs j 0 / 2 ^ suc r)) j) (among xs r (2 * (get_or xs j 0 / 2 ^ suc r) + 1) j)
          (l * length xs + (start + among xs (suc r) (get_or xs j 0 / 2 ^ suc r) j)) (omega arith) (among_split xs r (get_or xs j 0 / 2 ^ suc r) j) counts.here
          ∙ ap (λ (k : ℕ). kind_rank kind bits (l * length xs + start) + k) (kind_among kind xs r (get_or xs j 0) j digit);
    }

-- back from the next level: the place in the part that the found bit has
pub back_is : (width : ℕ) (bits : List Bool) (xs : List ℕ) → IsTree width bits xs → (r l p n start end inner place : ℕ) (kind : Bool) → l + suc r ≡ width
    → IsNode xs (suc r) (p / 2 ^ suc r) start end → digit_of kind ≡ bit_at p r
    → IsOffsetOf xs r p n inner → IsPlaceOfKind kind bits (kind_rank kind bits (l * length xs + start) + inner) (l * length xs + start + place)
    → IsOffsetOf xs (suc r) p n place
back_is width bits xs tree r l p n start end inner place kind e node digit inner_is found j is =
    let within = slice_get_within xs j p is.there in
    let at : p ≡ get_or xs j 0 = sym (get_or_from_slice_get xs j p 0 is.there) in
    let node' = subst (λ (p : ℕ). IsNode xs (suc r) (p / 2 ^ suc r) start end) at node in
    let digit' = subst (λ (p : ℕ). digit_of kind ≡ bit_at p r) at digit in
    let kind_is = spot_kind width bits xs tree r l j start end kind e within node' digit' in
    let count : inner ≡ among xs r (get_or xs j 0 / 2 ^ r) j = inner_is j is ∙ ap (λ (p : ℕ). among xs r (p / 2 ^ r) j) at in
    let found' = subst (λ (k : ℕ). IsPlaceOfKind kind bits (kind_rank kind bits (l * length xs + start) + k) (l * length xs + start + place)) count found in
    let same = kind_only kind bits _ _ _ found' kind_is in
    omega (arith, same, ap (λ (p : ℕ). among xs (suc r) (p / 2 ^ suc r) j) at)

-- the part has more than `inner` bits of the kind
pub back_some : (width : ℕ) (bits : List Bool) (xs : List ℕ) → IsTree width bits xs → (r l p n start end inner : ℕ) (kind : Bool) → l + suc r ≡ width
    → IsNode xs (suc r) (p / 2 ^ suc r) start end → digit_of kind ≡ bit_at p r
    → IsOffsetOf xs r p n inner → n < occurrences xs p (length xs)
    → kind_rank kind bits (l * length xs + start) + inner < kind_rank kind bits (l * length xs + end)
back_some width bits xs tree r l p n start end inner kind e node digit inner_is some =
    let found = find_place xs p n some in
    let j = found.0 in
    let within = slice_get_within xs found.0 p found.1.there in
    let at : get_or xs found.0 0 ≡ p = get_or_from_slice_get xs found.0 p 0 found.1.there in
    let spot : IsSpot xs (suc r) (p / 2 ^ suc r) start end (length xs) end = record { node = node; within = omega arith; reached = node.ends } in
    let counts = step_counts width bits xs tree r l (p / 2 ^ suc r) start end (length xs) end e spot in
    let more = among_more_yes xs r (p / 2 ^ r) found.0 within (ap (λ (x : ℕ). x / 2 ^ r) at) in
    let mono = among_mono xs r (p / 2 ^ r) (found.0 + 1) (length xs) (omega arith) (omega arith) in
    let all = kind_counted kind bits (l * length xs + start) (among xs (suc r) (p / 2 ^ suc r) (length xs)) (among xs r (2 * (p / 2 ^ suc r)) (length xs)) (among xs r (2 * (p / 2 ^ suc r) + 1) (length xs))
    (l * length xs + end) (omega (arith, node.ends)) (among_split xs r (p / 2 ^ suc r) (length xs)) counts.all
    ∙ ap (λ (k : ℕ). kind_rank kind bits (l * length xs + start) + k) (kind_among kind xs r p (length xs) digit) in
    omega (arith, all, more, mono, inner_is found.0 found.1)

-- the way down begins with all numbers
pub first_spot : (width : ℕ) (bits : List Bool) (xs : List ℕ) → IsTree width bits xs → (p j start end place : ℕ) → p < 2 ^ width → j ≤ length xs
    → start ≡ 0 → end ≡ length xs → place ≡ j → IsSpot xs (width - 0) (p / 2 ^ (width - 0)) start end j place
first_spot width bits xs tree p j start end place fits within start_is end_is place_is =
    let s : width - 0 ≡ width = omega arith in
    let none : p / 2 ^ width ≡ 0 = div-eq_of_lt fits in
    rw (s, none, start_is, end_is, place_is) (spot_top width bits xs tree j within)

-- the next digit of a number on its way down
pub by_digit : (x s t : ℕ) → s ≡ suc t → x / 2 ^ t ≡ 2 * (x / 2 ^ s) + bit_at x t
by_digit x s t e = let h = half x t in rw e (omega arith)

-- and it fits
pub number_fits : (x s t width : ℕ) → s ≡ suc t → x < 2 ^ width → width ≤ 64 → 2 * (x / 2 ^ s) + bit_at x t < 2 ^ 64
number_fits x s t width e fits narrow =
    omega (arith, by_digit x s t e, shr_le x t, fits, pow_mono {i = width} {j = 64} narrow)

-- a wide number stands nowhere
pub wide_none : (width : ℕ) (xs : List ℕ) (p j : ℕ) → ((k : ℕ) → get_or xs k 0 < 2 ^ width) → 2 ^ width ≤ p → j ≤ length xs → occurrences xs p j ≡ 0
wide_none width xs p zero fits wide h = refl
wide_none width xs p (suc j) fits wide h =
    let ih = wide_none width xs p j fits wide (omega arith) in
    let e : j + 1 ≡ suc j = omega arith in
    let more = count_more (λ x. eqb x p) xs j 0 (omega arith) in
    let low = fits j in
    let none : digit_of (eqb (get_or xs j 0) p) ≡ 0 = ap digit_of (ne_eqb (get_or xs j 0) p (λ is. omega arith)) in
    ap (occurrences xs p) (sym e) ∙ omega (arith, more, ih, none)

-- behind a bit of a kind there is one more
kind_more : (kind : Bool) (bits : List Bool) (n place : ℕ) → IsPlaceOfKind kind bits n place → kind_rank kind bits (place + 1) ≡ n + 1
kind_more true bits n place is = rank_after_place bits n place (record { one = is.bit; before = is.before })
kind_more false bits n place is =
    let within = slice_get_within bits place false is.bit in
    let zero : digit_of (get_or bits place false) ≡ 0 = ap digit_of (get_or_from_slice_get bits place false false is.bit) in
    omega (arith, is.before, zero, rank_more bits place within, rank-le bits place)

-- a place of a kind is not before places with no more of the kind before them
pub kind_after : (kind : Bool) (bits : List Bool) (n from place : ℕ) → IsPlaceOfKind kind bits n place → kind_rank kind bits from ≤ n → from ≤ place
kind_after kind bits n from place is low = elim (cases_lt place from) [
  | inr after ↦ after
  | inl before ↦
      let mono = kind_mono kind bits (place + 1) from (omega arith) in
      absurd (omega (arith, mono, low, kind_more kind bits n place is))
]

-- the number at a place, and its bit on the way down
pub bit_of_number : (width : ℕ) (bits : List Bool) (xs : List ℕ) → IsTree width bits xs → (len s t l start end j place : ℕ) → length xs ≡ len → s ≡ suc t → l + s ≡ width
    → IsSpot xs s (get_or xs j 0 / 2 ^ s) start end j place → j < length xs
    → (l * len + place < length bits) × (digit_of (get_or bits (l * len + place) false) ≡ bit_at (get_or xs j 0) t)
bit_of_number width bits xs tree len s t l start end j place long is e spot h =
    let spot' = subst (λ (s : ℕ). IsSpot xs s (get_or xs j 0 / 2 ^ s) start end j place) is spot in
    let found = spot_bit width bits xs tree t l (get_or xs j 0 / 2 ^ suc t) start end j place (omega arith) spot' h refl in
    let same : l * length xs + place ≡ l * len + place = ap (λ (m : ℕ). l * m + place) long in
    (omega (arith, found.0, same), ap (λ (k : ℕ). digit_of (get_or bits k false)) (sym same) ∙ found.1)

-- at the end of the way down the offset is the count
pub leaf_count : (xs : List ℕ) (s p start end j place : ℕ) → s ≡ 0 → IsSpot xs s (p / 2 ^ s) start end j place → place - start ≡ occurrences xs p j
leaf_count xs s p start end j place e spot = leaf_is xs p start end j place (subst (λ (s : ℕ). IsSpot xs s (p / 2 ^ s) start end j place) e spot)

pub leaf_node : (xs : List ℕ) (s p start end : ℕ) → s ≡ 0 → IsNode xs s (p / 2 ^ s) start end → end - start ≡ occurrences xs p (length xs)
leaf_node xs s p start end e node =
    let node' = subst (λ (s : ℕ). IsNode xs s (p / 2 ^ s) start end) e node in
    omega (arith, node'.ends, among_leaf xs p (length xs))

pub leaf_offset : (xs : List ℕ) (s p n : ℕ) → s ≡ 0 → IsOffsetOf xs s p n n
leaf_offset xs s p n e j is = rw e (sym (among_leaf xs p j ∙ is.before))

-- on the top level the offset is the place
pub top_offset : (width : ℕ) (bits : List Bool) (xs : List ℕ) → IsTree width bits xs → (s p n offset : ℕ) → s ≡ width → p < 2 ^ width
    → n < occurrences xs p (length xs) → IsOffsetOf xs s p n offset → IsPlaceOf xs p n offset
top_offset width bits xs tree s p n offset e fits some is =
    let found = find_place xs p n some in
    let within = slice_get_within xs found.0 p found.1.there in
    let none : p / 2 ^ width ≡ 0 = div-eq_of_lt fits in
    let here : offset ≡ among xs width (p / 2 ^ width) found.0 = subst (λ (s : ℕ). IsOffsetOf xs s p n offset) e is found.0 found.1 in
    let all : among xs width (p / 2 ^ width) found.0 ≡ found.0 = ap (λ (v : ℕ). among xs width v found.0) none ∙ among_all xs width found.0 tree.fits (omega arith) in
    subst (λ (k : ℕ). IsPlaceOf xs p n k) (sym (here ∙ all)) found.1

-- a bit that is converted to a number
pub bool_byte-digit : (bit : Bool) → bool_byte bit ≡ digit_of bit
bool_byte-digit true = refl
bool_byte-digit false = refl

-- a number with all its digits
pub whole_number : (xs : List ℕ) (j s number : ℕ) → j < length xs → s ≡ 0 → number ≡ get_or xs j 0 / 2 ^ s → slice_get xs j ≡ Some number
whole_number xs j s number h e is =
    slice_get-get_or xs j 0 h ∙ ap (λ (x : ℕ). Some x) (sym (is ∙ ap (λ (s : ℕ). get_or xs j 0 / 2 ^ s) e ∙ div-one (get_or xs j 0)))

-- a part ends within its level
pub node_end : (xs : List ℕ) (s v start end : ℕ) → IsNode xs s v start end → end ≤ length xs
node_end xs s v start end node = omega (arith, node.starts, node.ends, node_within xs s v (length xs) (omega arith))

-- the part of the next level
pub next_node : (xs : List ℕ) (s t p start end start' end' place' : ℕ) (digit : Bool) → s ≡ suc t → digit_of digit ≡ p / 2 ^ t % 2
    → IsNode xs s (p / 2 ^ s) start end
    → ((j : ℕ) → IsSpot xs s (p / 2 ^ s) start end j start → IsSpot xs t (2 * (p / 2 ^ s) + digit_of digit) start' end' j place')
    → IsNode xs t (p / 2 ^ t) start' end'
next_node xs s t p start end start' end' place' digit e is node step =
    let spot : IsSpot xs s (p / 2 ^ s) start end 0 start = record { node = node; within = omega arith; reached = omega (arith, among-zero xs s (p / 2 ^ s)) } in
    let v : 2 * (p / 2 ^ s) + digit_of digit ≡ p / 2 ^ t = omega (arith, by_digit p s t e, is) in
    subst (λ (v : ℕ). IsNode xs t v start' end') v (step 0 spot).node

-- `back_some` and `back_is`, with the level's length and number as the code has them
pub select_some : (width : ℕ) (bits : List Bool) (xs : List ℕ) → IsTree width bits xs → (len s t l p n start end inner : ℕ) (kind : Bool)
    → length xs ≡ len → s ≡ suc t → l + s ≡ width
    → IsNode xs s (p / 2 ^ s) start end → digit_of kind ≡ p / 2 ^ t % 2
    → IsOffsetOf xs t p n inner → n < occurrences xs p len
    → kind_rank kind bits (l * len + start) + inner < kind_rank kind bits (l * len + end)
select_some width bits xs tree len s t l p n start end inner kind long is e node digit inner_is some =
    let node' = subst (λ (s : ℕ). IsNode xs s (p / 2 ^ s) start end) is node in
    subst (λ (m : ℕ). kind_rank kind bits (l * m + start) + inner < kind_rank kind bits (l * m + end)) long
    (back_some width bits xs tree t l p n start end inner kind (omega arith) node' digit inner_is (subst (λ (m : ℕ). n < occurrences xs p m) (sym long) some))

pub select_back : (width : ℕ) (bits : List Bool) (xs : List ℕ) → IsTree width bits xs → (len s t l p n start end inner place : ℕ) (kind : Bool)
    → length xs ≡ len → s ≡ suc t → l + s ≡ width
    → IsNode xs s (p / 2 ^ s) start end → digit_of kind ≡ p / 2 ^ t % 2
    → IsOffsetOf xs t p n inner → IsPlaceOfKind kind bits (kind_rank kind bits (l * len + start) + inner) (l * len + start + place)
    → IsOffsetOf xs s p n place
select_back width bits xs tree len s t l p n start end inner place kind long is e node digit inner_is found =
    let node' = subst (λ (s : ℕ). IsNode xs s (p / 2 ^ s) start end) is node in
    let found' = subst (λ (m : ℕ). IsPlaceOfKind kind bits (kind_rank kind bits (l * m + start) + inner) (l * m + start + place)) (sym long) found in
    subst (λ (s : ℕ). IsOffsetOf xs s p n place) (sym is) (back_is width bits xs tree t l p n start end inner place kind (omega arith) node' digit inner_is found')

-- the bit of a kind in a part, as the code finds it
pub one_back : (kind : Bool) (bits : List Bool) (from inner before place : ℕ) → kind ≡ true → before ≡ rank bits from → IsPlaceOfOne bits (before + inner) place
    → (from ≤ place) × IsPlaceOfKind kind bits (kind_rank kind bits from + inner) (from + (place - from))
one_back kind bits from inner before place is counted found =
    let here : IsPlaceOfKind true bits (kind_rank true bits from + inner) place = record { bit = found.one; before = omega (arith, found.before, counted) } in
    let after = kind_after true bits (kind_rank true bits from + inner) from place here (omega arith) in
    let same : place ≡ from + (place - from) = omega arith in (
      after,
      subst (λ (kind : Bool). IsPlaceOfKind kind bits (kind_rank kind bits from + inner) (from + (place - from))) (sym is)
          (subst (λ (k : ℕ). IsPlaceOfKind true bits (kind_rank true bits from + inner) k) same here),
    )

pub zero_back : (kind : Bool) (bits : List Bool) (from inner before place : ℕ) → kind ≡ false → before ≡ rank bits from → IsPlaceOfZero bits (from - before + inner) place
    → (from ≤ place) × IsPlaceOfKind kind bits (kind_rank kind bits from + inner) (from + (place - from))
zero_back kind bits from inner before place is counted found =
    let here : IsPlaceOfKind false bits (kind_rank false bits from + inner) place = record { bit = found.zero; before = omega (arith, found.before, counted) } in
    let after = kind_after false bits (kind_rank false bits from + inner) from place here (omega arith) in
    let same : place ≡ from + (place - from) = omega arith in (
      after,
      subst (λ (kind : Bool). IsPlaceOfKind kind bits (kind_rank kind bits from + inner) (from + (place - from))) (sym is)
          (subst (λ (k : ℕ). IsPlaceOfKind false bits (kind_rank false bits from + inner) k) same here),
    )

-- what the top level's search says of all
pub select_found : (width : ℕ) (bits : List Bool) (xs : List ℕ) → IsTree width bits xs → (len s p n : ℕ) (found : Option ℕ) → length xs ≡ len → s ≡ width → p < 2 ^ width
    → IfSome found (λ _. n < occurrences xs p len) → IfSome found (IsOffsetOf xs s p n) → IfSome found (IsPlaceOf xs p n)
select_found width bits xs tree len s p n None long e fits some is = tt
select_found width bits xs tree len s p n (Some offset) long e fits some is =
    top_offset width bits xs tree s p n offset e fits (subst (λ (m : ℕ). n < occurrences xs p m) (sym long) some) is

-- what stands with n before it stands more often than n
pub select_none : (xs : List ℕ) (p n len : ℕ) (found : Option ℕ) → length xs ≡ len → IfSome found (IsPlaceOf xs p n) → occurrences xs p len ≤ n → found ≡ None
select_none xs p n len None long is few = refl
select_none xs p n len (Some place) long is few = absurd (omega (arith, place_counts xs p n place is, ap (occurrences xs p) long))

none_then : {P : Type 0} (found : Option ℕ) → IsNone found → IfNone found P → P
none_then None is h = h
none_then (Some x) is h = absurd (cc)

none_from : (found : Option ℕ) → found ≡ None → IsNone found
none_from found e = rw e refl

-- nothing is found exactly where the number stands at most n times
pub select_iff : (seen xs : List ℕ) (p n len : ℕ) (found : Option ℕ) → xs ≡ seen → length xs ≡ len → IfNone found (occurrences xs p len ≤ n) → IfSome found (IsPlaceOf xs p n)
    → IsNone found ↔ (occurrences seen p (length seen) ≤ n)
select_iff seen xs p n len found same long none some =
    let counts : occurrences xs p len ≡ occurrences seen p (length seen) = ap (occurrences xs p) (sym long) ∙ ap (λ ys. occurrences ys p (length ys)) same in
    (λ is. omega (arith, counts, none_then found is none), λ few. none_from found (select_none xs p n len found long some (omega (arith, counts))))
