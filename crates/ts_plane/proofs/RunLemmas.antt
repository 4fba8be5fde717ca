-- Values that stand for the rows of a list of bits: their groups are the rows.
use Rattle.std.proofs.Common.{◌≡◌, ℕ, zero, suc, ◌+◌, ◌-◌, ◌<◌, Bool, true, false, not, inl, inr, List, [], ◌∷◌, map, length, get_or, refl, sym, ◌∙◌, ap, ap₂, subst, arith}
use Rattle.std.specs.List.{range_with_len}
use Rattle.std.proofs.lemmas.Bool.{cases_Bool, cases_lt}
use Rattle.std.proofs.lemmas.Option.{get_or_from_slice_get}
use Rattle.std.proofs.lemmas.List.{ext_get_or}
use Rattle.std.proofs.lemmas.List.FromFn.{length-map-range_with_len, get_or-map-range_with_len}
use Rattle.ts_bits.specs.Rank.{rank, ones}
use Rattle.ts_bits.proofs.Ranks.{digit_of}
use Rattle.ts_adjacency.specs.Rows.{IsClosed, row_of}
use Rattle.ts_adjacency.proofs.RowLemmas.{rank_at_one, rank_at_zero, row_within}
use Rattle.ts_plane.specs.Groups.{last_marks}
use Rattle.ts_plane.proofs.GroupLemmas.{rank_cons}
use Rattle.ts_plane.proofs.GroupMembers.{length-last_marks, mark_at, mark_last, ones_cons}

-- the value of each place's row
abbrev pub by_rows : {K : Type 0} → (ℕ → K) → List Bool → List K
by_rows f ends = map (λ j. f (row_of ends j)) (range_with_len 0 (length ends))

-- the value of each row
abbrev pub row_values : {K : Type 0} → (ℕ → K) → List Bool → List K
row_values f ends = map f (range_with_len 0 (ones ends))

pub by_rows_at : {K : Type 0} (f : ℕ → K) (ends : List Bool) (j : ℕ) (d : K) → j < length ends → get_or (by_rows f ends) j d ≡ f (row_of ends j)
by_rows_at f ends j d h = get_or-map-range_with_len (λ i. f (row_of ends i)) 0 (length ends) j j d h (omega arith)

pub length-by_rows : {K : Type 0} (f : ℕ → K) (ends : List Bool) → length (by_rows f ends) ≡ length ends
length-by_rows f ends = length-map-range_with_len (λ i. f (row_of ends i)) 0 (length ends)

-- where neighbouring rows have other values, the marks are the bits
pub run_marks : {K : Type 0} (same : K → K → Bool) (f : ℕ → K) (ends : List Bool) (d : K) → ((a b : K) → a ≡ b → same a b ≡ true)
    → ((i : ℕ) → i + 1 < ones ends → same (f (i + 1)) (f i) ≡ false) → IsClosed ends → last_marks same (by_rows f ends) ≡ ends
run_marks same f ends d equal apart closed =
    let long = length-by_rows f ends in
    let marked = length-last_marks same (by_rows f ends) in
    ext_get_or false (last_marks same (by_rows f ends)) ends (omega arith) (λ j h.
    elim (cases_lt (j + 1) (length ends)) [
      | inr end ↦
          let at : j ≡ length ends - 1 = omega (arith, end, h) in
          let one : get_or ends (length ends - 1) false ≡ true = get_or_from_slice_get ends (length ends - 1) true false (closed (omega (arith, h))) in
          mark_last same (by_rows f ends) j (omega (arith, end, h)) ∙ sym (subst (λ k. get_or ends k false ≡ true) (sym at) one)
      | inl inside ↦
          mark_at same (by_rows f ends) j d (omega (arith, inside))
          ∙ ap₂ (λ a b. not (same a b)) (by_rows_at f ends (j + 1) d inside) (by_rows_at f ends j d (omega (arith, inside)))
          ∙ (elim (cases_Bool (get_or ends j false)) [
            | inl one ↦
                let next = rank_at_one ends j (omega (arith, inside)) one in
                let low = row_within ends (j + 1) closed inside in
                ap (λ i. not (same (f i) (f (rank ends j)))) next ∙ ap not (apart (rank ends j) (omega (arith, next, low))) ∙ sym one
            | inr none ↦
                let next = rank_at_zero ends j (omega (arith, inside)) none in
                ap (λ i. not (same (f i) (f (rank ends j)))) next ∙ ap not (equal (f (rank ends j)) (f (rank ends j)) refl) ∙ sym none
          ])
    ])

-- each row has a place
pub record IsInRow (ends : List Bool) (i : ℕ) : Type 0 where
  pub place : ℕ
  pub within : place < length ends
  pub row : row_of ends place ≡ i

pub row_place : (ends : List Bool) (i : ℕ) → i < ones ends → IsInRow ends i
row_place [] i h = absurd (omega (arith, h))
row_place (b ∷ ends) zero h = record { place = 0; within = omega arith; row = refl }
row_place (true ∷ ends) (suc i) h =
    let count = ones_cons true ends in
    let digit : digit_of true ≡ 1 = refl in
    let later = row_place ends i (omega (arith, h, count, digit)) in
    record { place = suc later.place; within = omega (arith, later.within); row = omega (arith, rank_cons true ends later.place, digit, later.row) }
row_place (false ∷ ends) (suc i) h =
    let count = ones_cons false ends in
    let digit : digit_of false ≡ 0 = refl in
    let later = row_place ends (suc i) (omega (arith, h, count, digit)) in
    record { place = suc later.place; within = omega (arith, later.within); row = omega (arith, rank_cons false ends later.place, digit, later.row) }
