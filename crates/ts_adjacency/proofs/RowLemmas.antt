-- Rows by the ones of their bits.
use Rattle.std.proofs.Common.{◌≡◌, ℕ, ◌+◌, ◌-◌, ◌<◌, Bool, true, false, Some, List, length, get_or, slice_get, ap, arith, inl, inr}
use Rattle.std.proofs.lemmas.Bool.{cases_lt}
use Rattle.std.proofs.lemmas.Option.{slice_get_within, get_or_from_slice_get}
use mir.Val.{bool_byte}
use Rattle.ts_bits.specs.Rank.{rank}
use Rattle.ts_bits.specs.Select.{IsPlaceOfOne, IsNextOne}
use Rattle.ts_bits.proofs.Ranks.{digit_of, rank-le, rank-mono, rank_whole, rank_more, place_within, rank_after_place}
use Rattle.ts_adjacency.specs.Rows.{IsClosed, IsRow, BeginsAt, row_count, row_of}

-- a one at a place is one more behind it
pub rank_at_one : (ends : List Bool) (j : ℕ) → j < length ends → get_or ends j false ≡ true → rank ends (j + 1) ≡ rank ends j + 1
rank_at_one ends j within one =
    let digit : digit_of (get_or ends j false) ≡ 1 = ap digit_of one in
    omega (arith, rank_more ends j within, digit)

-- a zero at a place is none more
pub rank_at_zero : (ends : List Bool) (j : ℕ) → j < length ends → get_or ends j false ≡ false → rank ends (j + 1) ≡ rank ends j
rank_at_zero ends j within zero =
    let digit : digit_of (get_or ends j false) ≡ 0 = ap digit_of zero in
    omega (arith, rank_more ends j within, digit)

-- the row of the next place
pub row_next : (ends : List Bool) (j : ℕ) (is_last : Bool) → slice_get ends j ≡ Some is_last → row_of ends (j + 1) ≡ row_of ends j + bool_byte is_last
row_next ends j true here = rank_at_one ends j (slice_get_within ends j true here) (get_or_from_slice_get ends j true false here)
row_next ends j false here =
    let more : row_of ends (j + 1) ≡ row_of ends j = rank_at_zero ends j (slice_get_within ends j false here) (get_or_from_slice_get ends j false false here) in
    omega (arith, more)

-- each place is in a row
pub row_within : (ends : List Bool) (j : ℕ) → IsClosed ends → j < length ends → row_of ends j < row_count ends
row_within ends j closed within =
    let last : get_or ends (length ends - 1) false ≡ true =
    get_or_from_slice_get ends (length ends - 1) true false (closed (omega arith)) in
    let before = rank-mono ends j (length ends - 1) (omega arith) in
    let more : rank ends ((length ends - 1) + 1) ≡ rank ends (length ends - 1) + 1 = rank_at_one ends (length ends - 1) (omega arith) last in
    omega (arith, before.0, more, rank_whole ends ((length ends - 1) + 1) (omega arith))

-- the first row begins at the first place
pub begins_first : (ends : List Bool) → BeginsAt ends 0 0
begins_first ends = record {
  within = omega arith;
  before = λ j h. absurd (omega arith);
  here = omega (arith, rank-le ends 0);
}

-- each other row behind the last place of the row before
pub begins_behind : (ends : List Bool) (i last : ℕ) → 0 < i → IsPlaceOfOne ends (i - 1) last → BeginsAt ends i (last + 1)
begins_behind ends i last some is = record {
  within = omega (arith, place_within ends (i - 1) last is);
  before = λ j h. (let mono = rank-mono ends j last (omega arith) in omega (arith, mono.0, is.before));
  here = omega (arith, rank_after_place ends (i - 1) last is);
}

-- a row lies between its begin and the next
pub row_between : (ends : List Bool) (i first after : ℕ) → BeginsAt ends i first → BeginsAt ends (i + 1) after → IsRow ends i first after
row_between ends i first after begin next = record {
  some = elim (cases_lt first after) [
    | inl some ↦ some
    | inr none ↦ (let mono = rank-mono ends after first none in absurd (omega (arith, mono.0, begin.here, next.here)))
  ];
  within = next.within;
  inside = λ j low high.
      (let mono = rank-mono ends first j low in
      let below : rank ends j < i + 1 = next.before j high in
      omega (arith, mono.0, begin.here, below));
  only = λ j within there. (
    elim (cases_lt j first) [
      | inl before ↦ (let below : rank ends j < i = begin.before j before in absurd (omega (arith, below, there)))
      | inr not ↦ not
    ],
    elim (cases_lt j after) [
      | inl before ↦ before
      | inr behind ↦ (let mono = rank-mono ends after j behind in absurd (omega (arith, mono.0, next.here, there)))
    ],
  );
}

-- the first one from the begin of a row on ends it
pub row_found : (ends : List Bool) (i first last : ℕ) → BeginsAt ends i first → IsNextOne ends first last → IsRow ends i first (last + 1)
row_found ends i first last begin is =
    let same : (i + 1) - 1 ≡ i = omega arith in
    let place : IsPlaceOfOne ends ((i + 1) - 1) last = record { one = is.one; before = omega (arith, is.between, begin.here) } in
    row_between ends i first (last + 1) begin (begins_behind ends (i + 1) last (omega arith) place)
