-- Runs of pairs and of triples, and what narrows them.
use Rattle.std.proofs.Common.{◌≡◌, ◌≢◌, ℕ, ◌+◌, ◌-◌, ◌<◌, ◌≤◌, Bool, false, ◌&&◌, eqb, List, length, get_or, sym, ap, ◌∙◌, arith, inl, inr}
use Rattle.std.proofs.lemmas.Bool.{cases_lt, cases_eq, eq-eqb, ne_eqb, and_from, and_left, and_right}
use Rattle.ts_bits.proofs.Ranks.{rank-mono}
use Rattle.ts_log.specs.Rising.{RisesBetween}
use Rattle.ts_log.proofs.RisingLemmas.{rises}
use Rattle.ts_adjacency.specs.Rows.{IsRow, row_of}
use Rattle.ts_plane.specs.Parts.{PlaneParts}
use Rattle.ts_plane.specs.Kept.{KeepsRules}
use Rattle.ts_plane.specs.Lookups.{IsRun, IsFirst, IsFirstPair}
use Rattle.ts_plane.proofs.RowFacts.{row_before, row_behind, subject_within, subject_only, subjects_rise}

-- the row of a subject is the run of its pairs
pub run_of_row : (parts : PlaneParts) (s i first after : ℕ) → KeepsRules parts → i < length parts.subjects → get_or parts.subjects i 0 ≡ s
    → IsRow parts.pair_ends i first after → IsRun (λ k. eqb s (get_or parts.subjects (row_of parts.pair_ends k) 0)) (length parts.pair_ends) first after
run_of_row parts s i first after kept within here row =
    let other : (k : ℕ) → k < length parts.pair_ends → row_of parts.pair_ends k ≢ i → eqb s (get_or parts.subjects (row_of parts.pair_ends k) 0) ≡ false =
    λ k h not. ne_eqb s (get_or parts.subjects (row_of parts.pair_ends k) 0) (λ same. not (subject_only parts (row_of parts.pair_ends k) i kept (subject_within parts k kept h) within (sym same ∙ sym here))) in
    record {
      ordered = omega (arith, row.some);
      within = row.within;
      before = λ k h. (let low = row_before parts.pair_ends i first after k row h in other k (omega (arith, row.some, row.within)) (λ e. omega arith));
      inside = λ k l h. eq-eqb s (get_or parts.subjects (row_of parts.pair_ends k) 0) (sym here ∙ ap (λ r. get_or parts.subjects r 0) (sym (row.inside k l h)));
      behind = λ k l h. (let high = row_behind parts.pair_ends i first after k row l h in other k h (λ e. omega arith));
    }

-- a subject that isn't there has none
pub run_of_no_row : (parts : PlaneParts) (s : ℕ) → KeepsRules parts → ((i : ℕ) → 0 ≤ i → i < length parts.subjects → get_or parts.subjects i 0 ≢ s)
    → IsRun (λ k. eqb s (get_or parts.subjects (row_of parts.pair_ends k) 0)) (length parts.pair_ends) 0 0
run_of_no_row parts s kept absent = record {
  ordered = omega arith;
  within = omega arith;
  before = λ k h. absurd (omega arith);
  inside = λ k l h. absurd (omega arith);
  behind = λ k l h. ne_eqb s (get_or parts.subjects (row_of parts.pair_ends k) 0) (λ same. absent (row_of parts.pair_ends k) (omega arith) (subject_within parts k kept h) (sym same));
}

-- where numbers rise in a run, those equal to x are one place
pub narrow_found : (test : ℕ → Bool) (xs : List ℕ) (n from to x place : ℕ) → IsRun test n from to → RisesBetween xs from to → IsFirst xs from to x place
    → place < to → get_or xs place 0 ≡ x → IsRun (λ j. test j && eqb x (get_or xs j 0)) n place (place + 1)
narrow_found test xs n from to x place run rising first within here =
    record {
      ordered = omega arith;
      within = omega (arith, run.within);
      before = λ j h. elim (cases_lt j from) [
        | inl low ↦ and_left (test j) (eqb x (get_or xs j 0)) (run.before j low)
        | inr not ↦ (let less = first.below j not h in and_right (test j) (eqb x (get_or xs j 0)) (ne_eqb x (get_or xs j 0) (λ e. omega arith)))
      ];
      inside = λ j l h.
          (let e : place ≡ j = omega arith in
          and_from (test j) (eqb x (get_or xs j 0)) (run.inside j (omega (arith, first.begins)) (omega arith)) (eq-eqb x (get_or xs j 0) (sym here ∙ ap (λ k. get_or xs k 0) e)));
      behind = λ j l h. elim (cases_lt j to) [
        | inl low ↦ (let up = rises xs from to place j rising first.begins (omega arith) low in and_right (test j) (eqb x (get_or xs j 0)) (ne_eqb x (get_or xs j 0) (λ e. omega arith)))
        | inr not ↦ and_left (test j) (eqb x (get_or xs j 0)) (run.behind j not h)
      ];
    }

-- or none
pub narrow_none : (test : ℕ → Bool) (xs : List ℕ) (n from to x place : ℕ) → IsRun test n from to → RisesBetween xs from to → IsFirst xs from to x place
    → (place < to → get_or xs place 0 ≢ x) → IsRun (λ j. test j && eqb x (get_or xs j 0)) n place place
narrow_none test xs n from to x place run rising first other =
    record {
      ordered = omega arith;
      within = omega (arith, run.within, first.ends);
      before = λ j h. elim (cases_lt j from) [
        | inl low ↦ and_left (test j) (eqb x (get_or xs j 0)) (run.before j low)
        | inr not ↦ (let less = first.below j not h in and_right (test j) (eqb x (get_or xs j 0)) (ne_eqb x (get_or xs j 0) (λ e. omega arith)))
      ];
      inside = λ j l h. absurd (omega arith);
      behind = λ j l h. elim (cases_lt j to) [
        | inl low ↦ and_right (test j) (eqb x (get_or xs j 0)) (ne_eqb x (get_or xs j 0) (λ e.
            elim (cases_eq place j) [
              | inl here ↦ other (omega arith) (ap (λ k. get_or xs k 0) here ∙ sym e)
              | inr later ↦
                  (let up = rises xs from to place j rising first.begins (omega arith) low in
                  let reached = first.reached place (omega arith) (omega arith) in
                  omega arith)
            ]))
        | inr not ↦ and_left (test j) (eqb x (get_or xs j 0)) (run.behind j not h)
      ];
    }

-- the places of the rows from one to before another
pub record AreRows (ends : List Bool) (from to first after : ℕ) : Type 0 where
  pub ordered : first ≤ after
  pub within : after ≤ length ends
  pub before : (j : ℕ) → j < first → row_of ends j < from
  pub low : (j : ℕ) → first ≤ j → j < after → from ≤ row_of ends j
  pub high : (j : ℕ) → first ≤ j → j < after → row_of ends j < to
  pub behind : (j : ℕ) → after ≤ j → j < length ends → to ≤ row_of ends j

pub rows_between : (ends : List Bool) (from to first next last after : ℕ) → from < to → IsRow ends from first next → IsRow ends (to - 1) last after → AreRows ends from to first after
rows_between ends from to first next last after some row end =
    let end_row : row_of ends (after - 1) ≡ to - 1 = end.inside (after - 1) (omega (arith, end.some)) (omega (arith, end.some)) in
    let first_row : row_of ends first ≡ from = row.inside first (omega arith) row.some in
    let behind : (j : ℕ) → after ≤ j → j < length ends → to ≤ row_of ends j = λ j l h. (let up = row_behind ends (to - 1) last after j end l h in omega arith) in
    record {
      ordered = elim (cases_lt after first) [
        | inr not ↦ not
        | inl less ↦ (let up : to ≤ row_of ends first = behind first (omega arith) (omega (arith, row.some, row.within)) in absurd (omega arith))
      ];
      within = end.within;
      before = λ j h. row_before ends from first next j row h;
      low = λ j l h. (let mono = rank-mono ends first j l in omega (arith, mono.0));
      high = λ j l h. (let mono = rank-mono ends j (after - 1) (omega arith) in omega (arith, mono.0));
      behind = behind;
    }

-- a run of pairs is a run of triples
pub run_of_rows : (test : ℕ → Bool) (ends : List Bool) (n from to first after : ℕ) → ((j : ℕ) → j < length ends → row_of ends j < n) → AreRows ends from to first after
    → IsRun test n from to → IsRun (λ j. test (row_of ends j)) (length ends) first after
run_of_rows test ends n from to first after rows are run = record {
  ordered = are.ordered;
  within = are.within;
  before = λ j h. run.before (row_of ends j) (are.before j h);
  inside = λ j l h. run.inside (row_of ends j) (are.low j l h) (are.high j l h);
  behind = λ j l h. run.behind (row_of ends j) (are.behind j l h) (rows j h);
}

-- no pair has no triple
pub run_of_none : (test : ℕ → Bool) (ends : List Bool) (n from : ℕ) → ((j : ℕ) → j < length ends → row_of ends j < n)
    → IsRun test n from from → IsRun (λ j. test (row_of ends j)) (length ends) 0 0
run_of_none test ends n from rows run = record {
  ordered = omega arith;
  within = omega arith;
  before = λ j h. absurd (omega arith);
  inside = λ j l h. absurd (omega arith);
  behind = λ j l h. elim (cases_lt (row_of ends j) from) [
    | inl low ↦ run.before (row_of ends j) low
    | inr not ↦ run.behind (row_of ends j) not (rows j h)
  ];
}

-- the first pair, where all subjects are below
pub first_pair_none : (parts : PlaneParts) (s p : ℕ) → KeepsRules parts → ((i : ℕ) → 0 ≤ i → i < length parts.subjects → get_or parts.subjects i 0 < s)
    → IsFirstPair parts s p (length parts.pair_ends)
first_pair_none parts s p kept below = record {
  within = omega arith;
  below = λ k h. (let less = below (row_of parts.pair_ends k) (omega arith) (subject_within parts k kept h) in (omega arith, λ e. absurd (omega arith)));
  reached = λ k l h. absurd (omega arith);
}

-- where a subject stands, the first in its row
pub first_pair_here : (parts : PlaneParts) (s p i first after place : ℕ) → KeepsRules parts → i < length parts.subjects → get_or parts.subjects i 0 ≡ s
    → IsRow parts.pair_ends i first after → IsFirst parts.pair_predicates first after p place → IsFirstPair parts s p place
first_pair_here parts s p i first after place kept within here row is =
    let here_at : (k : ℕ) → first ≤ k → k < after → get_or parts.subjects (row_of parts.pair_ends k) 0 ≡ s = λ k l h. ap (λ r. get_or parts.subjects r 0) (row.inside k l h) ∙ here in
    record {
      within = omega (arith, is.ends, row.within);
      below = λ k h. elim (cases_lt k first) [
        | inl low ↦
            (let before = row_before parts.pair_ends i first after k row low in
            let less = subjects_rise parts (row_of parts.pair_ends k) i kept before within in
            (omega arith, λ e. absurd (omega arith)))
        | inr not ↦
            (let same = here_at k not (omega (arith, is.ends)) in
            let less = is.below k not h in
            (omega arith, λ e. less))
      ];
      reached = λ k l h. elim (cases_lt k after) [
        | inl inside ↦
            (let same = here_at k (omega (arith, is.begins)) inside in
            let most = is.reached k l inside in
            (omega arith, λ e. most))
        | inr not ↦
            (let behind = row_behind parts.pair_ends i first after k row not h in
            let more = subjects_rise parts i (row_of parts.pair_ends k) kept behind (subject_within parts k kept h) in
            (omega arith, λ e. absurd (omega arith)))
      ];
    }

-- and otherwise the first of the next subject
pub first_pair_behind : (parts : PlaneParts) (s p i first after : ℕ) → KeepsRules parts → i < length parts.subjects
    → ((j : ℕ) → 0 ≤ j → j < i → get_or parts.subjects j 0 < s) → s < get_or parts.subjects i 0
    → IsRow parts.pair_ends i first after → IsFirstPair parts s p first
first_pair_behind parts s p i first after kept within below above row =
    record {
      within = omega (arith, row.some, row.within);
      below = λ k h.
          (let before = row_before parts.pair_ends i first after k row h in
          let less = below (row_of parts.pair_ends k) (omega arith) before in
          (omega arith, λ e. absurd (omega arith)));
      reached = λ k l h.
          (let mono = rank-mono parts.pair_ends first k l in
          let first_row : row_of parts.pair_ends first ≡ i = row.inside first (omega arith) row.some in
          elim (cases_lt i (row_of parts.pair_ends k)) [
            | inl later ↦
                (let more = subjects_rise parts i (row_of parts.pair_ends k) kept later (subject_within parts k kept h) in
                (omega arith, λ e. absurd (omega arith)))
            | inr not ↦
                (let same : i ≡ row_of parts.pair_ends k = omega (arith, mono.0) in
                let there : get_or parts.subjects i 0 ≡ get_or parts.subjects (row_of parts.pair_ends k) 0 = ap (λ r. get_or parts.subjects r 0) same in
                (omega arith, λ e. absurd (omega arith)))
          ]);
    }
