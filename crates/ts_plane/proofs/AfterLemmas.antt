-- Where the triples greater than one begin.
use Rattle.std.proofs.Common.{◌≡◌, ◌≢◌, ℕ, ◌+◌, ◌<◌, ◌≤◌, true, false, List, length, get_or, sym, ap, ◌∙◌, arith, inl, inr}
use Rattle.std.proofs.lemmas.Bool.{cases_lt, cases_eq}
use Rattle.std.specs.Ordering.{is_lt}
use Rattle.ts_log.specs.Rising.{RisesBetween}
use Rattle.ts_log.proofs.RisingLemmas.{rises}
use Rattle.ts_adjacency.specs.Rows.{IsRow, row_of}
use Rattle.ts_plane.specs.declared.triple.IdTriple.{IdTriple}
use Rattle.ts_plane.specs.Parts.{PlaneParts}
use Rattle.ts_plane.specs.Triple.{triple_cmp}
use Rattle.ts_plane.specs.Decoded.{triple_at}
use Rattle.ts_plane.specs.Kept.{KeepsRules}
use Rattle.ts_plane.specs.Lookups.{IsRun, IsFirst, IsFirstAbove, IsFirstPair, pair_at}
use Rattle.ts_plane.specs.Cursors.{pair_with}
use Rattle.ts_plane.proofs.TripleOrder.{is_below, is_no_lower}
use Rattle.ts_plane.proofs.RowFacts.{row_before, row_behind, pair_within, pairs_rise}

-- the first place above x, where x is found
pub above_found : (xs : List ℕ) (from to x place : ℕ) → RisesBetween xs from to → IsFirst xs from to x place → place < to → get_or xs place 0 ≡ x → IsFirstAbove xs from to x (place + 1)
above_found xs from to x place rising first within here = record {
  begins = omega (arith, first.begins);
  ends = omega arith;
  low = λ j l h. elim (cases_eq j place) [
    | inl same ↦ (let there : get_or xs j 0 ≡ get_or xs place 0 = ap (λ k. get_or xs k 0) same in omega arith)
    | inr other ↦ (let less = first.below j l (omega arith) in omega arith)
  ];
  above = λ j l h. (let up = rises xs from to place j rising first.begins (omega arith) h in omega arith);
}

-- and where it isn't
pub above_absent : (xs : List ℕ) (from to x place : ℕ) → RisesBetween xs from to → IsFirst xs from to x place → (place < to → get_or xs place 0 ≢ x) → IsFirstAbove xs from to x place
above_absent xs from to x place rising first other = record {
  begins = first.begins;
  ends = first.ends;
  low = λ j l h. (let less = first.below j l h in omega arith);
  above = λ j l h. elim (cases_eq place j) [
    | inl same ↦
        (let not = other (omega arith) in
        let there : get_or xs place 0 ≡ get_or xs j 0 = ap (λ k. get_or xs k 0) same in
        let least = first.reached j l h in
        omega arith)
    | inr later ↦
        (let up = rises xs from to place j rising first.begins (omega arith) h in
        let least = first.reached place (omega arith) (omega arith) in
        omega arith)
  ];
}

-- pairs before the first that isn't below
pub before_pair : (parts : PlaneParts) (t : IdTriple) (place k o : ℕ) → IsFirstPair parts t.s t.p place → k < place → is_lt (triple_cmp t (pair_with parts o k)) ≡ false
before_pair parts t place k o first h =
    let below = first.below k h in
    is_no_lower t (pair_with parts o k) below.0 (λ e. (let less = below.1 (sym e) in omega arith)) (λ e f. (let less = below.1 (sym e) in absurd (omega arith)))

-- and from it on, where the pair is greater
pub behind_pair : (parts : PlaneParts) (t : IdTriple) (k o : ℕ) → t.s ≤ (pair_at parts k).0 → (t.s ≡ (pair_at parts k).0 → t.p < (pair_at parts k).1) → is_lt (triple_cmp t (pair_with parts o k)) ≡ true
behind_pair parts t k o s p = is_below t (pair_with parts o k) s (λ e. (let less = p e in omega arith)) (λ e f. (let less = p e in absurd (omega arith)))

-- the first that isn't below is above, where it is another
pub above_other : (parts : PlaneParts) (t : IdTriple) (place k o : ℕ) → KeepsRules parts → IsFirstPair parts t.s t.p place → ((pair_at parts place).0 ≡ t.s → (pair_at parts place).1 ≢ t.p)
    → place ≤ k → k < length parts.pair_ends → is_lt (triple_cmp t (pair_with parts o k)) ≡ true
above_other parts t place k o kept first other low within =
    let reached = first.reached k low within in
    let here = first.reached place (omega arith) (omega arith) in
    behind_pair parts t k o reached.0 (λ e. elim (cases_eq place k) [
      | inl same ↦
          (let at : (pair_at parts place).1 ≡ (pair_at parts k).1 = ap (λ n. (pair_at parts n).1) same in
          let at_s : (pair_at parts place).0 ≡ (pair_at parts k).0 = ap (λ n. (pair_at parts n).0) same in
          let not = other (at_s ∙ sym e) in
          let most = reached.1 (sym e) in
          omega arith)
      | inr later ↦
          (let up = pairs_rise parts place k kept (omega arith) within in
          let up_s = up.subject in
          let here_s : (pair_at parts place).0 ≡ t.s = omega (arith, here.0) in
          let more = up.predicate (here_s ∙ e) in
          let least = here.1 here_s in
          omega arith)
    ])

-- and those behind it are, in any case
pub above_later : (parts : PlaneParts) (t : IdTriple) (place k o : ℕ) → KeepsRules parts → IsFirstPair parts t.s t.p place
    → place < k → k < length parts.pair_ends → is_lt (triple_cmp t (pair_with parts o k)) ≡ true
above_later parts t place k o kept first low within =
    let reached = first.reached k (omega arith) within in
    let here = first.reached place (omega arith) (omega arith) in
    behind_pair parts t k o reached.0 (λ e.
    (let up = pairs_rise parts place k kept low within in
    let up_s = up.subject in
    let here_s : (pair_at parts place).0 ≡ t.s = omega (arith, here.0) in
    let more = up.predicate (here_s ∙ e) in
    let least = here.1 here_s in
    omega arith))

-- no pair is left
pub run_after_none : (parts : PlaneParts) (t : IdTriple) → KeepsRules parts → IsFirstPair parts t.s t.p (length parts.pair_ends)
    → IsRun (λ j. is_lt (triple_cmp t (triple_at parts j))) (length parts.object_ends) (length parts.object_ends) (length parts.object_ends)
run_after_none parts t kept first = record {
  ordered = omega arith;
  within = omega arith;
  before = λ j h. before_pair parts t (length parts.pair_ends) (row_of parts.object_ends j) (get_or parts.pair_objects j 0) first (pair_within parts j kept h);
  inside = λ j l h. absurd (omega arith);
  behind = λ j l h. absurd (omega arith);
}

-- the pair is another
pub run_after_other : (parts : PlaneParts) (t : IdTriple) (pair first after : ℕ) → KeepsRules parts → IsFirstPair parts t.s t.p pair → IsRow parts.object_ends pair first after
    → ((pair_at parts pair).0 ≡ t.s → (pair_at parts pair).1 ≢ t.p)
    → IsRun (λ j. is_lt (triple_cmp t (triple_at parts j))) (length parts.object_ends) first (length parts.object_ends)
run_after_other parts t pair first after kept is row other = record {
  ordered = omega (arith, row.some, row.within);
  within = omega arith;
  before = λ j h. before_pair parts t pair (row_of parts.object_ends j) (get_or parts.pair_objects j 0) is (row_before parts.object_ends pair first after j row h);
  inside = λ j l h.
      above_other parts t pair (row_of parts.object_ends j) (get_or parts.pair_objects j 0) kept is other
      (elim (cases_lt j after) [
        | inl within ↦ (let here = row.inside j l within in omega arith)
        | inr not ↦ (let up = row_behind parts.object_ends pair first after j row not h in omega arith)
      ])
      (pair_within parts j kept h);
  behind = λ j l h. absurd (omega arith);
}

-- the pair is the triple's
pub run_after_same : (parts : PlaneParts) (t : IdTriple) (pair first after place : ℕ) → KeepsRules parts → IsFirstPair parts t.s t.p pair → IsRow parts.object_ends pair first after
    → (pair_at parts pair).0 ≡ t.s → (pair_at parts pair).1 ≡ t.p → IsFirstAbove parts.pair_objects first after t.o place
    → IsRun (λ j. is_lt (triple_cmp t (triple_at parts j))) (length parts.object_ends) place (length parts.object_ends)
run_after_same parts t pair first after place kept is row same_s same_p above =
    let s_at : (j : ℕ) → first ≤ j → j < after → (triple_at parts j).s ≡ t.s = λ j l h. ap (λ k. (pair_at parts k).0) (row.inside j l h) ∙ same_s in
    let p_at : (j : ℕ) → first ≤ j → j < after → (triple_at parts j).p ≡ t.p = λ j l h. ap (λ k. (pair_at parts k).1) (row.inside j l h) ∙ same_p in
    record {
      ordered = omega (arith, above.ends, row.within);
      within = omega arith;
      before = λ j h. elim (cases_lt j first) [
        | inl low ↦ before_pair parts t pair (row_of parts.object_ends j) (get_or parts.pair_objects j 0) is (row_before parts.object_ends pair first after j row low)
        | inr not ↦
            (let e_s = s_at j not (omega (arith, above.ends)) in
            let e_p = p_at j not (omega (arith, above.ends)) in
            let low = above.low j not h in
            is_no_lower t (triple_at parts j) (omega arith) (λ e. omega arith) (λ e f. low))
      ];
      inside = λ j l h. elim (cases_lt j after) [
        | inl within ↦
            (let e_s = s_at j (omega (arith, above.begins)) within in
            let e_p = p_at j (omega (arith, above.begins)) within in
            let high = above.above j l within in
            is_below t (triple_at parts j) (omega arith) (λ e. omega arith) (λ e f. high))
        | inr not ↦ above_later parts t pair (row_of parts.object_ends j) (get_or parts.pair_objects j 0) kept is (row_behind parts.object_ends pair first after j row not h) (pair_within parts j kept h)
      ];
      behind = λ j l h. absurd (omega arith);
    }

-- pairs that make a greater triple with an object: it is greater than the triple's
pub pairs_after_object : (parts : PlaneParts) (t : IdTriple) (place o : ℕ) → IsFirstPair parts t.s t.p place → t.o < o
    → IsRun (λ k. is_lt (triple_cmp t (pair_with parts o k))) (length parts.pair_ends) place (length parts.pair_ends)
pairs_after_object parts t place o first more = record {
  ordered = first.within;
  within = omega arith;
  before = λ k h. before_pair parts t place k o first h;
  inside = λ k l h.
      (let reached = first.reached k l h in
      is_below t (pair_with parts o k) reached.0 (λ e. reached.1 (sym e)) (λ e f. more));
  behind = λ k l h. absurd (omega arith);
}

-- no pair is left
pub pairs_after_none : (parts : PlaneParts) (t : IdTriple) (o : ℕ) → IsFirstPair parts t.s t.p (length parts.pair_ends)
    → IsRun (λ k. is_lt (triple_cmp t (pair_with parts o k))) (length parts.pair_ends) (length parts.pair_ends) (length parts.pair_ends)
pairs_after_none parts t o first = record {
  ordered = omega arith;
  within = omega arith;
  before = λ k h. before_pair parts t (length parts.pair_ends) k o first h;
  inside = λ k l h. absurd (omega arith);
  behind = λ k l h. absurd (omega arith);
}

-- the first pair is another
pub pairs_after_other : (parts : PlaneParts) (t : IdTriple) (place o : ℕ) → KeepsRules parts → IsFirstPair parts t.s t.p place → ((pair_at parts place).0 ≡ t.s → (pair_at parts place).1 ≢ t.p)
    → IsRun (λ k. is_lt (triple_cmp t (pair_with parts o k))) (length parts.pair_ends) place (length parts.pair_ends)
pairs_after_other parts t place o kept first other = record {
  ordered = first.within;
  within = omega arith;
  before = λ k h. before_pair parts t place k o first h;
  inside = λ k l h. above_other parts t place k o kept first other l h;
  behind = λ k l h. absurd (omega arith);
}

-- it is the triple's, whose object is no less
pub pairs_after_same : (parts : PlaneParts) (t : IdTriple) (place o : ℕ) → KeepsRules parts → IsFirstPair parts t.s t.p place → place < length parts.pair_ends
    → (pair_at parts place).0 ≡ t.s → (pair_at parts place).1 ≡ t.p → o ≤ t.o
    → IsRun (λ k. is_lt (triple_cmp t (pair_with parts o k))) (length parts.pair_ends) (place + 1) (length parts.pair_ends)
pairs_after_same parts t place o kept first some same_s same_p low = record {
  ordered = omega arith;
  within = omega arith;
  before = λ k h. elim (cases_eq k place) [
    | inl here ↦
        (let e_s : (pair_at parts k).0 ≡ t.s = ap (λ n. (pair_at parts n).0) here ∙ same_s in
        let e_p : (pair_at parts k).1 ≡ t.p = ap (λ n. (pair_at parts n).1) here ∙ same_p in
        is_no_lower t (pair_with parts o k) (omega arith) (λ e. omega arith) (λ e f. low))
    | inr other ↦ before_pair parts t place k o first (omega arith)
  ];
  inside = λ k l h. above_later parts t place k o kept first (omega arith) h;
  behind = λ k l h. absurd (omega arith);
}
