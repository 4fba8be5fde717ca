-- Walks by the places of a predicate.
use Rattle.std.proofs.Common.{◌≡◌, ◌≢◌, ℕ, zero, suc, ◌+◌, ◌-◌, ◌<◌, ◌≤◌, true, false, eqb, List, [], ◌∷◌, length, map, get_or, refl, sym, ap, ◌∙◌, arith, ◌⊎◌, inl, inr}
use Rattle.std.proofs.lemmas.Bool.{cases_lt, cases_eq, cases_Bool, cond-true, cond-false, eqb-true, eqb-false, eq-eqb, ne_eqb}
use Rattle.std.specs.List.{filter, range_with_len}
use Rattle.ts_bits.proofs.Ranks.{rank-mono, rank_whole}
use Rattle.ts_adjacency.specs.Rows.{BeginsAt, IsRow, row_of}
use Rattle.ts_wavelet.specs.Sequence.{places_from}
use Rattle.ts_plane.specs.declared.triple.IdTriple.{IdTriple}
use Rattle.ts_plane.specs.Parts.{PlaneParts}
use Rattle.ts_plane.specs.Decoded.{triple_at}
use Rattle.ts_plane.specs.Kept.{KeepsRules}
use Rattle.ts_plane.specs.Lookups.{pair_at, triples_between}
use Rattle.ts_plane.specs.Cursors.{StandsInPair, with_predicate}
use Rattle.ts_plane.proofs.RowFacts.{row_before, row_behind, pair_within}
use Rattle.ts_plane.proofs.RangeLemmas.{same_triple}
use Rattle.ts_plane.proofs.Runs.{filter_part, filter_none}

-- over triples of other predicates
pub predicate_skip : (parts : PlaneParts) (p from to : ℕ) → from ≤ to → to ≤ length parts.object_ends → ((j : ℕ) → from ≤ j → j < to → (triple_at parts j).p ≢ p)
    → with_predicate parts p from ≡ with_predicate parts p to
unfolding with_predicate triples_between
predicate_skip parts p from to ordered within other =
    filter_part (λ (t : IdTriple). eqb p t.p) (λ (t : IdTriple). eqb p t.p) (triple_at parts) from (length parts.object_ends) to (length parts.object_ends) ordered within (omega arith)
    (λ j l h. ne_eqb p (triple_at parts j).p (λ e. other j l h (sym e))) (λ j l h. refl) (λ j l h. absurd (omega arith))

-- a triple of the predicate
pub predicate_meet : (parts : PlaneParts) (p place : ℕ) → place < length parts.object_ends → (triple_at parts place).p ≡ p
    → with_predicate parts p place ≡ triple_at parts place ∷ with_predicate parts p (place + 1)
unfolding with_predicate triples_between
predicate_meet parts p place within here =
    let e : length parts.object_ends - place ≡ suc (length parts.object_ends - (place + 1)) = omega arith in
    let rest = filter (λ (t : IdTriple). eqb p t.p) (map (triple_at parts) (range_with_len (place + 1) (length parts.object_ends - (place + 1)))) in
    ap (λ n. filter (λ (t : IdTriple). eqb p t.p) (map (triple_at parts) (range_with_len place n))) e
    ∙ cond-true (eqb p (triple_at parts place).p) (triple_at parts place ∷ rest) rest (eq-eqb p (triple_at parts place).p (sym here))

-- none is left
pub predicate_none : (parts : PlaneParts) (p place : ℕ) → place ≤ length parts.object_ends → ((j : ℕ) → place ≤ j → j < length parts.object_ends → (triple_at parts j).p ≢ p)
    → with_predicate parts p place ≡ []
unfolding with_predicate triples_between
predicate_none parts p place within other =
    filter_none (λ (t : IdTriple). eqb p t.p) (triple_at parts) place (length parts.object_ends - place)
    (λ j l h. ne_eqb p (triple_at parts j).p (λ e. other j l (omega arith) (sym e)))

-- the places of p, one place on
place_here : (xs : List ℕ) (p from : ℕ) → from < length xs → eqb (get_or xs from 0) p ≡ true → places_from xs p from ≡ from ∷ places_from xs p (from + 1)
unfolding places_from
place_here xs p from h same =
    let e : length xs - from ≡ suc (length xs - (from + 1)) = omega arith in
    ap (λ (n : ℕ). filter (λ k. eqb (get_or xs k 0) p) (range_with_len from n)) e
    ∙ cond-true (eqb (get_or xs from 0) p) (from ∷ filter (λ k. eqb (get_or xs k 0) p) (range_with_len (from + 1) (length xs - (from + 1)))) (filter (λ k. eqb (get_or xs k 0) p) (range_with_len (from + 1) (length xs - (from + 1)))) same

place_other : (xs : List ℕ) (p from : ℕ) → from < length xs → eqb (get_or xs from 0) p ≡ false → places_from xs p from ≡ places_from xs p (from + 1)
unfolding places_from
place_other xs p from h other =
    let e : length xs - from ≡ suc (length xs - (from + 1)) = omega arith in
    ap (λ (n : ℕ). filter (λ k. eqb (get_or xs k 0) p) (range_with_len from n)) e
    ∙ cond-false (eqb (get_or xs from 0) p) (from ∷ filter (λ k. eqb (get_or xs k 0) p) (range_with_len (from + 1) (length xs - (from + 1)))) (filter (λ k. eqb (get_or xs k 0) p) (range_with_len (from + 1) (length xs - (from + 1)))) other

places_none : (xs : List ℕ) (p : ℕ) → places_from xs p (length xs) ≡ []
unfolding places_from
places_none xs p = let e : length xs - length xs ≡ 0 = omega arith in ap (λ (n : ℕ). filter (λ k. eqb (get_or xs k 0) p) (range_with_len (length xs) n)) e

-- the first of the places
pub record IsFirstOf (xs : List ℕ) (p from k : ℕ) (rest : List ℕ) : Type 0 where
  pub low : from ≤ k
  pub within : k < length xs
  pub here : get_or xs k 0 ≡ p
  pub before : (r : ℕ) → from ≤ r → r < k → get_or xs r 0 ≢ p
  pub later : rest ≡ places_from xs p (k + 1)

places_first_in : (xs : List ℕ) (p d from k : ℕ) (rest : List ℕ) → from + d ≡ length xs → places_from xs p from ≡ k ∷ rest → IsFirstOf xs p from k rest
places_first_in xs p zero from k rest e is =
    let end : from ≡ length xs = omega arith in
    let none : places_from xs p from ≡ [] = ap (places_from xs p) end ∙ places_none xs p in
    absurd (cc (none, is))
places_first_in xs p (suc d) from k rest e is = elim (cases_Bool (eqb (get_or xs from 0) p)) [
  | inl same ↦
      let step = place_here xs p from (omega arith) same in
      let first : from ≡ k = cc (step, is) in
      let later : places_from xs p (from + 1) ≡ rest = cc (step, is) in
      record {
        low = omega arith;
        within = omega arith;
        here = ap (λ i. get_or xs i 0) (sym first) ∙ eqb-true (get_or xs from 0) p same;
        before = λ r l h. absurd (omega arith);
        later = sym later ∙ ap (λ i. places_from xs p (i + 1)) first;
      }
  | inr other ↦
      let step = place_other xs p from (omega arith) other in
      let rec = places_first_in xs p d (from + 1) k rest (omega arith) (sym step ∙ is) in
      record {
        low = omega (arith, rec.low);
        within = rec.within;
        here = rec.here;
        before = λ r l h. elim (cases_eq from r) [
          | inl this ↦ (λ same. eqb-false (get_or xs from 0) p other (ap (λ i. get_or xs i 0) this ∙ same))
          | inr that ↦ rec.before r (omega arith) h
        ];
        later = rec.later;
      }
]

pub places_first : (xs : List ℕ) (p from k : ℕ) (rest : List ℕ) → from ≤ length xs → places_from xs p from ≡ k ∷ rest → IsFirstOf xs p from k rest
places_first xs p from k rest within is = places_first_in xs p (length xs - from) from k rest (omega arith) is

places_absent_in : (xs : List ℕ) (p d from r : ℕ) → from + d ≡ length xs → places_from xs p from ≡ [] → from ≤ r → r < length xs → get_or xs r 0 ≢ p
places_absent_in xs p zero from r e is l h = absurd (omega arith)
places_absent_in xs p (suc d) from r e is l h = elim (cases_Bool (eqb (get_or xs from 0) p)) [
  | inl same ↦ (let step = place_here xs p from (omega arith) same in absurd (cc (step, is)))
  | inr other ↦ elim (cases_eq from r) [
    | inl this ↦ (λ same. eqb-false (get_or xs from 0) p other (ap (λ i. get_or xs i 0) this ∙ same))
    | inr that ↦ places_absent_in xs p d (from + 1) r (omega arith) (sym (place_other xs p from (omega arith) other) ∙ is) (omega arith) h
  ]
]

pub places_absent : (xs : List ℕ) (p from r : ℕ) → from ≤ length xs → places_from xs p from ≡ [] → from ≤ r → r < length xs → get_or xs r 0 ≢ p
places_absent xs p from r within is l h = places_absent_in xs p (length xs - from) from r (omega arith) is l h

-- behind a row begins the next
pub begins_next : (parts : PlaneParts) (k first after : ℕ) → KeepsRules parts → k < length parts.pair_ends → IsRow parts.object_ends k first after → BeginsAt parts.object_ends (k + 1) after
begins_next parts k first after kept within row =
    let last : row_of parts.object_ends (after - 1) ≡ k = row.inside (after - 1) (omega (arith, row.some)) (omega (arith, row.some)) in
    let step = rank-mono parts.object_ends (after - 1) after (omega arith) in
    record {
      within = row.within;
      before = λ j h. elim (cases_lt j first) [
        | inl low ↦ (let less = row_before parts.object_ends k first after j row low in omega arith)
        | inr not ↦ (let here = row.inside j not h in omega arith)
      ];
      here = elim (cases_lt after (length parts.object_ends)) [
        | inl more ↦ (let up = row_behind parts.object_ends k first after after row (omega arith) more in omega (arith, step.1, row.some))
        | inr end ↦ (let all = rank_whole parts.object_ends after end in omega (arith, step.1, row.some, all, kept.pair_rows))
      ];
    }

-- the walk goes on to the first triple of the next pair
pub record IsStep (parts : PlaneParts) (rest : List ℕ) (p place s first after : ℕ) : Type 0 where
  pub within : first < length parts.object_ends
  pub step : with_predicate parts p place ≡ record { s = s; p = p; o = get_or parts.pair_objects first 0 } ∷ with_predicate parts p (first + 1)
  pub stands : StandsInPair parts rest p (first + 1) after s

pub next_pair : (parts : PlaneParts) (places rest : List ℕ) (p place end s pair first after new : ℕ) → StandsInPair parts places p place end s → end ≤ place → places ≡ pair ∷ rest
    → IsRow parts.object_ends pair first after → new ≡ get_or parts.subjects (row_of parts.pair_ends pair) 0 → IsStep parts rest p place new first after
next_pair parts places rest p place end s pair first after new stands passed is row subject =
    let kept = stands.kept in
    let place_is : end ≡ place = omega (arith, stands.ordered) in
    let head = places_first parts.pair_predicates p stands.pair pair rest stands.pairs (sym stands.later ∙ is) in
    let here : row_of parts.object_ends first ≡ pair = row.inside first (omega arith) row.some in
    let begin : end ≤ first = elim (cases_lt first end) [
      | inr not ↦ not
      | inl before ↦ (let less = stands.begins.before first before in absurd (omega (arith, head.low)))
    ] in
    let inside : first < length parts.object_ends = omega (arith, row.some, row.within) in
    let p_at : (j : ℕ) → first ≤ j → j < after → p ≡ (triple_at parts j).p = λ j l h. sym head.here ∙ ap (λ k. get_or parts.pair_predicates k 0) (sym (row.inside j l h)) in
    let s_at : (j : ℕ) → first ≤ j → j < after → new ≡ (triple_at parts j).s = λ j l h. subject ∙ ap (λ k. (pair_at parts k).0) (sym (row.inside j l h)) in
    record {
      within = inside;
      step =
          predicate_skip parts p place first (omega arith) (omega arith)
          (λ j l h.
          (let mono = rank-mono parts.object_ends end j (omega arith) in
          head.before (row_of parts.object_ends j) (omega (arith, mono.0, stands.begins.here)) (row_before parts.object_ends pair first after j row h)))
          ∙ predicate_meet parts p first inside (sym (p_at first (omega arith) row.some))
          ∙ ap (λ t. t ∷ with_predicate parts p (first + 1)) (sym (same_triple (record { s = new; p = p; o = get_or parts.pair_objects first 0 }) (triple_at parts first) (s_at first (omega arith) row.some) (p_at first (omega arith) row.some) refl));
      stands = record {
        kept = stands.kept;
        pair = pair + 1;
        pairs = omega (arith, head.within);
        later = head.later;
        ordered = omega (arith, row.some);
        begins = begins_next parts pair first after stands.kept (omega (arith, head.within, kept.predicates_counted)) row;
        subject = λ j l h. s_at j (omega arith) h;
        predicate = λ j l h. p_at j (omega arith) h;
      };
    }

-- the walk ends with the pairs
pub no_pair : (parts : PlaneParts) (places : List ℕ) (p place end s : ℕ) → StandsInPair parts places p place end s → end ≤ place → places ≡ [] → with_predicate parts p place ≡ []
no_pair parts places p place end s stands passed none =
    let kept = stands.kept in
    let place_is : end ≡ place = omega (arith, stands.ordered) in
    predicate_none parts p place (omega (arith, stands.begins.within))
    (λ j l h.
    (let mono = rank-mono parts.object_ends end j (omega arith) in
    places_absent parts.pair_predicates p stands.pair (row_of parts.object_ends j) stands.pairs (sym stands.later ∙ none) (omega (arith, mono.0, stands.begins.here))
    (omega (arith, pair_within parts j stands.kept h, kept.predicates_counted))))

-- or stays in its pair
pub same_pair_next : (parts : PlaneParts) (places : List ℕ) (p place end s o : ℕ) → StandsInPair parts places p place end s → place < end → o ≡ get_or parts.pair_objects place 0
    → with_predicate parts p place ≡ record { s = s; p = p; o = o } ∷ with_predicate parts p (place + 1)
same_pair_next parts places p place end s o stands h object =
    predicate_meet parts p place (omega (arith, stands.begins.within)) (sym (stands.predicate place (omega arith) h))
    ∙ ap (λ t. t ∷ with_predicate parts p (place + 1)) (sym (same_triple (record { s = s; p = p; o = o }) (triple_at parts place) (stands.subject place (omega arith) h) (stands.predicate place (omega arith) h) object))

-- a walk that begins behind all triples
pub stands_behind : (parts : PlaneParts) (p place len : ℕ) → KeepsRules parts → place ≡ length parts.object_ends → len ≡ length parts.pair_predicates
    → StandsInPair parts (places_from parts.pair_predicates p len) p place place 0
stands_behind parts p place len kept end all = record {
  kept = kept;
  pair = len;
  pairs = omega arith;
  later = refl;
  ordered = omega arith;
  begins = record {
    within = omega arith;
    before = λ j h. (let within = pair_within parts j kept (omega arith) in omega (arith, kept.predicates_counted));
    here = (let whole = rank_whole parts.object_ends place (omega arith) in omega (arith, kept.pair_rows, kept.predicates_counted));
  };
  subject = λ j l h. absurd (omega arith);
  predicate = λ j l h. absurd (omega arith);
}

-- one that begins within a pair, of the predicate or another
pub stands_within : (parts : PlaneParts) (p place pair first end s here from : ℕ) → KeepsRules parts → place < length parts.object_ends → pair ≡ row_of parts.object_ends place
    → IsRow parts.object_ends pair first end → s ≡ (pair_at parts pair).0 → here ≡ (pair_at parts pair).1 → ((here ≡ p) × (from ≡ place)) ⊎ (from ≡ end)
    → StandsInPair parts (places_from parts.pair_predicates p (pair + 1)) p from end s
stands_within parts p place pair first end s here from kept within pair_is row subject predicate choice =
    let only = row.only place within (sym pair_is) in
    let pair_low : pair < length parts.pair_ends = omega (arith, pair_within parts place kept within) in
    record {
      kept = kept;
      pair = pair + 1;
      pairs = omega (arith, kept.predicates_counted);
      later = refl;
      ordered = elim choice [
        | inl this ↦ omega (arith, this.1, only.1)
        | inr that ↦ omega arith
      ];
      begins = begins_next parts pair first end kept pair_low row;
      subject = λ j l h. elim choice [
        | inl this ↦ subject ∙ ap (λ k. (pair_at parts k).0) (sym (row.inside j (omega (arith, this.1, only.0)) h))
        | inr that ↦ absurd (omega arith)
      ];
      predicate = λ j l h. elim choice [
        | inl this ↦ sym this.0 ∙ predicate ∙ ap (λ k. (pair_at parts k).1) (sym (row.inside j (omega (arith, this.1, only.0)) h))
        | inr that ↦ absurd (omega arith)
      ];
    }

-- what is left of the pair is passed over, where it has another predicate
pub pair_skip : (parts : PlaneParts) (p place pair first end here : ℕ) → place < length parts.object_ends → pair ≡ row_of parts.object_ends place
    → IsRow parts.object_ends pair first end → here ≡ (pair_at parts pair).1 → here ≢ p → with_predicate parts p end ≡ with_predicate parts p place
pair_skip parts p place pair first end here within pair_is row predicate other =
    let only = row.only place within (sym pair_is) in
    sym (predicate_skip parts p place end (omega (arith, only.1)) row.within
    (λ j l h. λ same. other (predicate ∙ ap (λ k. (pair_at parts k).1) (sym (row.inside j (omega (arith, only.0)) h)) ∙ same)))
