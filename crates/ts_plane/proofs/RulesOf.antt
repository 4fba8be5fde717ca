-- The lists of a rising list of triples keep the rules.
use Rattle.std.proofs.Common.{◌≡◌, ℕ, suc, ◌+◌, ◌<◌, Bool, true, false, eqb, List, [], ◌∷◌, length, map, get_or, refl, sym, ap, ◌∙◌, arith, inl, inr}
use Rattle.std.proofs.lemmas.Bool.{cases_Bool, cases_eq, cond-true, cond-false, eqb-true, eq-eqb, ne_eqb, not-false}
use Rattle.std.proofs.lemmas.List.{get_or-map, length-append, length-map}
use Rattle.std.proofs.lemmas.List.FromFn.{fill_by_all}
use Rattle.std.specs.List.{dedup, filter, flat_map}
use Rattle.ts_bits.specs.Rank.{rank}
use Rattle.ts_bits.proofs.Ranks.{digit_of, rank_more}
use Rattle.ts_adjacency.specs.Adjacency.{edge_at, edges}
use Rattle.ts_plane.specs.declared.triple.IdTriple.{IdTriple}
use Rattle.ts_plane.specs.Triple.{IsPlaneList}
use Rattle.ts_plane.specs.Groups.{last_marks}
use Rattle.ts_plane.specs.Turned.{lefts, rising_of, turned}
use Rattle.ts_plane.specs.Parts.{pair_of, pairs_of, pair_edges, parts_of, same_pair}
use Rattle.ts_plane.specs.Rules.{RisesInRows}
use Rattle.ts_plane.specs.Kept.{KeepsRules}
use Rattle.ts_plane.proofs.GroupMembers.{length-last_marks, mark_at, dedup_rises, dedup_count, marks_closed}
use Rattle.ts_plane.proofs.Members.{In, Rises, in_map, rises_map, rises_at}
use Rattle.ts_plane.proofs.Orders.{Before, NotAbove, rises_triples, rises_pairs, same_is, apart_below, below_then, no_triple}
use Rattle.ts_plane.proofs.PartLemmas.{AtMost, distinct_rises, distinct_rights, subjects_are, edge_objects_are}
use Rattle.ts_plane.proofs.PlaceLemmas.{length-pair_edges, pair_edge_at, edges_forward}
use Rattle.ts_plane.proofs.TurnedLemmas.{Less, Below, in_rising_of, rises_rising_of}

-- neighbours in one group have one key
marks_same : {K : Type 0} (same : K → K → Bool) (xs : List K) (j : ℕ) (d : K) → j + 1 < length xs → rank (last_marks same xs) j ≡ rank (last_marks same xs) (j + 1)
    → same (get_or xs (j + 1) d) (get_or xs j d) ≡ true
marks_same same xs j d h still =
    let long = length-last_marks same xs in
    let more = rank_more (last_marks same xs) j (omega arith) in
    let mark = mark_at same xs j d h in
    elim (cases_Bool (get_or (last_marks same xs) j false)) [
      | inr none ↦ not-false (same (get_or xs (j + 1) d) (get_or xs j d)) (sym mark ∙ none)
      | inl one ↦ (let digit : digit_of (get_or (last_marks same xs) j false) ≡ 1 = ap digit_of one in absurd (omega arith))
    ]

-- edges of one right side, one edge more
lefts_same : (e : ℕ × ℕ) (es : List (ℕ × ℕ)) (r : ℕ) → e.1 ≡ r → lefts (e ∷ es) r ≡ e.0 ∷ lefts es r
unfolding lefts
lefts_same e es r h = ap (map (λ (edge : ℕ × ℕ). edge.0)) (cond-true (eqb e.1 r) (e ∷ filter (λ (edge : ℕ × ℕ). eqb edge.1 r) es) (filter (λ (edge : ℕ × ℕ). eqb edge.1 r) es) (eq-eqb e.1 r h))

lefts_other : (e : ℕ × ℕ) (es : List (ℕ × ℕ)) (r : ℕ) → (e.1 ≡ r → ⊥) → lefts (e ∷ es) r ≡ lefts es r
unfolding lefts
lefts_other e es r h = ap (map (λ (edge : ℕ × ℕ). edge.0)) (cond-false (eqb e.1 r) (e ∷ filter (λ (edge : ℕ × ℕ). eqb edge.1 r) es) (filter (λ (edge : ℕ × ℕ). eqb edge.1 r) es) (ne_eqb e.1 r h))

-- for each right side it with its left sides
abbrev rows_of : List (ℕ × ℕ) → List ℕ → List (ℕ × ℕ)
rows_of es rs = flat_map (λ right. map (λ left. (right, left)) (lefts es right)) rs

length-rows_of : (es : List (ℕ × ℕ)) (r : ℕ) (rs : List ℕ) → length (rows_of es (r ∷ rs)) ≡ length (lefts es r) + length (rows_of es rs)
length-rows_of es r rs =
    let one = length-map (lefts es r) (λ left. (r, left)) in
    length-append (map (λ left. (r, left)) (lefts es r)) (rows_of es rs) ∙ ap (λ n. n + length (rows_of es rs)) one

-- an edge whose right side is below all adds none
rows_above : (e : ℕ × ℕ) (es : List (ℕ × ℕ)) (rs : List ℕ) → ((r : ℕ) → In r rs → e.1 < r) → length (rows_of (e ∷ es) rs) ≡ length (rows_of es rs)
rows_above e es [] above = refl
rows_above e es (r ∷ rs) above =
    let up = above r (inl refl) in
    let rest = rows_above e es rs (λ s h. above s (inr h)) in
    let same = ap length (lefts_other e es r (λ h. omega arith)) in
    omega (arith, length-rows_of (e ∷ es) r rs, length-rows_of es r rs)

-- and one whose right side is there adds one
rows_more : (e : ℕ × ℕ) (es : List (ℕ × ℕ)) (rs : List ℕ) → Rises Less rs → In e.1 rs → length (rows_of (e ∷ es) rs) ≡ suc (length (rows_of es rs))
rows_more e es [] rises there = absurd there
rows_more e es (r ∷ rs) rises there = elim (cases_eq e.1 r) [
  | inl same ↦
      let rest = rows_above e es rs (λ s h. (let up = rises.0 s h in omega arith)) in
      let more = ap length (lefts_same e es r same) in
      omega (arith, length-rows_of (e ∷ es) r rs, length-rows_of es r rs)
  | inr other ↦ elim there [
    | inl here ↦ absurd (other here)
    | inr later ↦
        let rest = rows_more e es rs rises.1 later in
        let same = ap length (lefts_other e es r other) in
        omega (arith, length-rows_of (e ∷ es) r rs, length-rows_of es r rs)
  ]
]

rows_none : (rs : List ℕ) → length (rows_of [] rs) ≡ 0
unfolding lefts
rows_none [] = refl
rows_none (r ∷ rs) = rows_none rs

rows_all : (es : List (ℕ × ℕ)) (rs : List ℕ) → Rises Less rs → ((e : ℕ × ℕ) → In e es → In e.1 rs) → length (rows_of es rs) ≡ length es
rows_all [] rs rises all = rows_none rs
rows_all (e ∷ es) rs rises all = rows_more e es rs rises (all e (inl refl)) ∙ ap suc (rows_all es rs rises (λ f h. all f (inr h)))

-- edges turned around are as many
pub length-turned : (es : List (ℕ × ℕ)) → length (turned es) ≡ length es
unfolding turned
length-turned es =
    rows_all es (rising_of (map (λ (edge : ℕ × ℕ). edge.1) es)) (rises_rising_of (map (λ (edge : ℕ × ℕ). edge.1) es))
    (λ e h. in_rising_of e.1 (map (λ (edge : ℕ × ℕ). edge.1) es) (in_map (λ (edge : ℕ × ℕ). edge.1) e es h))

-- the edges of the lists are those of the triples
edges_are : (triples : List IdTriple) → IsPlaneList triples
    → edges (record { ends = last_marks same_pair (map pair_of triples); rights = map (λ (t : IdTriple). t.o) triples }) ≡ pair_edges triples
unfolding edges
edges_are triples list =
    let marks = last_marks same_pair (map pair_of triples) in
    let long : length (last_marks same_pair (map pair_of triples)) ≡ length triples = length-last_marks same_pair (map pair_of triples) ∙ length-map triples pair_of in
    sym (fill_by_all (edge_at (record { ends = last_marks same_pair (map pair_of triples); rights = map (λ (t : IdTriple). t.o) triples })) (pair_edges triples) (length (last_marks same_pair (map pair_of triples))) (0, 0)
    (length-pair_edges triples ∙ sym long)
    (λ k h.
    (let within : k < length triples = omega arith in
    pair_edge_at triples k list.rising within
    ∙ ap (λ o. (rank (last_marks same_pair (map pair_of triples)) k, o)) (sym (get_or-map (λ (t : IdTriple). t.o) triples k no_triple 0 within)))))

-- pairs of one subject have rising predicates
predicates_rise : (triples : List IdTriple) → IsPlaneList triples
    → RisesInRows (last_marks eqb (map (λ (pair : ℕ × ℕ). pair.0) (pairs_of triples))) (map (λ (pair : ℕ × ℕ). pair.1) (pairs_of triples))
unfolding pairs_of
predicates_rise triples list = λ j h still.
    (let pairs = dedup same_pair (map pair_of triples) in
    let long = length-map (dedup same_pair (map pair_of triples)) (λ (pair : ℕ × ℕ). pair.1) in
    let long_s = length-map (dedup same_pair (map pair_of triples)) (λ (pair : ℕ × ℕ). pair.0) in
    let same = marks_same eqb (map (λ (pair : ℕ × ℕ). pair.0) (dedup same_pair (map pair_of triples))) j 0 (omega arith) still in
    let rises = dedup_rises same_pair NotAbove Below apart_below below_then (map pair_of triples) (rises_pairs triples list.rising) in
    let below = rises_at Below (dedup same_pair (map pair_of triples)) (0, 0) j (j + 1) rises (omega arith) (omega arith) in
    let s_here = get_or-map (λ (pair : ℕ × ℕ). pair.0) (dedup same_pair (map pair_of triples)) j (0, 0) 0 (omega arith) in
    let s_next = get_or-map (λ (pair : ℕ × ℕ). pair.0) (dedup same_pair (map pair_of triples)) (j + 1) (0, 0) 0 (omega arith) in
    let p_here = get_or-map (λ (pair : ℕ × ℕ). pair.1) (dedup same_pair (map pair_of triples)) j (0, 0) 0 (omega arith) in
    let p_next = get_or-map (λ (pair : ℕ × ℕ). pair.1) (dedup same_pair (map pair_of triples)) (j + 1) (0, 0) 0 (omega arith) in
    let equal = eqb-true (get_or (map (λ (pair : ℕ × ℕ). pair.0) (dedup same_pair (map pair_of triples))) (j + 1) 0) (get_or (map (λ (pair : ℕ × ℕ). pair.0) (dedup same_pair (map pair_of triples))) j 0) same in
    let less = below.1 (omega arith) in
    omega arith)

-- triples of one pair have rising objects
objects_rise : (triples : List IdTriple) → IsPlaneList triples → RisesInRows (last_marks same_pair (map pair_of triples)) (map (λ (t : IdTriple). t.o) triples)
objects_rise triples list = λ j h still.
    (let long = length-map triples (λ (t : IdTriple). t.o) in
    let long_p = length-map triples pair_of in
    let same = same_is (get_or (map pair_of triples) (j + 1) (0, 0)) (get_or (map pair_of triples) j (0, 0)) (marks_same same_pair (map pair_of triples) j (0, 0) (omega arith) still) in
    let here = get_or-map pair_of triples j no_triple (0, 0) (omega arith) in
    let next = get_or-map pair_of triples (j + 1) no_triple (0, 0) (omega arith) in
    let equal : pair_of (get_or triples j no_triple) ≡ pair_of (get_or triples (j + 1) no_triple) = sym here ∙ sym same ∙ next in
    let before = rises_at Before triples no_triple j (j + 1) (rises_triples triples list.rising) (omega arith) (omega arith) in
    let less = before.object (ap (λ (pair : ℕ × ℕ). pair.0) equal) (ap (λ (pair : ℕ × ℕ). pair.1) equal) in
    let o_here = get_or-map (λ (t : IdTriple). t.o) triples j no_triple 0 (omega arith) in
    let o_next = get_or-map (λ (t : IdTriple). t.o) triples (j + 1) no_triple 0 (omega arith) in
    omega arith)

-- subjects rise
subjects_rise : (triples : List IdTriple) → IsPlaneList triples → (k : ℕ) → k + 1 < length (dedup eqb (map (λ (t : IdTriple). t.s) triples))
    → get_or (dedup eqb (map (λ (t : IdTriple). t.s) triples)) k 0 < get_or (dedup eqb (map (λ (t : IdTriple). t.s) triples)) (k + 1) 0
subjects_rise triples list k h =
    rises_at Less (dedup eqb (map (λ (t : IdTriple). t.s) triples)) 0 k (k + 1)
    (distinct_rises (map (λ (t : IdTriple). t.s) triples) (rises_map Before AtMost (λ (t : IdTriple). t.s) triples (λ x y _ _ before. before.subject) (rises_triples triples list.rising)))
    (omega arith) h

pub rules_of : (triples : List IdTriple) → IsPlaneList triples → KeepsRules (parts_of triples)
unfolding parts_of pairs_of
rules_of triples list =
    let pairs = dedup same_pair (map pair_of triples) in
    let firsts = map (λ (pair : ℕ × ℕ). pair.0) (dedup same_pair (map pair_of triples)) in
    let pairs_long : length (last_marks eqb (map (λ (pair : ℕ × ℕ). pair.0) (dedup same_pair (map pair_of triples)))) ≡ length (dedup same_pair (map pair_of triples)) =
    length-last_marks eqb (map (λ (pair : ℕ × ℕ). pair.0) (dedup same_pair (map pair_of triples))) ∙ length-map (dedup same_pair (map pair_of triples)) (λ (pair : ℕ × ℕ). pair.0) in
    let triples_long : length (last_marks same_pair (map pair_of triples)) ≡ length triples = length-last_marks same_pair (map pair_of triples) ∙ length-map triples pair_of in
    let turned_long : length (last_marks eqb (map (λ (edge : ℕ × ℕ). edge.0) (turned (pair_edges triples)))) ≡ length triples =
    length-last_marks eqb (map (λ (edge : ℕ × ℕ). edge.0) (turned (pair_edges triples))) ∙ length-map (turned (pair_edges triples)) (λ (edge : ℕ × ℕ). edge.0)
    ∙ length-turned (pair_edges triples) ∙ length-pair_edges triples in
    record {
      subjects_rise = subjects_rise triples list;
      subject_rows = sym (dedup_count eqb eqb-true (map (λ (pair : ℕ × ℕ). pair.0) (dedup same_pair (map pair_of triples)))) ∙ ap length (subjects_are triples list.rising);
      pairs_closed = marks_closed eqb (map (λ (pair : ℕ × ℕ). pair.0) (dedup same_pair (map pair_of triples)));
      predicates_counted = length-map (dedup same_pair (map pair_of triples)) (λ (pair : ℕ × ℕ). pair.1) ∙ sym pairs_long;
      predicates_rise = predicates_rise triples list;
      pair_rows = sym (dedup_count same_pair same_is (map pair_of triples)) ∙ sym pairs_long;
      triples_closed = marks_closed same_pair (map pair_of triples);
      objects_counted = length-map triples (λ (t : IdTriple). t.o) ∙ sym triples_long;
      objects_rise = objects_rise triples list;
      objects = refl;
      object_rows = sym (dedup_count eqb eqb-true (map (λ (edge : ℕ × ℕ). edge.0) (turned (pair_edges triples))))
          ∙ ap length (distinct_rights (pair_edges triples) (edges_forward triples list.rising) ∙ ap rising_of (edge_objects_are triples));
      by_object_long = turned_long ∙ sym triples_long;
      by_object_closed = marks_closed eqb (map (λ (edge : ℕ × ℕ). edge.0) (turned (pair_edges triples)));
      by_object_rows = ap (λ es. last_marks eqb (map (λ (edge : ℕ × ℕ). edge.0) (turned es))) (sym (edges_are triples list));
      by_object = ap (λ es. map (λ (edge : ℕ × ℕ). edge.1) (turned es)) (sym (edges_are triples list));
    }
