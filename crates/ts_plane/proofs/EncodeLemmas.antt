-- Lists that keep the rules are those of the triples that they hold.
use Rattle.std.proofs.Common.{◌≡◌, ℕ, ◌<◌, Bool, inl, inr, List, [], ◌∷◌, map, length, get_or, slice_index, refl, sym, ◌∙◌, ap, subst, arith, All, Less}
use Rattle.std.specs.List.{dedup, range_with_len}
use Rattle.std.proofs.lemmas.Bool.{cases_lt}
use Rattle.std.proofs.lemmas.List.FromFn.{length-map-range_with_len, get_or-map-range_with_len}
use Rattle.std.proofs.lemmas.Simd.{map-map}
use Rattle.ts_bits.specs.Rank.{ones}
use Rattle.ts_bits.proofs.Ranks.{rank-mono}
use Rattle.ts_adjacency.specs.Rows.{IsClosed, row_of}
use Rattle.ts_adjacency.specs.Adjacency.{Adjacency}
use Rattle.ts_adjacency.proofs.RowLemmas.{row_within}
use Rattle.ts_plane.specs.Parts.{PlaneParts, pair_of, same_pair, pairs_of}
use Rattle.ts_plane.specs.Decoded.{triple_at, triples_in}
use Rattle.ts_plane.specs.Rules.{KeepsBefore}
use Rattle.ts_plane.specs.declared.triple.IdTriple.{IdTriple}
use Rattle.ts_plane.specs.Triple.{triple_cmp, IsRising, IsPositive, IsPlaneList}
use Rattle.ts_plane.proofs.DecodedLemmas.{length-triples_in, triple_of}
use Rattle.std.specs.List.{AllByRecursion}
use Rattle.std.specs.List.Sorted.{IsStrictlySortedBy}
use Rattle.ts_plane.proofs.Members.{In, Rises, IsAt, in_at, at_in, rises_at, rises_from_places, rising_same}
use Rattle.ts_plane.proofs.TurnedLemmas.{Below, below_asym}
use Rattle.ts_plane.proofs.Orders.{NotAbove, Before, no_triple, cmp_before, same_is, apart_below, below_then}
use Rattle.ts_plane.proofs.GroupMembers.{from_dedup, in_dedup, dedup_rises}
use Rattle.ts_plane.proofs.RunLemmas.{IsInRow, by_rows, by_rows_at, length-by_rows, row_values, row_place}
use Rattle.ts_plane.proofs.Hints.{rises_later, AreRows, hint_at, hints, hint_of, length-hints, rises_hints}

-- the pairs' rows
abbrev pub pair_rows : PlaneParts → Adjacency
pair_rows parts = record { ends = parts.pair_ends; rights = parts.pair_predicates }

pub pairs_are_rows : (sections : List (List ℕ)) (terms predicates : ℕ) (parts : PlaneParts) → KeepsBefore sections terms predicates parts 8 → AreRows parts.subjects (pair_rows parts)
pairs_are_rows sections terms predicates parts keeps =
    let subjects = keeps.subjects (omega arith) in
    let ends = keeps.pair_ends (omega arith) in
    let symbols = keeps.pair_predicates (omega arith) in
    record { whole = record { closed = ends.closed; paired = sym symbols.counted }; counted = ends.counted; increasing = subjects.rising; rising = symbols.rising }

-- the distinct values of rows, where these rise
pub distinct_rows : (f : ℕ → ℕ × ℕ) (ends : List Bool) → IsClosed ends → Rises Below (row_values f ends) → dedup same_pair (by_rows f ends) ≡ row_values f ends
distinct_rows f ends closed rises =
    let long = length-map-range_with_len f 0 (ones ends) in
    let row_at : (i : ℕ) → i < ones ends → get_or (row_values f ends) i (0, 0) ≡ f i = λ i h. get_or-map-range_with_len f 0 (ones ends) i i (0, 0) h (omega arith) in
    let fall : Rises NotAbove (by_rows f ends) = rises_from_places NotAbove (by_rows f ends) (0, 0) (λ i j low high.
    (let inside : j < length ends = omega (arith, length-by_rows f ends) in
    let a = by_rows_at f ends i (0, 0) (omega arith) in
    let b = by_rows_at f ends j (0, 0) inside in
    let mono = rank-mono ends i j (omega arith) in
    let row = row_within ends j closed inside in
    let here : NotAbove (f (row_of ends i)) (f (row_of ends j)) = elim (cases_lt (row_of ends i) (row_of ends j)) [
      | inl less ↦
          (let up : Below (f (row_of ends i)) (f (row_of ends j)) = subst (λ x. Below x (f (row_of ends j))) (row_at (row_of ends i) (omega (arith, less, row)))
          (subst (Below (get_or (row_values f ends) (row_of ends i) (0, 0))) (row_at (row_of ends j) row)
          (rises_at Below (row_values f ends) (0, 0) (row_of ends i) (row_of ends j) rises less (omega (arith, long, row)))) in
          (up.0, (λ e. (let more = up.1 e in omega (arith, more)))))
      | inr not ↦
          (let same : row_of ends i ≡ row_of ends j = omega (arith, mono.0, not) in
          subst (λ k. NotAbove (f (row_of ends i)) (f k)) same (omega arith, (λ e. omega arith)))
    ] in
    subst (λ x. NotAbove x (get_or (by_rows f ends) j (0, 0))) (sym a) (subst (NotAbove (f (row_of ends i))) (sym b) here))) in
    rising_same Below below_asym (dedup same_pair (by_rows f ends)) (row_values f ends) (dedup_rises same_pair NotAbove Below apart_below below_then (by_rows f ends) fall) rises
    (λ x h.
    (let there : IsAt (by_rows f ends) x (0, 0) = at_in x (by_rows f ends) (0, 0) (from_dedup same_pair x (by_rows f ends) h) in
    let within : there.place < length ends = omega (arith, length-by_rows f ends, there.within) in
    let row = row_within ends there.place closed within in
    subst (λ y. In y (row_values f ends)) (row_at (row_of ends there.place) row ∙ sym (by_rows_at f ends there.place (0, 0) within) ∙ there.is)
    (in_at (row_values f ends) (row_of ends there.place) (0, 0) (omega (arith, long, row)))))
    (λ x h.
    (let there : IsAt (row_values f ends) x (0, 0) = at_in x (row_values f ends) (0, 0) h in
    let within : there.place < ones ends = omega (arith, long, there.within) in
    let row : IsInRow ends there.place = row_place ends there.place within in
    in_dedup same_pair same_is x (by_rows f ends)
    (subst (λ y. In y (by_rows f ends)) (by_rows_at f ends row.place (0, 0) row.within ∙ ap f row.row ∙ sym (row_at there.place within) ∙ there.is)
    (in_at (by_rows f ends) row.place (0, 0) (omega (arith, length-by_rows f ends, row.within))))))

-- so the pairs of the triples are those of the rows
pub pairs_there : (sections : List (List ℕ)) (terms predicates : ℕ) (parts : PlaneParts) → KeepsBefore sections terms predicates parts 8
    → pairs_of (triples_in parts) ≡ hints parts.subjects (pair_rows parts)
unfolding pairs_of triples_in
pairs_there sections terms predicates parts keeps =
    let rows = pairs_are_rows sections terms predicates parts keeps in
    let ends = keeps.object_ends (omega arith) in
    let f : ℕ → ℕ × ℕ = hint_at parts.subjects (pair_rows parts) in
    let all : row_values (hint_at parts.subjects (pair_rows parts)) parts.object_ends ≡ hints parts.subjects (pair_rows parts) =
    ap (λ n. map (hint_at parts.subjects (pair_rows parts)) (range_with_len 0 n)) ends.counted in
    ap (dedup same_pair) (map-map pair_of (triple_at parts) (range_with_len 0 (length parts.object_ends)))
    ∙ distinct_rows (hint_at parts.subjects (pair_rows parts)) parts.object_ends ends.closed (subst (Rises Below) (sym all) (rises_hints parts.subjects (pair_rows parts) rows))
    ∙ all

-- the triples rise
pub triples_rise : (sections : List (List ℕ)) (terms predicates : ℕ) (parts : PlaneParts) → KeepsBefore sections terms predicates parts 8
    → Rises Before (triples_in parts)
triples_rise sections terms predicates parts keeps =
    let rows = pairs_are_rows sections terms predicates parts keeps in
    let ends = keeps.object_ends (omega arith) in
    let objects = keeps.pair_objects (omega arith) in
    let pair_rise = rises_hints parts.subjects (pair_rows parts) rows in
    let pairs_long = length-hints parts.subjects (pair_rows parts) in
    rises_from_places Before (triples_in parts) no_triple (λ i j low high.
    (let inside : j < length parts.object_ends = omega (arith, length-triples_in parts) in
    let a = triple_of parts i no_triple (omega arith) in
    let b = triple_of parts j no_triple inside in
    let mono = rank-mono parts.object_ends i j (omega arith) in
    let row = row_within parts.object_ends j ends.closed inside in
    let here : Before (triple_at parts i) (triple_at parts j) = elim (cases_lt (row_of parts.object_ends i) (row_of parts.object_ends j)) [
      | inl less ↦
          (let up : Below (hint_at parts.subjects (pair_rows parts) (row_of parts.object_ends i)) (hint_at parts.subjects (pair_rows parts) (row_of parts.object_ends j)) =
          subst (λ x. Below x (hint_at parts.subjects (pair_rows parts) (row_of parts.object_ends j))) (hint_of parts.subjects (pair_rows parts) (row_of parts.object_ends i) (omega (arith, less, row, ends.counted)))
          (subst (Below (get_or (hints parts.subjects (pair_rows parts)) (row_of parts.object_ends i) (0, 0))) (hint_of parts.subjects (pair_rows parts) (row_of parts.object_ends j) (omega (arith, row, ends.counted)))
          (rises_at Below (hints parts.subjects (pair_rows parts)) (0, 0) (row_of parts.object_ends i) (row_of parts.object_ends j) pair_rise less (omega (arith, pairs_long, row, ends.counted)))) in
          record { subject = up.0; predicate = λ e. (let more = up.1 e in omega (arith, more)); object = λ e f. (let more = up.1 e in absurd (omega (arith, more, f))) })
      | inr not ↦
          (let same : row_of parts.object_ends i ≡ row_of parts.object_ends j = omega (arith, mono.0, not) in
          let up = rises_later parts.object_ends parts.pair_objects i j objects.rising low (omega (arith, objects.counted)) same in
          let s = ap (λ k. slice_index parts.subjects (row_of parts.pair_ends k)) same in
          let p = ap (λ k. slice_index parts.pair_predicates k) same in
          record { subject = omega (arith, s); predicate = λ _. omega (arith, p); object = λ _ _. up })
    ] in
    subst (λ x. Before x (get_or (triples_in parts) j no_triple)) (sym a) (subst (Before (triple_at parts i)) (sym b) here)))

-- rising triples are sorted
pub sorted_triples : (triples : List IdTriple) → Rises Before triples → IsRising triples
unfolding IsStrictlySortedBy
sorted_triples [] r = tt
sorted_triples (t ∷ triples) r = (above triples r.0, sorted_triples triples r.1)
  where
    above : (rest : List IdTriple) → ((u : IdTriple) → In u rest → Before t u) → AllByRecursion (λ u. triple_cmp t u ≡ Less) rest
    above [] h = tt
    above (u ∷ rest) h = (cmp_before t u (h u (inl refl)), above rest (λ v i. h v (inr i)))

-- and their numbers are at least 1
pub triples_positive : (sections : List (List ℕ)) (terms predicates : ℕ) (parts : PlaneParts) → KeepsBefore sections terms predicates parts 8
    → All IsPositive (triples_in parts)
triples_positive sections terms predicates parts keeps = λ j d h.
    let inside : j < length parts.object_ends = omega (arith, length-triples_in parts) in
    let ends = keeps.object_ends (omega arith) in
    let pair_ends = keeps.pair_ends (omega arith) in
    let symbols = keeps.pair_predicates (omega arith) in
    let objects = keeps.pair_objects (omega arith) in
    let row = row_within parts.object_ends j ends.closed inside in
    let subject_row = row_within parts.pair_ends (row_of parts.object_ends j) pair_ends.closed (omega (arith, row, ends.counted)) in
    subst IsPositive (sym (triple_of parts j d inside)) (record {
      subject = ((keeps.subjects (omega arith)).bounded (row_of parts.pair_ends (row_of parts.object_ends j)) 0 (omega (arith, subject_row, pair_ends.counted))).0;
      predicate = (symbols.bounded (row_of parts.object_ends j) 0 (omega (arith, row, ends.counted, symbols.counted))).0;
      object = (objects.bounded j 0 (omega (arith, inside, objects.counted))).0;
    })

pub plane_list : (sections : List (List ℕ)) (terms predicates : ℕ) (parts : PlaneParts) → KeepsBefore sections terms predicates parts 8
    → IsPlaneList (triples_in parts)
plane_list sections terms predicates parts keeps = record {
  rising = sorted_triples (triples_in parts) (triples_rise sections terms predicates parts keeps);
  positive = triples_positive sections terms predicates parts keeps;
}
