-- Lists that keep the rules are those of the triples that they hold: list by list.
use Rattle.std.proofs.Common.{◌≡◌, ℕ, ◌+◌, ◌<◌, List, map, length, get_or, slice_index, sym, ◌∙◌, ap, ap₂, subst, arith, nat_eq, eqb-true, eq-eqb, ne_eqb}
use Rattle.std.specs.List.{dedup, range_with_len}
use Rattle.std.proofs.lemmas.List.{length-map, get_or-map, ext_get_or}
use Rattle.std.proofs.lemmas.Simd.{map-map}
use Rattle.ts_bits.specs.Rank.{rank}
use Rattle.ts_adjacency.specs.Rows.{row_of}
use Rattle.ts_adjacency.specs.Adjacency.{Adjacency, edges}
use Rattle.ts_adjacency.proofs.RowLemmas.{row_within}
use Rattle.ts_adjacency.proofs.EdgeLemmas.{length-edges, edge_of}
use Rattle.ts_plane.specs.Groups.{last_marks}
use Rattle.ts_plane.specs.Turned.{turned, rising_of}
use Rattle.ts_plane.specs.Parts.{PlaneParts, pair_of, same_pair, pair_edges, parts_of}
use Rattle.ts_plane.specs.Decoded.{triple_at, triples_in}
use Rattle.ts_plane.specs.Rules.{KeepsBefore}
use Rattle.ts_plane.specs.declared.triple.IdTriple.{IdTriple}
use Rattle.ts_plane.proofs.DecodedLemmas.{length-triples_in, triple_of}
use Rattle.ts_plane.proofs.Members.{In, IsAt, IsMade, in_at, at_in, in_map, from_map, rises_at, rises_map, rising_same}
use Rattle.ts_plane.proofs.TurnedLemmas.{Less, Below, less_asym}
use Rattle.ts_plane.proofs.Orders.{no_triple, same_from, below_apart}
use Rattle.ts_plane.proofs.GroupMembers.{from_dedup, in_dedup}
use Rattle.ts_plane.proofs.ObjectSets.{rises_increasing}
use Rattle.ts_plane.proofs.PartLemmas.{AtMost, first, second, distinct_rises, subjects_are}
use Rattle.ts_plane.proofs.PlaceLemmas.{length-pair_edges, pair_edge_at}
use Rattle.ts_plane.proofs.RunLemmas.{IsInRow, row_place, run_marks}
use Rattle.ts_plane.proofs.Hints.{AreRows, hint_at, hints, hint_of, length-hints, rises_hints}
use Rattle.ts_plane.proofs.EncodeLemmas.{pair_rows, pairs_are_rows, pairs_there, plane_list}

pub distinct_lefts : (objects : List ℕ) (by : Adjacency) → AreRows objects by → dedup nat_eq (map first (hints objects by)) ≡ objects
distinct_lefts objects by is = rising_same Less less_asym (dedup nat_eq (map first (hints objects by))) objects
    (distinct_rises (map first (hints objects by)) (rises_map Below AtMost first (hints objects by) (λ a b _ _ below. below.0) (rises_hints objects by is)))
    (rises_increasing objects is.increasing)
    (λ x h.
    (let made : IsMade first (hints objects by) x = from_map first x (hints objects by) (from_dedup nat_eq x (map first (hints objects by)) h) in
    let there : IsAt (hints objects by) made.of (0, 0) = at_in made.of (hints objects by) (0, 0) made.inside in
    let within : there.place < length by.ends = omega (arith, length-hints objects by, there.within) in
    subst (λ y. In y objects) (ap first (sym (hint_of objects by there.place within) ∙ there.is) ∙ sym made.is)
    (in_at objects (row_of by.ends there.place) 0 (omega (arith, row_within by.ends there.place is.whole.closed within, is.counted)))))
    (λ x h.
    (let there : IsAt objects x 0 = at_in x objects 0 h in
    let row : IsInRow by.ends there.place = row_place by.ends there.place (omega (arith, there.within, is.counted)) in
    in_dedup nat_eq eqb-true x (map first (hints objects by))
    (subst (λ y. In y (map first (hints objects by))) (ap first (hint_of objects by row.place row.within) ∙ ap (slice_index objects) row.row ∙ there.is)
    (in_map first (get_or (hints objects by) row.place (0, 0)) (hints objects by) (in_at (hints objects by) row.place (0, 0) (omega (arith, length-hints objects by, row.within)))))))

pub left_marks : (objects : List ℕ) (by : Adjacency) → AreRows objects by → last_marks nat_eq (map first (hints objects by)) ≡ by.ends
left_marks objects by is =
    ap (last_marks nat_eq) (map-map first (hint_at objects by) (range_with_len 0 (length by.ends)))
    ∙ run_marks nat_eq (slice_index objects) by.ends 0 (λ a b e. eq-eqb a b e)
    (λ i h. (let up = is.increasing i (omega (arith, is.counted)) in ne_eqb (slice_index objects (i + 1)) (slice_index objects i) (λ e. omega (arith, up, e)))) is.whole.closed

pub right_numbers : (objects : List ℕ) (by : Adjacency) → AreRows objects by → map second (hints objects by) ≡ by.rights
right_numbers objects by is = ext_get_or 0 (map second (hints objects by)) by.rights
    (length-map (hints objects by) second ∙ length-hints objects by ∙ is.whole.paired)
    (λ i h. (let within : i < length (hints objects by) = omega (arith, length-map (hints objects by) second) in
    get_or-map second (hints objects by) i (0, 0) 0 within ∙ ap second (hint_of objects by i (omega (arith, length-hints objects by)))))

-- the marks of the triples' pairs
pub pair_marks : (sections : List (List ℕ)) (terms predicates : ℕ) (parts : PlaneParts) → KeepsBefore sections terms predicates parts 8
    → last_marks same_pair (map pair_of (triples_in parts)) ≡ parts.object_ends
unfolding triples_in
pair_marks sections terms predicates parts keeps =
    let rows = pairs_are_rows sections terms predicates parts keeps in
    let ends = keeps.object_ends (omega arith) in
    let rise = rises_hints parts.subjects (pair_rows parts) rows in
    let long = length-hints parts.subjects (pair_rows parts) in
    ap (last_marks same_pair) (map-map pair_of (triple_at parts) (range_with_len 0 (length parts.object_ends)))
    ∙ run_marks same_pair (hint_at parts.subjects (pair_rows parts)) parts.object_ends (0, 0) same_from
    (λ i h. below_apart (hint_at parts.subjects (pair_rows parts) i) (hint_at parts.subjects (pair_rows parts) (i + 1))
    (subst (λ x. Below x (hint_at parts.subjects (pair_rows parts) (i + 1))) (hint_of parts.subjects (pair_rows parts) i (omega (arith, ends.counted)))
    (subst (Below (get_or (hints parts.subjects (pair_rows parts)) i (0, 0))) (hint_of parts.subjects (pair_rows parts) (i + 1) (omega (arith, ends.counted)))
    (rises_at Below (hints parts.subjects (pair_rows parts)) (0, 0) i (i + 1) rise (omega arith) (omega (arith, long, ends.counted))))))
    ends.closed

pub objects_there : (sections : List (List ℕ)) (terms predicates : ℕ) (parts : PlaneParts) → KeepsBefore sections terms predicates parts 8
    → map (λ t. t.o) (triples_in parts) ≡ parts.pair_objects
objects_there sections terms predicates parts keeps =
    let objects = keeps.pair_objects (omega arith) in
    let long = length-map (triples_in parts) (λ t. t.o) in
    ext_get_or 0 (map (λ t. t.o) (triples_in parts)) parts.pair_objects (long ∙ length-triples_in parts ∙ sym objects.counted)
    (λ j h.
    (let within : j < length (triples_in parts) = omega (arith, long) in
    get_or-map (λ t. t.o) (triples_in parts) j no_triple 0 within ∙ ap (λ t. t.o) (triple_of parts j no_triple (omega (arith, length-triples_in parts)))))

pub edges_there : (sections : List (List ℕ)) (terms predicates : ℕ) (parts : PlaneParts) → KeepsBefore sections terms predicates parts 8
    → pair_edges (triples_in parts) ≡ edges (record { ends = parts.object_ends; rights = parts.pair_objects })
edges_there sections terms predicates parts keeps =
    let list = plane_list sections terms predicates parts keeps in
    let marks = pair_marks sections terms predicates parts keeps in
    let long = length-pair_edges (triples_in parts) ∙ length-triples_in parts in
    ext_get_or (0, 0) (pair_edges (triples_in parts)) (edges (record { ends = parts.object_ends; rights = parts.pair_objects }))
    (long ∙ sym (length-edges (record { ends = parts.object_ends; rights = parts.pair_objects })))
    (λ j h.
    (let within : j < length parts.object_ends = omega (arith, long) in
    pair_edge_at (triples_in parts) j list.rising (omega (arith, length-triples_in parts))
    ∙ ap₂ (λ bits (t : IdTriple). (rank bits j, t.o)) marks (triple_of parts j no_triple within)
    ∙ sym (edge_of (record { ends = parts.object_ends; rights = parts.pair_objects }) j within)))

pub parts_same : (a b : PlaneParts) → a.subjects ≡ b.subjects → a.pair_ends ≡ b.pair_ends → a.pair_predicates ≡ b.pair_predicates → a.object_ends ≡ b.object_ends
    → a.pair_objects ≡ b.pair_objects → a.objects ≡ b.objects → a.object_pair_ends ≡ b.object_pair_ends → a.object_pairs ≡ b.object_pairs → a ≡ b
parts_same a b e0 e1 e2 e3 e4 e5 e6 e7 =
    ap (λ x. record { subjects = x; pair_ends = a.pair_ends; pair_predicates = a.pair_predicates; object_ends = a.object_ends; pair_objects = a.pair_objects; objects = a.objects; object_pair_ends = a.object_pair_ends; object_pairs = a.object_pairs }) e0
    ∙ ap (λ x. record { subjects = b.subjects; pair_ends = x; pair_predicates = a.pair_predicates; object_ends = a.object_ends; pair_objects = a.pair_objects; objects = a.objects; object_pair_ends = a.object_pair_ends; object_pairs = a.object_pairs }) e1
    ∙ ap (λ x. record { subjects = b.subjects; pair_ends = b.pair_ends; pair_predicates = x; object_ends = a.object_ends; pair_objects = a.pair_objects; objects = a.objects; object_pair_ends = a.object_pair_ends; object_pairs = a.object_pairs }) e2
    ∙ ap (λ x. record { subjects = b.subjects; pair_ends = b.pair_ends; pair_predicates = b.pair_predicates; object_ends = x; pair_objects = a.pair_objects; objects = a.objects; object_pair_ends = a.object_pair_ends; object_pairs = a.object_pairs }) e3
    ∙ ap (λ x. record { subjects = b.subjects; pair_ends = b.pair_ends; pair_predicates = b.pair_predicates; object_ends = b.object_ends; pair_objects = x; objects = a.objects; object_pair_ends = a.object_pair_ends; object_pairs = a.object_pairs }) e4
    ∙ ap (λ x. record { subjects = b.subjects; pair_ends = b.pair_ends; pair_predicates = b.pair_predicates; object_ends = b.object_ends; pair_objects = b.pair_objects; objects = x; object_pair_ends = a.object_pair_ends; object_pairs = a.object_pairs }) e5
    ∙ ap (λ x. record { subjects = b.subjects; pair_ends = b.pair_ends; pair_predicates = b.pair_predicates; object_ends = b.object_ends; pair_objects = b.pair_objects; objects = b.objects; object_pair_ends = x; object_pairs = a.object_pairs }) e6
    ∙ ap (λ x. record { subjects = b.subjects; pair_ends = b.pair_ends; pair_predicates = b.pair_predicates; object_ends = b.object_ends; pair_objects = b.pair_objects; objects = b.objects; object_pair_ends = b.object_pair_ends; object_pairs = x }) e7

-- the lists of the triples that they hold
pub parts_exact : (sections : List (List ℕ)) (terms predicates : ℕ) (parts : PlaneParts) → KeepsBefore sections terms predicates parts 8
    → parts ≡ parts_of (triples_in parts)
unfolding parts_of
parts_exact sections terms predicates parts keeps =
    let rows = pairs_are_rows sections terms predicates parts keeps in
    let pairs = pairs_there sections terms predicates parts keeps in
    let list = plane_list sections terms predicates parts keeps in
    let objects = objects_there sections terms predicates parts keeps in
    let turned_edges = edges_there sections terms predicates parts keeps in
    let last = keeps.object_pairs (omega arith) in
    parts_same parts (parts_of (triples_in parts))
    (sym (sym (subjects_are (triples_in parts) list.rising) ∙ ap (λ l. dedup nat_eq (map first l)) pairs ∙ distinct_lefts parts.subjects (pair_rows parts) rows))
    (sym (ap (λ l. last_marks nat_eq (map first l)) pairs ∙ left_marks parts.subjects (pair_rows parts) rows))
    (sym (ap (map second) pairs ∙ right_numbers parts.subjects (pair_rows parts) rows))
    (sym (pair_marks sections terms predicates parts keeps))
    (sym objects)
    ((keeps.objects (omega arith)).exact ∙ ap rising_of (sym objects))
    (last.rows ∙ ap (λ l. last_marks nat_eq (map first (turned l))) (sym turned_edges))
    (last.exact ∙ ap (λ l. map second (turned l)) (sym turned_edges))
