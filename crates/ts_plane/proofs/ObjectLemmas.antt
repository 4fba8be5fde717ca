-- The pairs of an object: the places of its triples in the order of the pairs.
use Rattle.std.proofs.Common.{◌≡◌, ◌≢◌, ℕ, zero, suc, ◌+◌, ◌-◌, ◌<◌, ◌≤◌, Bool, true, false, eqb, List, [], ◌∷◌, length, map, get_or, refl, sym, ap, ◌∙◌, subst, arith, inl, inr}
use Rattle.std.proofs.lemmas.Bool.{cases_lt, cases_Bool, cond-true, cond-false, eqb-true, eq-eqb, ne_eqb}
use Rattle.std.proofs.lemmas.List.{get_or-map, length-map, get_or_default}
use Rattle.std.proofs.lemmas.List.Elements.{All-map, All-filter, recursion_from_All}
use Rattle.std.proofs.lemmas.List.FromFn.{fill_by_all, length-range_with_len, get_or-range_with_len, length-map-range_with_len, get_or-map-range_with_len}
use Rattle.std.specs.List.{All, AllByRecursion, dedup, filter, range_with_len}
use Rattle.ts_bits.specs.Rank.{rank}
use Rattle.ts_log.specs.Rising.{RisesBetween}
use Rattle.ts_log.proofs.RisingLemmas.{rises}
use Rattle.ts_adjacency.specs.Rows.{IsRow, row_of}
use Rattle.ts_adjacency.specs.Adjacency.{Adjacency, edge_at, edges}
use Rattle.ts_adjacency.proofs.RowLemmas.{row_within}
use Rattle.ts_plane.specs.Parts.{PlaneParts}
use Rattle.ts_plane.specs.Groups.{last_marks}
use Rattle.ts_plane.specs.Turned.{rising_of, lefts, turned}
use Rattle.ts_plane.specs.Kept.{KeepsRules, pairs_by_object}
use Rattle.ts_plane.specs.Lookups.{IsRun}
use Rattle.ts_plane.proofs.GroupLemmas.{distinct_at, length-marks_from}
use Rattle.ts_plane.proofs.RowFacts.{row_before, row_behind, pair_within}
use Rattle.ts_plane.proofs.Runs.{filter_run}
use Rattle.ts_plane.proofs.Blocks.{Rises, rising_of-rises, rising_of-all, rises_next, IsSome, blocks, block, distinct_blocks, blocks_of, second_of, all_blocks}

-- each triple's pair and object
abbrev pub triple_edges : PlaneParts → Adjacency
triple_edges parts = record { ends = parts.object_ends; rights = parts.pair_objects }

-- the pairs of an object
abbrev pub pairs_of_object : PlaneParts → ℕ → List ℕ
pairs_of_object parts o = lefts (edges (triple_edges parts)) o

-- the right sides are the objects
rights_of : (parts : PlaneParts) → KeepsRules parts → map (λ (e : ℕ × ℕ). e.1) (edges (triple_edges parts)) ≡ parts.pair_objects
unfolding edges
rights_of parts kept =
    let n = length parts.object_ends in
    let long = length-map-range_with_len (edge_at (triple_edges parts)) 0 (length parts.object_ends) in
    sym (fill_by_all (λ j. get_or parts.pair_objects j 0) parts.pair_objects (length parts.object_ends) 0 kept.objects_counted (λ k h. refl)
    ∙ sym (fill_by_all (λ j. get_or parts.pair_objects j 0) (map (λ (e : ℕ × ℕ). e.1) (map (edge_at (triple_edges parts)) (range_with_len 0 (length parts.object_ends)))) (length parts.object_ends) 0
    (length-map (map (edge_at (triple_edges parts)) (range_with_len 0 (length parts.object_ends))) (λ (e : ℕ × ℕ). e.1) ∙ long)
    (λ k h.
    get_or-map (λ (e : ℕ × ℕ). e.1) (map (edge_at (triple_edges parts)) (range_with_len 0 (length parts.object_ends))) k (0, 0) 0 (omega (arith, long))
    ∙ ap (λ (e : ℕ × ℕ). e.1) (get_or-map-range_with_len (edge_at (triple_edges parts)) 0 (length parts.object_ends) k k (0, 0) h (omega arith)))))

-- the list by objects, in blocks
by_object_blocks : (parts : PlaneParts) → KeepsRules parts → pairs_by_object parts ≡ blocks (pairs_of_object parts) parts.objects
unfolding turned
by_object_blocks parts kept =
    ap (λ xs. blocks (pairs_of_object parts) (rising_of xs)) (rights_of parts kept) ∙ ap (blocks (pairs_of_object parts)) (sym kept.objects)

-- the objects rise
objects_rises : (parts : PlaneParts) → KeepsRules parts → Rises parts.objects
objects_rises parts kept = rw kept.objects (rising_of-rises parts.pair_objects)

-- an element that passes is kept
filter_some : {X : Type 0} (p : X → Bool) (xs : List X) (j : ℕ) (d : X) → j < length xs → p (get_or xs j d) ≡ true → (y : X) × (rest : List X) × (filter p xs ≡ y ∷ rest)
filter_some p [] j d h pass = absurd (omega arith)
filter_some p (x ∷ xs) zero d h pass = (x, filter p xs, cond-true (p x) (x ∷ filter p xs) (filter p xs) pass)
filter_some p (x ∷ xs) (suc j) d h pass = elim (cases_Bool (p x)) [
  | inl here ↦ (x, filter p xs, cond-true (p x) (x ∷ filter p xs) (filter p xs) here)
  | inr other ↦
      (let rest = filter_some p xs j d (omega arith) pass in
      (rest.0, rest.1, cond-false (p x) (x ∷ filter p xs) (filter p xs) other ∙ rest.2))
]

-- the edge at a place
edge_there : (parts : PlaneParts) (j : ℕ) → j < length parts.object_ends → get_or (edges (triple_edges parts)) j (0, 0) ≡ edge_at (triple_edges parts) j
unfolding edges
edge_there parts j h = get_or-map-range_with_len (edge_at (triple_edges parts)) 0 (length parts.object_ends) j j (0, 0) h (omega arith)

length-edges : (parts : PlaneParts) → length (edges (triple_edges parts)) ≡ length parts.object_ends
unfolding edges
length-edges parts = length-map-range_with_len (edge_at (triple_edges parts)) 0 (length parts.object_ends)

-- each object has a pair
some_pairs : (parts : PlaneParts) → KeepsRules parts → AllByRecursion (λ o. IsSome (pairs_of_object parts o)) parts.objects
unfolding lefts
some_pairs parts kept =
    rw kept.objects (rising_of-all (λ o. IsSome (pairs_of_object parts o)) parts.pair_objects
    (recursion_from_All (λ o. IsSome (pairs_of_object parts o)) parts.pair_objects
    (λ k d h.
    (let inside : k < length parts.object_ends = omega (arith, kept.objects_counted) in
    let there : (get_or (edges (triple_edges parts)) k (0, 0)).1 ≡ get_or parts.pair_objects k d = ap (λ (e : ℕ × ℕ). e.1) (edge_there parts k inside) ∙ get_or_default parts.pair_objects k 0 d h in
    let found = filter_some (λ (e : ℕ × ℕ). eqb e.1 (get_or parts.pair_objects k d)) (edges (triple_edges parts)) k (0, 0) (omega (arith, length-edges parts))
    (eq-eqb (get_or (edges (triple_edges parts)) k (0, 0)).1 (get_or parts.pair_objects k d) there) in
    (found.0.0, map (λ (e : ℕ × ℕ). e.0) found.1, ap (map (λ (e : ℕ × ℕ). e.0)) found.2)))))

-- the same values on a range
pub map_same : {X : Type 0} (f g : ℕ → X) (a n : ℕ) → ((j : ℕ) → a ≤ j → j < a + n → f j ≡ g j) → map f (range_with_len a n) ≡ map g (range_with_len a n)
map_same f g a zero h = refl
map_same f g a (suc n) h = ap (λ y. y ∷ map f (range_with_len (a + 1) n)) (h a (omega arith) (omega arith)) ∙ ap (λ ys. g a ∷ ys) (map_same f g (a + 1) n (λ j l m. h j (omega arith) (omega arith)))

pub map-map : {X Y Z : Type 0} (f : X → Y) (g : Y → Z) (xs : List X) → map g (map f xs) ≡ map (λ x. g (f x)) xs
map-map f g [] = refl
map-map f g (x ∷ xs) = ap (λ ys. g (f x) ∷ ys) (map-map f g xs)

length-marks : (xs : List ℕ) → length (last_marks eqb xs) ≡ length xs
unfolding last_marks
length-marks [] = refl
length-marks (x ∷ xs) = length-marks_from eqb x xs

-- how many pairs there are by object
length-by_object : (parts : PlaneParts) → KeepsRules parts → length (pairs_by_object parts) ≡ length parts.object_pair_ends
length-by_object parts kept =
    sym (ap length kept.by_object_rows ∙ length-marks (map (λ (e : ℕ × ℕ). e.0) (pairs_by_object parts)) ∙ length-map (pairs_by_object parts) (λ (e : ℕ × ℕ). e.0))

pub length-object_pairs : (parts : PlaneParts) → KeepsRules parts → length parts.object_pairs ≡ length parts.object_pair_ends
length-object_pairs parts kept = ap length kept.by_object ∙ length-map (pairs_by_object parts) (λ (e : ℕ × ℕ). e.1) ∙ length-by_object parts kept

-- the object of a place is its row's
object_of_row : (parts : PlaneParts) (q : ℕ) → KeepsRules parts → q < length parts.object_pair_ends → get_or parts.objects (row_of parts.object_pair_ends q) 0 ≡ (get_or (pairs_by_object parts) q (0, 0)).0
object_of_row parts q kept h =
    let long : q < length (map (λ (e : ℕ × ℕ). e.0) (pairs_by_object parts)) = omega (arith, length-map (pairs_by_object parts) (λ (e : ℕ × ℕ). e.0), length-by_object parts kept) in
    let distinct : dedup eqb (map (λ (e : ℕ × ℕ). e.0) (pairs_by_object parts)) ≡ parts.objects =
    ap (λ es. dedup eqb (map (λ (e : ℕ × ℕ). e.0) es)) (by_object_blocks parts kept) ∙ distinct_blocks (pairs_of_object parts) parts.objects (objects_rises parts kept) (some_pairs parts kept) in
    ap (λ xs. get_or xs (row_of parts.object_pair_ends q) 0) (sym distinct)
    ∙ ap (λ ends. get_or (dedup eqb (map (λ (e : ℕ × ℕ). e.0) (pairs_by_object parts))) (rank ends q) 0) kept.by_object_rows
    ∙ distinct_at eqb (λ a b same. eqb-true a b same) (map (λ (e : ℕ × ℕ). e.0) (pairs_by_object parts)) q 0 long
    ∙ get_or-map (λ (e : ℕ × ℕ). e.0) (pairs_by_object parts) q (0, 0) 0 (omega (arith, length-by_object parts kept))

-- an object stands once
pub object_only : (parts : PlaneParts) (x y : ℕ) → KeepsRules parts → x < length parts.objects → y < length parts.objects → get_or parts.objects x 0 ≡ get_or parts.objects y 0 → x ≡ y
object_only parts x y kept hx hy same =
    let up : RisesBetween parts.objects 0 (length parts.objects) = λ k l h. (let e : k + 1 ≡ suc k = omega arith in rw e (rises_next parts.objects k (objects_rises parts kept) (omega arith))) in
    elim (cases_lt x y) [
      | inl low ↦ (let less = rises parts.objects 0 (length parts.objects) x y up (omega arith) low hy in absurd (omega arith))
      | inr not ↦ elim (cases_lt y x) [
        | inl high ↦ (let less = rises parts.objects 0 (length parts.objects) y x up (omega arith) high hx in absurd (omega arith))
        | inr here ↦ omega arith
      ]
    ]

pub objects_rise : (parts : PlaneParts) → KeepsRules parts → RisesBetween parts.objects 0 (length parts.objects)
objects_rise parts kept = λ k l h. (let e : k + 1 ≡ suc k = omega arith in rw e (rises_next parts.objects k (objects_rises parts kept) (omega arith)))

-- the places of an object's row are those whose object it is
run_of_object : (parts : PlaneParts) (x first after : ℕ) → KeepsRules parts → x < length parts.objects → IsRow parts.object_pair_ends x first after
    → IsRun (λ q. eqb (get_or parts.objects x 0) (get_or (pairs_by_object parts) q (0, 0)).0) (length parts.object_pair_ends) first after
run_of_object parts x first after kept within row =
    let here : (q : ℕ) → q < length parts.object_pair_ends → row_of parts.object_pair_ends q < length parts.objects =
    λ q h. omega (arith, row_within parts.object_pair_ends q kept.by_object_closed h, kept.object_rows) in
    let other : (q : ℕ) → q < length parts.object_pair_ends → row_of parts.object_pair_ends q ≢ x → eqb (get_or parts.objects x 0) (get_or (pairs_by_object parts) q (0, 0)).0 ≡ false =
    λ q h not. ne_eqb (get_or parts.objects x 0) (get_or (pairs_by_object parts) q (0, 0)).0
    (λ same. not (object_only parts (row_of parts.object_pair_ends q) x kept (here q h) within (object_of_row parts q kept h ∙ sym same))) in
    record {
      ordered = omega (arith, row.some);
      within = row.within;
      before = λ q h. (let low = row_before parts.object_pair_ends x first after q row h in other q (omega (arith, row.some, row.within)) (λ e. omega arith));
      inside = λ q l h. eq-eqb (get_or parts.objects x 0) (get_or (pairs_by_object parts) q (0, 0)).0
          (ap (λ i. get_or parts.objects i 0) (sym (row.inside q l h)) ∙ object_of_row parts q kept (omega (arith, row.within)));
      behind = λ q l h. (let high = row_behind parts.object_pair_ends x first after q row l h in other q h (λ e. omega arith));
    }

-- so the row has the pairs of the object
pub row_of_object : (parts : PlaneParts) (x first after : ℕ) → KeepsRules parts → x < length parts.objects → IsRow parts.object_pair_ends x first after
    → map (λ q. get_or parts.object_pairs q 0) (range_with_len first (after - first)) ≡ pairs_of_object parts (get_or parts.objects x 0)
row_of_object parts x first after kept within row =
    let es = pairs_by_object parts in
    let o = get_or parts.objects x 0 in
    let whole : pairs_by_object parts ≡ map (λ q. get_or (pairs_by_object parts) q (0, 0)) (range_with_len 0 (length parts.object_pair_ends)) =
    fill_by_all (λ q. get_or (pairs_by_object parts) q (0, 0)) (pairs_by_object parts) (length parts.object_pair_ends) (0, 0) (length-by_object parts kept) (λ k h. refl) in
    let slice : map (λ q. get_or (pairs_by_object parts) q (0, 0)) (range_with_len first (after - first)) ≡ block (pairs_of_object parts) (get_or parts.objects x 0) =
    sym (filter_run (λ (e : ℕ × ℕ). eqb (get_or parts.objects x 0) e.0) (λ q. get_or (pairs_by_object parts) q (0, 0)) (length parts.object_pair_ends) first after (run_of_object parts x first after kept within row))
    ∙ ap (filter (λ (e : ℕ × ℕ). eqb (get_or parts.objects x 0) e.0)) (sym whole)
    ∙ ap (filter (λ (e : ℕ × ℕ). eqb (get_or parts.objects x 0) e.0)) (by_object_blocks parts kept)
    ∙ blocks_of (pairs_of_object parts) parts.objects x (objects_rises parts kept) within in
    map_same (λ q. get_or parts.object_pairs q 0) (λ q. (get_or (pairs_by_object parts) q (0, 0)).1) first (after - first)
    (λ q l h.
    ap (λ xs. get_or xs q 0) kept.by_object ∙ get_or-map (λ (e : ℕ × ℕ). e.1) (pairs_by_object parts) q (0, 0) 0 (omega (arith, length-by_object parts kept, row.within, row.some)))
    ∙ sym (map-map (λ q. get_or (pairs_by_object parts) q (0, 0)) (λ (e : ℕ × ℕ). e.1) (range_with_len first (after - first)))
    ∙ ap (map (λ (e : ℕ × ℕ). e.1)) slice ∙ second_of (get_or parts.objects x 0) (pairs_of_object parts (get_or parts.objects x 0))

-- each is a pair
all_lefts : (parts : PlaneParts) (o : ℕ) → KeepsRules parts → All (λ k. k < length parts.pair_ends) (pairs_of_object parts o)
unfolding lefts edges
all_lefts parts o kept =
    All-map (λ k. k < length parts.pair_ends) (λ (e : ℕ × ℕ). e.0) (filter (λ (e : ℕ × ℕ). eqb e.1 o) (map (edge_at (triple_edges parts)) (range_with_len 0 (length parts.object_ends))))
    (All-filter (λ (e : ℕ × ℕ). eqb e.1 o) (λ (e : ℕ × ℕ). e.0 < length parts.pair_ends) (map (edge_at (triple_edges parts)) (range_with_len 0 (length parts.object_ends)))
    (All-map (λ (e : ℕ × ℕ). e.0 < length parts.pair_ends) (edge_at (triple_edges parts)) (range_with_len 0 (length parts.object_ends))
    (λ k d h.
    (let long = length-range_with_len 0 (length parts.object_ends) in
    let there = get_or-range_with_len 0 (length parts.object_ends) k d (omega arith) in
    let e : k ≡ get_or (range_with_len 0 (length parts.object_ends)) k d = omega arith in
    subst (λ j. row_of parts.object_ends j < length parts.pair_ends) e (pair_within parts k kept (omega arith))))))

pub object_pair_within : (parts : PlaneParts) (q : ℕ) → KeepsRules parts → q < length parts.object_pair_ends → get_or parts.object_pairs q 0 < length parts.pair_ends
object_pair_within parts q kept h =
    let all : All (λ k. k < length parts.pair_ends) (map (λ (e : ℕ × ℕ). e.1) (blocks (pairs_of_object parts) parts.objects)) =
    all_blocks (λ k. k < length parts.pair_ends) (pairs_of_object parts) parts.objects (λ o. all_lefts parts o kept) in
    let same : map (λ (e : ℕ × ℕ). e.1) (blocks (pairs_of_object parts) parts.objects) ≡ parts.object_pairs =
    ap (map (λ (e : ℕ × ℕ). e.1)) (sym (by_object_blocks parts kept)) ∙ sym kept.by_object in
    let there : All (λ k. k < length parts.pair_ends) parts.object_pairs = subst (All (λ k. k < length parts.pair_ends)) same all in
    there q 0 (omega (arith, length-object_pairs parts kept))
