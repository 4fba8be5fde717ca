-- Walks by the pairs of an object.
use Rattle.std.proofs.Common.{◌≡◌, ◌≢◌, ℕ, zero, suc, ◌+◌, ◌-◌, ◌<◌, ◌≤◌, Bool, true, false, ◌&&◌, cond, eqb, Option, Some, List, [], ◌∷◌, length, map, get_or, refl, sym, ap, ◌∙◌, subst, arith, inl, inr}
use Rattle.std.proofs.lemmas.Bool.{cases_lt, cases_eq, cases_Bool, cond-true, cond-false, eqb-true, eq-eqb, ne_eqb, and_parts, and_left, and_right, both_ways, true≢false, false≢true}
use Rattle.std.proofs.lemmas.List.{get_or_default}
use Rattle.std.proofs.lemmas.List.Elements.{All-from_recursion, recursion_from_All}
use Rattle.std.proofs.lemmas.List.FromFn.{length-map-range_with_len, get_or-map-range_with_len}
use Rattle.std.specs.List.{All, AllByRecursion, filter, range_with_len}
use Rattle.ts_bits.proofs.Ranks.{rank-mono}
use Rattle.ts_log.specs.Rising.{RisesBetween}
use Rattle.ts_log.proofs.RisingLemmas.{rises}
use Rattle.ts_adjacency.specs.Rows.{IsRow, row_of}
use Rattle.ts_adjacency.specs.Adjacency.{edge_at, edges}
use Rattle.ts_plane.specs.declared.triple.IdTriple.{IdTriple}
use Rattle.ts_plane.specs.Parts.{PlaneParts}
use Rattle.ts_plane.specs.Turned.{lefts}
use Rattle.ts_plane.specs.Decoded.{triple_at, triples_in}
use Rattle.ts_plane.specs.Pattern.{part_fits, is_after, walk_of}
use Rattle.ts_plane.specs.Kept.{KeepsRules}
use Rattle.ts_plane.specs.Lookups.{IsRun, IsFirst, pair_at}
use Rattle.ts_plane.specs.Cursors.{pair_with, with_object, NoneHas, IsNextWith}
use Rattle.ts_plane.proofs.RowFacts.{rise_in_row}
use Rattle.ts_plane.proofs.Runs.{filter_none, filter_part, run_since}
use Rattle.ts_plane.proofs.Blocks.{Rises, RisesFrom, rises_next, rising_of-all_since}
use Rattle.ts_plane.proofs.ObjectLemmas.{triple_edges, pairs_of_object, row_of_object, object_pair_within, map-map}

-- no pair is left
pub object_none : (parts : PlaneParts) (o : ℕ) (p : Option ℕ) (place end : ℕ) → place ≤ end → NoneHas parts p place end → with_object parts o p place end ≡ []
unfolding with_object
object_none parts o p place end ordered none =
    filter_none (λ t. part_fits p t.p) (λ q. pair_with parts o (get_or parts.object_pairs q 0)) place (end - place) (λ q l h. none q l (omega arith))

pub object_end : (parts : PlaneParts) (o : ℕ) (p : Option ℕ) (end : ℕ) → with_object parts o p end end ≡ []
unfolding with_object
object_end parts o p end =
    let e : end - end ≡ 0 = omega arith in
    ap (λ n. filter (λ t. part_fits p t.p) (map (λ q. pair_with parts o (get_or parts.object_pairs q 0)) (range_with_len end n))) e

-- the next, and those behind it
pub object_next : (parts : PlaneParts) (o : ℕ) (p : Option ℕ) (place end next pair : ℕ) → IsNextWith parts p place end next pair
    → with_object parts o p place end ≡ pair_with parts o pair ∷ with_object parts o p (next + 1) end
unfolding with_object
object_next parts o p place end next pair is =
    let e : end - next ≡ suc (end - (next + 1)) = omega (arith, is.high) in
    let rest = map (λ q. pair_with parts o (get_or parts.object_pairs q 0)) (range_with_len (next + 1) (end - (next + 1))) in
    filter_part (λ t. part_fits p t.p) (λ t. part_fits p t.p) (λ q. pair_with parts o (get_or parts.object_pairs q 0)) place end next end
    is.low (omega (arith, is.high)) (omega arith) (λ q l h. is.before q l h) (λ q l h. refl) (λ q l h. absurd (omega arith))
    ∙ ap (λ n. filter (λ t. part_fits p t.p) (map (λ q. pair_with parts o (get_or parts.object_pairs q 0)) (range_with_len next n))) e
    ∙ cond-true (part_fits p (pair_at parts (get_or parts.object_pairs next 0)).1) (pair_with parts o (get_or parts.object_pairs next 0) ∷ filter (λ t. part_fits p t.p) rest) (filter (λ t. part_fits p t.p) rest)
    (ap (λ k. part_fits p (pair_at parts k).1) (sym is.there) ∙ is.fits)
    ∙ ap (λ k. pair_with parts o k ∷ filter (λ t. part_fits p t.p) rest) (sym is.there)

-- what two tests keep, where the first asks for the second
filter_filter : {X : Type 0} (p q : X → Bool) → ((x : X) → p x ≡ true → q x ≡ true) → (xs : List X) → filter p xs ≡ filter p (filter q xs)
filter_filter p q asks [] = refl
filter_filter p q asks (x ∷ xs) = elim (cases_Bool (q x)) [
  | inl here ↦
      ap (λ ys. cond (p x) (x ∷ ys) ys) (filter_filter p q asks xs)
      ∙ sym (ap (filter p) (cond-true (q x) (x ∷ filter q xs) (filter q xs) here))
  | inr other ↦ elim (cases_Bool (p x)) [
    | inl both ↦ absurd (both_ways (q x) other (asks x both))
    | inr none ↦
        cond-false (p x) (x ∷ filter p xs) (filter p xs) none ∙ filter_filter p q asks xs
        ∙ sym (ap (filter p) (cond-false (q x) (x ∷ filter q xs) (filter q xs) other))
  ]
]

-- what a test keeps of values that are made of others
filter_through : {X Y : Type 0} (p : X → Bool) (q : Y → Bool) (f : ℕ → X) (g : ℕ → Y) (h : Y → X) (a n : ℕ)
    → ((j : ℕ) → p (f j) ≡ q (g j)) → ((j : ℕ) → p (f j) ≡ true → f j ≡ h (g j)) → filter p (map f (range_with_len a n)) ≡ map h (filter q (map g (range_with_len a n)))
filter_through p q f g h a zero same made = refl
filter_through p q f g h a (suc n) same made =
    let ih = filter_through p q f g h (a + 1) n same made in
    elim (cases_Bool (p (f a))) [
      | inl pass ↦
          cond-true (p (f a)) (f a ∷ filter p (map f (range_with_len (a + 1) n))) (filter p (map f (range_with_len (a + 1) n))) pass
          ∙ ap (λ x. x ∷ filter p (map f (range_with_len (a + 1) n))) (made a pass) ∙ ap (λ ys. h (g a) ∷ ys) ih
          ∙ sym (ap (map h) (cond-true (q (g a)) (g a ∷ filter q (map g (range_with_len (a + 1) n))) (filter q (map g (range_with_len (a + 1) n))) (sym (same a) ∙ pass)))
      | inr fail ↦
          cond-false (p (f a)) (f a ∷ filter p (map f (range_with_len (a + 1) n))) (filter p (map f (range_with_len (a + 1) n))) fail ∙ ih
          ∙ sym (ap (map h) (cond-false (q (g a)) (g a ∷ filter q (map g (range_with_len (a + 1) n))) (filter q (map g (range_with_len (a + 1) n))) (sym (same a) ∙ fail)))
    ]

eqb-sym : (x y : ℕ) → eqb x y ≡ eqb y x
eqb-sym x y = elim (cases_eq x y) [
  | inl same ↦ eq-eqb x y same ∙ sym (eq-eqb y x (sym same))
  | inr other ↦ ne_eqb x y other ∙ sym (ne_eqb y x (λ e. other (sym e)))
]

-- the triples of an object
object_triples : (parts : PlaneParts) (o : ℕ) → filter (λ (t : IdTriple). eqb o t.o) (triples_in parts) ≡ map (pair_with parts o) (pairs_of_object parts o)
unfolding triples_in lefts edges
object_triples parts o =
    filter_through (λ (t : IdTriple). eqb o t.o) (λ (e : ℕ × ℕ). eqb e.1 o) (triple_at parts) (edge_at (triple_edges parts)) (λ (e : ℕ × ℕ). pair_with parts o e.0) 0 (length parts.object_ends)
    (λ j. eqb-sym o (get_or parts.pair_objects j 0))
    (λ j pass. ap (λ x. pair_with parts x (row_of parts.object_ends j)) (sym (eqb-true o (get_or parts.pair_objects j 0) pass)))
    ∙ sym (map-map (λ (e : ℕ × ℕ). e.0) (pair_with parts o) (filter (λ (e : ℕ × ℕ). eqb e.1 o) (map (edge_at (triple_edges parts)) (range_with_len 0 (length parts.object_ends)))))

-- the first sides of edges that pass rise, where those of each two do
rises_filter_from : (q : ℕ × ℕ → Bool) (g : ℕ → ℕ × ℕ) (r a n : ℕ) → ((i : ℕ) → a ≤ i → i < a + n → q (g i) ≡ true → r < (g i).0)
    → ((i j : ℕ) → i < j → j < a + n → q (g i) ≡ true → q (g j) ≡ true → (g i).0 < (g j).0) → RisesFrom r (map (λ (e : ℕ × ℕ). e.0) (filter q (map g (range_with_len a n))))
rises_filter_from q g r a zero above rising = tt
rises_filter_from q g r a (suc n) above rising = elim (cases_Bool (q (g a))) [
  | inl pass ↦
      rw (cond-true (q (g a)) (g a ∷ filter q (map g (range_with_len (a + 1) n))) (filter q (map g (range_with_len (a + 1) n))) pass) (
        above a (omega arith) (omega arith) pass,
        rises_filter_from q g (g a).0 (a + 1) n (λ i l h p. rising a i (omega arith) (omega arith) pass p) (λ i j l h p s. rising i j l (omega arith) p s),
      )
  | inr fail ↦
      rw (cond-false (q (g a)) (g a ∷ filter q (map g (range_with_len (a + 1) n))) (filter q (map g (range_with_len (a + 1) n))) fail)
      (rises_filter_from q g r (a + 1) n (λ i l h p. above i (omega arith) (omega arith) p) (λ i j l h p s. rising i j l (omega arith) p s))
]

rises_filter : (q : ℕ × ℕ → Bool) (g : ℕ → ℕ × ℕ) (a n : ℕ)
    → ((i j : ℕ) → i < j → j < a + n → q (g i) ≡ true → q (g j) ≡ true → (g i).0 < (g j).0) → Rises (map (λ (e : ℕ × ℕ). e.0) (filter q (map g (range_with_len a n))))
rises_filter q g a zero rising = tt
rises_filter q g a (suc n) rising = elim (cases_Bool (q (g a))) [
  | inl pass ↦
      rw (cond-true (q (g a)) (g a ∷ filter q (map g (range_with_len (a + 1) n))) (filter q (map g (range_with_len (a + 1) n))) pass)
      (rises_filter_from q g (g a).0 (a + 1) n (λ i l h p. rising a i (omega arith) (omega arith) pass p) (λ i j l h p s. rising i j l (omega arith) p s))
  | inr fail ↦
      rw (cond-false (q (g a)) (g a ∷ filter q (map g (range_with_len (a + 1) n))) (filter q (map g (range_with_len (a + 1) n))) fail)
      (rises_filter q g (a + 1) n (λ i j l h p s. rising i j l (omega arith) p s))
]

-- an object stands once in a pair
later_pair : (parts : PlaneParts) (o i j : ℕ) → KeepsRules parts → i < j → j < length parts.object_ends → get_or parts.pair_objects i 0 ≡ o → get_or parts.pair_objects j 0 ≡ o
    → row_of parts.object_ends i < row_of parts.object_ends j
later_pair parts o i j kept h within here there =
    let mono = rank-mono parts.object_ends i j (omega arith) in
    elim (cases_lt (row_of parts.object_ends i) (row_of parts.object_ends j)) [
      | inl lower ↦ lower
      | inr not ↦
          let rising : RisesBetween parts.pair_objects i (j + 1) = rise_in_row parts.object_ends parts.pair_objects i (j + 1) kept.objects_rise kept.objects_counted (omega arith)
          (λ m low high.
          (let one = rank-mono parts.object_ends i m low in
          let two = rank-mono parts.object_ends m (m + 1) (omega arith) in
          let three = rank-mono parts.object_ends (m + 1) j (omega arith) in
          omega (arith, one.0, two.0, three.0))) in
          let up = rises parts.pair_objects i (j + 1) i j rising (omega arith) h (omega arith) in
          absurd (omega arith)
    ]

pairs_of_object-rises : (parts : PlaneParts) (o : ℕ) → KeepsRules parts → Rises (pairs_of_object parts o)
unfolding lefts edges
pairs_of_object-rises parts o kept =
    rises_filter (λ (e : ℕ × ℕ). eqb e.1 o) (edge_at (triple_edges parts)) 0 (length parts.object_ends)
    (λ i j l h p s. later_pair parts o i j kept l (omega arith) (eqb-true (get_or parts.pair_objects i 0) o p) (eqb-true (get_or parts.pair_objects j 0) o s))

-- the pairs of an object's row rise
pub row_rises : (parts : PlaneParts) (x first after : ℕ) → KeepsRules parts → x < length parts.objects → IsRow parts.object_pair_ends x first after → RisesBetween parts.object_pairs first after
row_rises parts x first after kept within row =
    let list : Rises (map (λ q. get_or parts.object_pairs q 0) (range_with_len first (after - first))) =
    subst Rises (sym (row_of_object parts x first after kept within row)) (pairs_of_object-rises parts (get_or parts.objects x 0) kept) in
    λ k low high.
    (let up = rises_next (map (λ q. get_or parts.object_pairs q 0) (range_with_len first (after - first))) (k - first) list
    (omega (arith, length-map-range_with_len (λ q. get_or parts.object_pairs q 0) first (after - first))) in
    let here = get_or-map-range_with_len (λ q. get_or parts.object_pairs q 0) first (after - first) (k - first) k 0 (omega arith) (omega arith) in
    let next = get_or-map-range_with_len (λ q. get_or parts.object_pairs q 0) first (after - first) (suc (k - first)) (k + 1) 0 (omega arith) (omega arith) in
    omega arith)

-- a later bound is reached no earlier
pub first_mono : (xs : List ℕ) (first after from to place end : ℕ) → from ≤ to → IsFirst xs first after from place → IsFirst xs first after to end → place ≤ end
first_mono xs first after from to place end ordered low high = elim (cases_lt end place) [
  | inr not ↦ not
  | inl before ↦
      let less = low.below end high.begins before in
      let most = high.reached end (omega arith) (omega (arith, low.ends)) in
      absurd (omega arith)
]

weave_false : (a b c d : Bool) → (a && d) ≡ false → (((a && b) && c) && d) ≡ false
weave_false false b c d h = refl
weave_false true b c true h = absurd (true≢false h)
weave_false true false c false h = refl
weave_false true true false false h = refl
weave_false true true true false h = refl

weave_true : (a b c d : Bool) → (a && d) ≡ true → c ≡ true → (((a && b) && c) && d) ≡ b
weave_true false b c d h k = absurd (false≢true h)
weave_true true b c false h k = absurd (false≢true h)
weave_true true b false true h k = absurd (false≢true k)
weave_true true false true true h k = refl
weave_true true true true true h k = refl

weave_asks : (a b c d : Bool) → (((a && b) && c) && d) ≡ true → c ≡ true
weave_asks a b c d h = (and_parts (a && b) c (and_parts ((a && b) && c) d h).0).1

-- the walk of an object by its row
pub object_walk : (parts : PlaneParts) (s p : Option ℕ) (o : ℕ) (after : Option IdTriple) (x first behind a b start from place end : ℕ) → KeepsRules parts
    → x < length parts.objects → get_or parts.objects x 0 ≡ o → IsRow parts.object_pair_ends x first behind
    → IsRun (λ k. part_fits s (pair_at parts k).0) (length parts.pair_ends) a b → IsRun (λ k. is_after after (pair_with parts o k)) (length parts.pair_ends) start (length parts.pair_ends)
    → (start ≤ a → from ≡ a) → (a ≤ start → start ≤ b → from ≡ start) → (b ≤ start → from ≡ b)
    → IsFirst parts.object_pairs first behind from place → IsFirst parts.object_pairs first behind b end
    → with_object parts o p place end ≡ walk_of (triples_in parts) (record { s = s; p = p; o = Some o }) after
unfolding walk_of with_object
object_walk parts s p o after x first behind a b start from place end kept within here row subject later one two three low high =
    let run = run_since (λ k. part_fits s (pair_at parts k).0) (λ k. is_after after (pair_with parts o k)) (length parts.pair_ends) a b start from subject later one two three in
    let test = λ (t : IdTriple). ((part_fits s t.s && part_fits p t.p) && eqb o t.o) && is_after after t in
    let known : filter (λ (t : IdTriple). eqb o t.o) (triples_in parts) ≡ map (λ q. pair_with parts o (get_or parts.object_pairs q 0)) (range_with_len first (behind - first)) =
    object_triples parts o ∙ ap (λ y. map (pair_with parts o) (pairs_of_object parts y)) (sym here)
    ∙ ap (map (pair_with parts o)) (sym (row_of_object parts x first behind kept within row))
    ∙ map-map (λ q. get_or parts.object_pairs q 0) (pair_with parts o) (range_with_len first (behind - first)) in
    sym (filter_filter (λ (t : IdTriple). ((part_fits s t.s && part_fits p t.p) && eqb o t.o) && is_after after t) (λ (t : IdTriple). eqb o t.o)
    (λ t pass. weave_asks (part_fits s t.s) (part_fits p t.p) (eqb o t.o) (is_after after t) pass) (triples_in parts)
    ∙ ap (filter (λ (t : IdTriple). ((part_fits s t.s && part_fits p t.p) && eqb o t.o) && is_after after t)) known
    ∙ filter_part (λ (t : IdTriple). ((part_fits s t.s && part_fits p t.p) && eqb o t.o) && is_after after t) (λ (t : IdTriple). part_fits p t.p)
    (λ q. pair_with parts o (get_or parts.object_pairs q 0)) first behind place end
    low.begins (first_mono parts.object_pairs first behind from b place end run.ordered low high) high.ends
    (λ q l h. weave_false (part_fits s (pair_at parts (get_or parts.object_pairs q 0)).0) (part_fits p (pair_at parts (get_or parts.object_pairs q 0)).1) (eqb o o) (is_after after (pair_with parts o (get_or parts.object_pairs q 0)))
    (run.before (get_or parts.object_pairs q 0) (low.below q l h)))
    (λ q l h. weave_true (part_fits s (pair_at parts (get_or parts.object_pairs q 0)).0) (part_fits p (pair_at parts (get_or parts.object_pairs q 0)).1) (eqb o o) (is_after after (pair_with parts o (get_or parts.object_pairs q 0)))
    (run.inside (get_or parts.object_pairs q 0) (low.reached q l (omega (arith, high.ends))) (high.below q (omega (arith, low.begins)) h)) (eq-eqb o o refl))
    (λ q l h. weave_false (part_fits s (pair_at parts (get_or parts.object_pairs q 0)).0) (part_fits p (pair_at parts (get_or parts.object_pairs q 0)).1) (eqb o o) (is_after after (pair_with parts o (get_or parts.object_pairs q 0)))
    (run.behind (get_or parts.object_pairs q 0) (high.reached q l h) (object_pair_within parts q kept (omega (arith, row.within))))))

-- an object that isn't there has none
pub object_walk_none : (parts : PlaneParts) (s p : Option ℕ) (o : ℕ) (after : Option IdTriple) → KeepsRules parts → ((i : ℕ) → 0 ≤ i → i < length parts.objects → get_or parts.objects i 0 ≢ o)
    → with_object parts o p 0 0 ≡ walk_of (triples_in parts) (record { s = s; p = p; o = Some o }) after
unfolding walk_of with_object triples_in
object_walk_none parts s p o after kept absent =
    let others : All (λ y. y ≢ o) parts.objects = λ k d h. (let e : get_or parts.objects k 0 ≡ get_or parts.objects k d = get_or_default parts.objects k 0 d h in λ same. absent k (omega arith) h (e ∙ same)) in
    let each : All (λ y. y ≢ o) parts.pair_objects =
    All-from_recursion (λ y. y ≢ o) parts.pair_objects (rising_of-all_since (λ y. y ≢ o) parts.pair_objects (subst (AllByRecursion (λ y. y ≢ o)) kept.objects (recursion_from_All (λ y. y ≢ o) parts.objects others))) in
    sym (filter_none (λ (t : IdTriple). ((part_fits s t.s && part_fits p t.p) && eqb o t.o) && is_after after t) (triple_at parts) 0 (length parts.object_ends)
    (λ j l h.
    (let other = each j 0 (omega (arith, kept.objects_counted)) in
    let fail : eqb o (get_or parts.pair_objects j 0) ≡ false = ne_eqb o (get_or parts.pair_objects j 0) (λ e. other (sym e)) in
    and_left ((part_fits s (triple_at parts j).s && part_fits p (triple_at parts j).p) && eqb o (get_or parts.pair_objects j 0)) (is_after after (triple_at parts j))
    (and_right (part_fits s (triple_at parts j).s && part_fits p (triple_at parts j).p) (eqb o (get_or parts.pair_objects j 0)) fail))))
