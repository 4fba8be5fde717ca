-- The eight lists of a plane, and those of a list of triples.
use Rattle.std.specs.Prelude.{◌≡◌, ℕ, ◌==◌, ◌&&◌, Bool, true, false, nat_eq, List, [], ◌∷◌, map, refl}
use Rattle.std.specs.List.{dedup, position_or_len}
use Rattle.ts_plane.specs.declared.triple.IdTriple.{IdTriple}
use Rattle.ts_plane.specs.Groups.{marks_from, last_marks}
use Rattle.ts_plane.specs.Turned.{put, rising_of, lefts, turned}

-- the lists, in the order of the sections
pub record PlaneParts : Type 0 where
  pub subjects : List ℕ
  pub pair_ends : List Bool
  pub pair_predicates : List ℕ
  pub object_ends : List Bool
  pub pair_objects : List ℕ
  pub objects : List ℕ
  pub object_pair_ends : List Bool
  pub object_pairs : List ℕ

-- a triple's subject and predicate
abbrev pub pair_of : IdTriple → ℕ × ℕ
pair_of t = (t.s, t.p)

abbrev pub same_pair : ℕ × ℕ → ℕ × ℕ → Bool
same_pair a b = (a.0 == b.0) && (a.1 == b.1)

-- the distinct pairs of rising triples, rising
unfoldable pub pairs_of : List IdTriple → List (ℕ × ℕ)
pairs_of triples = dedup same_pair (map pair_of triples)

-- for each triple, the place of its pair, and its object
unfoldable pub pair_edges : List IdTriple → List (ℕ × ℕ)
pair_edges triples = map (λ t. (position_or_len (same_pair (pair_of t)) (pairs_of triples), t.o)) triples

-- the lists of rising triples
unfoldable pub parts_of : List IdTriple → PlaneParts
parts_of triples = record {
  subjects = dedup nat_eq (map (λ t. t.s) triples);
  pair_ends = last_marks nat_eq (map (λ pair. pair.0) (pairs_of triples));
  pair_predicates = map (λ pair. pair.1) (pairs_of triples);
  object_ends = last_marks same_pair (map pair_of triples);
  pair_objects = map (λ t. t.o) triples;
  objects = rising_of (map (λ t. t.o) triples);
  object_pair_ends = last_marks nat_eq (map (λ edge. edge.0) (turned (pair_edges triples)));
  object_pairs = map (λ edge. edge.1) (turned (pair_edges triples));
}

-- the lists of (4, 1, 2) and (5, 1, 2)
pub parts_of_two_triples : parts_of (record { s = 4; p = 1; o = 2 } ∷ record { s = 5; p = 1; o = 2 } ∷ []) ≡ record {
  subjects = 4 ∷ 5 ∷ [];
  pair_ends = true ∷ true ∷ [];
  pair_predicates = 1 ∷ 1 ∷ [];
  object_ends = true ∷ true ∷ [];
  pair_objects = 2 ∷ 2 ∷ [];
  objects = 2 ∷ [];
  object_pair_ends = false ∷ true ∷ [];
  object_pairs = 0 ∷ 1 ∷ [];
}
unfolding marks_from last_marks put rising_of lefts turned pairs_of pair_edges parts_of
parts_of_two_triples = refl

-- the lists of (1, 1, 9), (1, 2, 7), (1, 2, 9), (3, 1, 8)
pub parts_of_four_triples : parts_of (record { s = 1; p = 1; o = 9 } ∷ record { s = 1; p = 2; o = 7 } ∷ record { s = 1; p = 2; o = 9 } ∷ record { s = 3; p = 1; o = 8 } ∷ []) ≡ record {
  subjects = 1 ∷ 3 ∷ [];
  pair_ends = false ∷ true ∷ true ∷ [];
  pair_predicates = 1 ∷ 2 ∷ 1 ∷ [];
  object_ends = true ∷ false ∷ true ∷ true ∷ [];
  pair_objects = 9 ∷ 7 ∷ 9 ∷ 8 ∷ [];
  objects = 7 ∷ 8 ∷ 9 ∷ [];
  object_pair_ends = true ∷ true ∷ false ∷ true ∷ [];
  object_pairs = 1 ∷ 2 ∷ 0 ∷ 1 ∷ [];
}
unfolding marks_from last_marks put rising_of lefts turned pairs_of pair_edges parts_of
parts_of_four_triples = refl
