-- The eight lists by way of edges.
use Rattle.std.proofs.Common.{◌≡◌, ℕ, ◌≤◌, false, List, map, get_or, sym, ◌∙◌, ap, subst, arith, All, nat_eq, eqb-true, false-eqb}
use Rattle.std.specs.List.{dedup}
use Rattle.std.proofs.lemmas.Simd.{map-map}
use Rattle.ts_plane.specs.declared.triple.IdTriple.{IdTriple}
use Rattle.ts_plane.specs.Triple.{IsPositive, IsRising}
use Rattle.ts_plane.specs.Parts.{pair_of, same_pair, pairs_of, pair_edges}
use Rattle.ts_plane.specs.Turned.{rising_of, turned, IsForward}
use Rattle.ts_plane.proofs.Members.{In, Rises, IsMade, in_at, at_in, in_map, from_map, rises_map, rising_same}
use Rattle.ts_plane.proofs.TurnedLemmas.{Less, Below, less_asym, in_turned, from_turned, rises_turned, in_rising_of, from_rising_of, rises_rising_of}
use Rattle.ts_plane.proofs.Orders.{NotAbove, rises_pairs, same_is, apart_below, below_then}
use Rattle.ts_plane.proofs.GroupMembers.{from_dedup, in_dedup, dedup_rises}
use Rattle.ts_plane.proofs.SortedLemmas.{rises_forward}
use Rattle.ts_plane.proofs.PlaceLemmas.{edge_in}

abbrev pub AtMost : ℕ → ℕ → Type 0
AtMost x y = x ≤ y

differ_less : (a b : ℕ) → AtMost a b → nat_eq b a ≡ false → Less a b
differ_less a b le apart =
    let other : b ≡ a → ⊥ = false-eqb b a (sym apart) in
    omega (arith, le, other)

less_then : (a b c : ℕ) → Less a b → AtMost b c → Less a c
less_then a b c ab bc = omega (arith, ab, bc)

-- numbers that don't fall, each once
pub distinct_rises : (xs : List ℕ) → Rises AtMost xs → Rises Less (dedup nat_eq xs)
distinct_rises xs rises = dedup_rises nat_eq AtMost Less differ_less less_then xs rises

abbrev pub first : ℕ × ℕ → ℕ
first edge = edge.0

abbrev pub second : ℕ × ℕ → ℕ
second edge = edge.1

-- the distinct first numbers are those of the distinct pairs
pub distinct_firsts : (pairs : List (ℕ × ℕ)) → Rises NotAbove pairs → dedup nat_eq (map first (dedup same_pair pairs)) ≡ dedup nat_eq (map first pairs)
distinct_firsts pairs rises =
    let strict = dedup_rises same_pair NotAbove Below apart_below below_then pairs rises in
    rising_same Less less_asym (dedup nat_eq (map first (dedup same_pair pairs))) (dedup nat_eq (map first pairs))
    (distinct_rises (map first (dedup same_pair pairs)) (rises_map Below AtMost first (dedup same_pair pairs) (λ a b _ _ below. below.0) strict))
    (distinct_rises (map first pairs) (rises_map NotAbove AtMost first pairs (λ a b _ _ below. below.0) rises))
    (λ x h.
    (let made : IsMade first (dedup same_pair pairs) x = from_map first x (dedup same_pair pairs) (from_dedup nat_eq x (map first (dedup same_pair pairs)) h) in
    in_dedup nat_eq eqb-true x (map first pairs) (subst (λ y. In y (map first pairs)) (sym made.is) (in_map first made.of pairs (from_dedup same_pair made.of pairs made.inside)))))
    (λ x h.
    (let made : IsMade first pairs x = from_map first x pairs (from_dedup nat_eq x (map first pairs) h) in
    in_dedup nat_eq eqb-true x (map first (dedup same_pair pairs))
    (subst (λ y. In y (map first (dedup same_pair pairs))) (sym made.is) (in_map first made.of (dedup same_pair pairs) (in_dedup same_pair same_is made.of pairs made.inside)))))

-- the distinct right sides of turned edges
pub distinct_rights : (edges : List (ℕ × ℕ)) → IsForward edges → dedup nat_eq (map first (turned edges)) ≡ rising_of (map second edges)
distinct_rights edges forward =
    rising_same Less less_asym (dedup nat_eq (map first (turned edges))) (rising_of (map second edges))
    (distinct_rises (map first (turned edges)) (rises_map Below AtMost first (turned edges) (λ a b _ _ below. below.0) (rises_turned edges (rises_forward edges forward))))
    (rises_rising_of (map second edges))
    (λ x h.
    (let made : IsMade first (turned edges) x = from_map first x (turned edges) (from_dedup nat_eq x (map first (turned edges)) h) in
    in_rising_of x (map second edges) (subst (λ y. In y (map second edges)) (sym made.is) (in_map second (made.of.1, made.of.0) edges (from_turned edges made.of made.inside)))))
    (λ x h.
    (let made : IsMade second edges x = from_map second x edges (from_rising_of x (map second edges) h) in
    in_dedup nat_eq eqb-true x (map first (turned edges))
    (subst (λ y. In y (map first (turned edges))) (sym made.is) (in_map first (made.of.1, made.of.0) (turned edges) (in_turned edges made.of.0 made.of.1 made.inside)))))

pub subjects_are : (triples : List IdTriple) → IsRising triples → dedup nat_eq (map first (pairs_of triples)) ≡ dedup nat_eq (map (λ t. t.s) triples)
unfolding pairs_of
subjects_are triples rising =
    distinct_firsts (map pair_of triples) (rises_pairs triples rising) ∙ ap (dedup nat_eq) (map-map first pair_of triples)

pub edge_objects_are : (triples : List IdTriple) → map second (pair_edges triples) ≡ map (λ t. t.o) triples
unfolding pair_edges
edge_objects_are triples = map-map second (edge_in triples) triples

-- what holds of each member
pub all_members : {X : Type 0} (P : X → Type 0) (xs : List X) → ((x : X) → In x xs → P x) → All P xs
all_members P xs h = λ k d within. h (get_or xs k d) (in_at xs k d within)

pub member_of_all : {X : Type 0} (P : X → Type 0) (xs : List X) (x : X) → All P xs → In x xs → P x
member_of_all P xs x all h = (let there = at_in x xs x h in subst P there.is (all there.place x there.within))

pub predicates_positive : (triples : List IdTriple) → All IsPositive triples → All (λ x. 1 ≤ x) (map second (pairs_of triples))
unfolding pairs_of
predicates_positive triples positive = all_members (λ x. 1 ≤ x) (map second (dedup same_pair (map pair_of triples))) (λ x h.
    (let made : IsMade second (dedup same_pair (map pair_of triples)) x = from_map second x (dedup same_pair (map pair_of triples)) h in
    let from : IsMade pair_of triples made.of = from_map pair_of made.of triples (from_dedup same_pair made.of (map pair_of triples) made.inside) in
    let is : x ≡ from.of.p = made.is ∙ ap second from.is in
    let some = (member_of_all IsPositive triples from.of positive from.inside).predicate in
    omega (arith, is, some)))
