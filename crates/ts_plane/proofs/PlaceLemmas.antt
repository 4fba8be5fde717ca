-- The places of pairs, and the edges from them to objects.
use Rattle.std.proofs.Common.{◌≡◌, ℕ, zero, suc, ◌+◌, ◌-◌, ◌<◌, ◌≤◌, ◌==◌, ◌&&◌, ◌++◌, Bool, true, false, not, Some, Option, inl, inr, List, [], ◌∷◌, map, length, take, get_or, refl, sym, ◌∙◌, ap, ap₂, subst, arith, nat_eq, eq-eqb, ne_eqb}
use mir.Val.{bool_byte}
use Rattle.std.specs.List.{dedup, position_or_len}
use Rattle.std.specs.Option.{IsSomeAnd}
use Rattle.std.proofs.lemmas.Bool.{cases_Bool, cases_lt, false_from_ne_true}
use Rattle.std.proofs.lemmas.List.{take_more, map_more, length-map, get_or-map, ext_get_or}
use Rattle.std.proofs.lemmas.List.Sums.{position_or_len_is}
use Rattle.ts_bits.specs.Rank.{rank}
use Rattle.ts_bits.proofs.Ranks.{digit_of, rank_more, rank-mono}
use Rattle.ts_plane.specs.declared.triple.IdTriple.{IdTriple}
use Rattle.ts_plane.specs.Triple.{IsRising}
use Rattle.ts_plane.specs.Groups.{last_marks}
use Rattle.ts_plane.specs.Parts.{pair_of, same_pair, pairs_of, pair_edges}
use Rattle.ts_plane.specs.Turned.{IsForward}
use Rattle.ts_plane.proofs.Members.{Rises, rises_at}
use Rattle.ts_plane.proofs.TurnedLemmas.{Below}
use Rattle.ts_plane.proofs.Orders.{NotAbove, Before, no_triple, rises_pairs, rises_triples, same_is, same_from, apart_below, below_then}
use Rattle.ts_plane.proofs.GroupLemmas.{rank_cons, distinct_at}
use Rattle.ts_plane.proofs.GroupMembers.{length-last_marks, mark_at, mark_last, dedup_rises, dedup_count, marks_closed}
use Rattle.ts_adjacency.proofs.RowLemmas.{row_within}

get_or_default : {X : Type 0} (xs : List X) (i : ℕ) (d e : X) → i < length xs → get_or xs i d ≡ get_or xs i e
get_or_default [] i d e h = absurd (omega arith)
get_or_default (x ∷ xs) zero d e h = refl
get_or_default (x ∷ xs) (suc i) d e h = get_or_default xs i d e (omega arith)

byte_digit : (b : Bool) → bool_byte b ≡ digit_of b
byte_digit true = refl
byte_digit false = refl

-- the place of a pair among the distinct ones
pub pair_place : (pairs : List (ℕ × ℕ)) (j : ℕ) → Rises NotAbove pairs → j < length pairs
    → position_or_len (same_pair (get_or pairs j (0, 0))) (dedup same_pair pairs) ≡ rank (last_marks same_pair pairs) j
pair_place pairs j rises within =
    let inside : rank (last_marks same_pair pairs) j < length (dedup same_pair pairs) =
    omega (arith, row_within (last_marks same_pair pairs) j (marks_closed same_pair pairs) (omega (arith, length-last_marks same_pair pairs)), dedup_count same_pair same_is pairs) in
    let key : ℕ × ℕ = get_or pairs j (0, 0) in
    let here = distinct_at same_pair same_is pairs j (0, 0) within in
    let strict = dedup_rises same_pair NotAbove Below apart_below below_then pairs rises in
    position_or_len_is (same_pair (get_or pairs j (0, 0))) (dedup same_pair pairs) (rank (last_marks same_pair pairs) j) (0, 0) (omega arith)
    (λ k low. false_from_ne_true (same_pair (get_or pairs j (0, 0)) (get_or (dedup same_pair pairs) k (0, 0))) (λ e.
    (let is = same_is (get_or pairs j (0, 0)) (get_or (dedup same_pair pairs) k (0, 0)) e in
    let below = rises_at Below (dedup same_pair pairs) (0, 0) k (rank (last_marks same_pair pairs) j) strict low inside in
    let same : get_or (dedup same_pair pairs) k (0, 0) ≡ get_or (dedup same_pair pairs) (rank (last_marks same_pair pairs) j) (0, 0) = sym is ∙ sym here in
    let first = ap (λ (u : ℕ × ℕ). u.0) same in
    let second = ap (λ (u : ℕ × ℕ). u.1) same in
    omega (arith, below.1 first, second))))
    (λ _. same_from (get_or pairs j (0, 0)) (get_or (dedup same_pair pairs) (rank (last_marks same_pair pairs) j) (0, 0)) (sym here))

-- what the loop finds behind a place
pub same_when : (a b : ℕ × ℕ) (r : Bool) → a.0 ≡ b.0 → r ≡ (a.1 == b.1) → not r ≡ not (same_pair a b)
same_when a b r first second = ap not (second ∙ sym (ap (λ x. x && (a.1 == b.1)) (eq-eqb a.0 b.0 first)))

pub same_unless : (a b : ℕ × ℕ) (r : Bool) → (a.0 ≡ b.0 → ⊥) → r ≡ (a.0 == b.0) → not r ≡ not (same_pair a b)
same_unless a b r first none = ap not (none ∙ ne_eqb a.0 b.0 first ∙ sym (ap (λ x. x && (a.1 == b.1)) (ne_eqb a.0 b.0 first)))

pub behind_mark : (triples : List IdTriple) (i : ℕ) (d : IdTriple) → (i ≡ 0 → ⊥) → i < length triples
    → not (same_pair (pair_of (get_or triples i d)) (pair_of (get_or triples (i - 1) d))) ≡ get_or (false ∷ last_marks same_pair (map pair_of triples)) i false
behind_mark triples zero d some within = absurd (some refl)
behind_mark triples (suc i) d some within =
    let back : suc i - 1 ≡ i = omega arith in
    let next : suc i ≡ i + 1 = omega arith in
    let mark = mark_at same_pair (map pair_of triples) i (pair_of d) (omega (arith, length-map triples pair_of)) in
    ap₂ (λ m n. not (same_pair (pair_of (get_or triples m d)) (pair_of (get_or triples n d)))) next back
    ∙ ap₂ (λ a b. not (same_pair a b)) (sym (get_or-map pair_of triples (i + 1) d (pair_of d) (omega arith))) (sym (get_or-map pair_of triples i d (pair_of d) (omega arith)))
    ∙ sym mark

-- one triple more
pub place_more : (triples : List IdTriple) (i place : ℕ) (begins : Bool) → i < length triples
    → place ≡ rank (false ∷ last_marks same_pair (map pair_of triples)) i
    → begins ≡ get_or (false ∷ last_marks same_pair (map pair_of triples)) i false
    → place + bool_byte begins ≡ rank (false ∷ last_marks same_pair (map pair_of triples)) (i + 1)
place_more triples i place begins within is mark =
    let long = length-last_marks same_pair (map pair_of triples) in
    let more = rank_more (false ∷ last_marks same_pair (map pair_of triples)) i (omega (arith, length-map triples pair_of)) in
    let digit : bool_byte begins ≡ digit_of (get_or (false ∷ last_marks same_pair (map pair_of triples)) i false) = byte_digit begins ∙ ap digit_of mark in
    omega (arith, is, more, digit)

-- a triple's edge
abbrev pub edge_in : List IdTriple → IdTriple → ℕ × ℕ
edge_in triples t = (position_or_len (same_pair (pair_of t)) (pairs_of triples), t.o)

pub edge_at_place : (triples : List IdTriple) (i : ℕ) → IsRising triples → i < length triples
    → edge_in triples (get_or triples i no_triple) ≡ (rank (last_marks same_pair (map pair_of triples)) i, (get_or triples i no_triple).o)
unfolding pairs_of
edge_at_place triples i rising within =
    let key = get_or-map pair_of triples i no_triple (0, 0) within in
    let place = pair_place (map pair_of triples) i (rises_pairs triples rising) (omega (arith, length-map triples pair_of)) in
    ap (λ n. (n, (get_or triples i no_triple).o))
    (ap (λ k. position_or_len (same_pair k) (dedup same_pair (map pair_of triples))) (sym key) ∙ place)

pub edge_more : (triples : List IdTriple) (i place : ℕ) (before after : List (ℕ × ℕ)) → IsRising triples → i < length triples
    → place ≡ rank (false ∷ last_marks same_pair (map pair_of triples)) (i + 1)
    → before ≡ map (edge_in triples) (take i triples)
    → after ≡ before ++ (place, (get_or triples i no_triple).o) ∷ []
    → after ≡ map (edge_in triples) (take (i + 1) triples)
edge_more triples i place before after rising within is old new =
    let next : i + 1 ≡ suc i = omega arith in
    let no_digit : digit_of false ≡ 0 = refl in
    let counted : place ≡ rank (last_marks same_pair (map pair_of triples)) i =
    omega (arith, is, ap (rank (false ∷ last_marks same_pair (map pair_of triples))) next, no_digit, rank_cons false (last_marks same_pair (map pair_of triples)) i) in
    new ∙ ap₂ (λ xs e. xs ++ e ∷ []) old (ap (λ n. (n, (get_or triples i no_triple).o)) counted ∙ sym (edge_at_place triples i rising within))
    ∙ sym (map_more (edge_in triples) triples i no_triple within)

-- one bit more
pub bit_more : (bits : List Bool) (i : ℕ) (before after : Option (List Bool)) (bit : Bool) → i < length bits
    → before ≡ Some (take i bits) → bit ≡ get_or bits i false
    → IsSomeAnd before (λ old. after ≡ Some (old ++ bit ∷ [])) → after ≡ Some (take (i + 1) bits)
bit_more bits i before after bit within is same step =
    let here : after ≡ Some (take i bits ++ bit ∷ []) = subst (λ o. IsSomeAnd o (λ old. after ≡ Some (old ++ bit ∷ []))) is step in
    here ∙ ap (λ b. Some (take i bits ++ b ∷ [])) same ∙ ap (λ l. Some l) (sym (take_more bits i false within))

pub byte_small : (b : Bool) → bool_byte b ≤ 1
byte_small true = omega arith
byte_small false = omega arith

-- the edge of a triple: its pair's place, and its object
pub length-pair_edges : (triples : List IdTriple) → length (pair_edges triples) ≡ length triples
unfolding pair_edges
length-pair_edges triples = length-map triples (edge_in triples)

pub pair_edge_at : (triples : List IdTriple) (i : ℕ) → IsRising triples → i < length triples
    → get_or (pair_edges triples) i (0, 0) ≡ (rank (last_marks same_pair (map pair_of triples)) i, (get_or triples i no_triple).o)
unfolding pair_edges
pair_edge_at triples i rising within =
    get_or-map (edge_in triples) triples i no_triple (0, 0) within ∙ edge_at_place triples i rising within

-- triples with one pair and one object are one
pub edges_forward : (triples : List IdTriple) → IsRising triples → IsForward (pair_edges triples)
edges_forward triples rising = λ i j d low high rights.
    let long = length-pair_edges triples in
    let inside : j < length triples = omega arith in
    let first = get_or_default (pair_edges triples) i d (0, 0) (omega arith) ∙ pair_edge_at triples i rising (omega arith) in
    let second = get_or_default (pair_edges triples) j d (0, 0) high ∙ pair_edge_at triples j rising inside in
    let o : (get_or triples i no_triple).o ≡ (get_or triples j no_triple).o = sym (ap (λ (u : ℕ × ℕ). u.1) first) ∙ rights ∙ ap (λ (u : ℕ × ℕ). u.1) second in
    let a : (get_or (pair_edges triples) i d).0 ≡ rank (last_marks same_pair (map pair_of triples)) i = ap (λ (u : ℕ × ℕ). u.0) first in
    let b : (get_or (pair_edges triples) j d).0 ≡ rank (last_marks same_pair (map pair_of triples)) j = ap (λ (u : ℕ × ℕ). u.0) second in
    let mono = rank-mono (last_marks same_pair (map pair_of triples)) i j (omega arith) in
    let before : Before (get_or triples i no_triple) (get_or triples j no_triple) = rises_at Before triples no_triple i j (rises_triples triples rising) low inside in
    elim (cases_lt (rank (last_marks same_pair (map pair_of triples)) i) (rank (last_marks same_pair (map pair_of triples)) j)) [
      | inl less ↦ omega (arith, a, b, less)
      | inr more ↦
          let e : rank (last_marks same_pair (map pair_of triples)) i ≡ rank (last_marks same_pair (map pair_of triples)) j = omega (arith, mono.0, more) in
          let same : pair_of (get_or triples i no_triple) ≡ pair_of (get_or triples j no_triple) =
          sym (get_or-map pair_of triples i no_triple (0, 0) (omega arith)) ∙ sym (distinct_at same_pair same_is (map pair_of triples) i (0, 0) (omega (arith, length-map triples pair_of)))
          ∙ ap (λ n. get_or (dedup same_pair (map pair_of triples)) n (0, 0)) e
          ∙ distinct_at same_pair same_is (map pair_of triples) j (0, 0) (omega (arith, length-map triples pair_of)) ∙ get_or-map pair_of triples j no_triple (0, 0) inside in
          absurd (omega (arith, o, before.object (ap (λ (u : ℕ × ℕ). u.0) same) (ap (λ (u : ℕ × ℕ). u.1) same)))
    ]

place_at : (triples : List IdTriple) (j : ℕ) → IsRising triples → j < length triples
    → get_or (map (λ edge. edge.0) (pair_edges triples)) j 0 ≡ rank (last_marks same_pair (map pair_of triples)) j
place_at triples j rising within =
    get_or-map (λ (u : ℕ × ℕ). u.0) (pair_edges triples) j (0, 0) 0 (omega (arith, length-pair_edges triples))
    ∙ ap (λ (u : ℕ × ℕ). u.0) (pair_edge_at triples j rising within)

place_step : (triples : List IdTriple) (j : ℕ) → IsRising triples → j + 1 < length triples
    → not (nat_eq (get_or (map (λ edge. edge.0) (pair_edges triples)) (j + 1) 0) (get_or (map (λ edge. edge.0) (pair_edges triples)) j 0))
    ≡ not (same_pair (get_or (map pair_of triples) (j + 1) (0, 0)) (get_or (map pair_of triples) j (0, 0)))
place_step triples j rising inside =
    let bits : List Bool = last_marks same_pair (map pair_of triples) in
    let here = place_at triples j rising (omega arith) in
    let next = place_at triples (j + 1) rising inside in
    let mark = mark_at same_pair (map pair_of triples) j (0, 0) (omega (arith, length-map triples pair_of)) in
    let more = rank_more (last_marks same_pair (map pair_of triples)) j (omega (arith, length-last_marks same_pair (map pair_of triples), length-map triples pair_of)) in
    elim (cases_Bool (same_pair (get_or (map pair_of triples) (j + 1) (0, 0)) (get_or (map pair_of triples) j (0, 0)))) [
      | inl holds ↦
          let none : digit_of (get_or (last_marks same_pair (map pair_of triples)) j false) ≡ 0 = ap digit_of mark ∙ ap (λ b. digit_of (not b)) holds in
          ap not (eq-eqb _ _ (omega (arith, here, next, more, none)) ∙ sym holds)
      | inr fails ↦
          let one : digit_of (get_or (last_marks same_pair (map pair_of triples)) j false) ≡ 1 = ap digit_of mark ∙ ap (λ b. digit_of (not b)) fails in
          ap not (ne_eqb _ _ (λ e. omega (arith, here, next, more, one, e)) ∙ sym fails)
    ]

-- the marks of pairs are those of their places
pub place_marks : (triples : List IdTriple) → IsRising triples
    → last_marks nat_eq (map (λ edge. edge.0) (pair_edges triples)) ≡ last_marks same_pair (map pair_of triples)
place_marks triples rising =
    let left : List Bool = last_marks nat_eq (map (λ edge. edge.0) (pair_edges triples)) in
    let edges_long = length-pair_edges triples in
    let places_long = length-map (pair_edges triples) (λ edge. edge.0) in
    let left_long = length-last_marks nat_eq (map (λ edge. edge.0) (pair_edges triples)) in
    let pairs_long = length-map triples pair_of in
    let right_long = length-last_marks same_pair (map pair_of triples) in
    ext_get_or false (last_marks nat_eq (map (λ edge. edge.0) (pair_edges triples))) (last_marks same_pair (map pair_of triples)) (omega arith) (λ j h.
    elim (cases_lt (j + 1) (length triples)) [
      | inr end ↦
          mark_last nat_eq (map (λ edge. edge.0) (pair_edges triples)) j (omega (arith, end)) ∙ sym (mark_last same_pair (map pair_of triples) j (omega (arith, end)))
      | inl inside ↦
          mark_at nat_eq (map (λ edge. edge.0) (pair_edges triples)) j 0 (omega (arith, inside))
          ∙ place_step triples j rising inside
          ∙ sym (mark_at same_pair (map pair_of triples) j (0, 0) (omega (arith, inside)))
    ])
