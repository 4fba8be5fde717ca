-- The lists of triples hold the triples.
use Rattle.std.proofs.Common.{◌≡◌, ℕ, ◌<◌, List, map, length, get_or, sym, ◌∙◌, ap, arith, nat_eq, eqb-true}
use Rattle.std.proofs.lemmas.List.{length-map, get_or-map, ext_get_or}
use Rattle.ts_bits.specs.Rank.{rank}
use Rattle.ts_adjacency.proofs.RowLemmas.{row_within}
use Rattle.ts_plane.specs.declared.triple.IdTriple.{IdTriple}
use Rattle.ts_plane.specs.Triple.{IsRising}
use Rattle.ts_plane.specs.Groups.{last_marks}
use Rattle.ts_plane.specs.Parts.{PlaneParts, pair_of, same_pair, pairs_of, parts_of}
use Rattle.ts_plane.specs.Decoded.{triple_at, triples_in}
use Rattle.ts_plane.proofs.DecodedLemmas.{length-triples_in, triple_of}
use Rattle.ts_plane.proofs.GroupLemmas.{distinct_at}
use Rattle.ts_plane.proofs.GroupMembers.{length-last_marks, dedup_count, marks_closed}
use Rattle.ts_plane.proofs.Orders.{no_triple, same_is}
use Rattle.ts_plane.proofs.PartLemmas.{first, second, subjects_are}

triple_same : (a b : IdTriple) → a.s ≡ b.s → a.p ≡ b.p → a.o ≡ b.o → a ≡ b
triple_same a b s p o =
    ap (λ x. record { s = x; p = a.p; o = a.o }) s ∙ ap (λ x. record { s = b.s; p = x; o = a.o }) p ∙ ap (λ x. record { s = b.s; p = b.p; o = x }) o

-- the pair of a triple, by its row
pair_row : (triples : List IdTriple) (j : ℕ) → j < length triples → rank (last_marks same_pair (map pair_of triples)) j < length (pairs_of triples)
unfolding pairs_of
pair_row triples j h =
    omega (
      arith,
      row_within (last_marks same_pair (map pair_of triples)) j (marks_closed same_pair (map pair_of triples)) (omega (arith, length-last_marks same_pair (map pair_of triples), length-map triples pair_of)),
      dedup_count same_pair same_is (map pair_of triples),
    )

pair_there : (triples : List IdTriple) (j : ℕ) → j < length triples
    → get_or (pairs_of triples) (rank (last_marks same_pair (map pair_of triples)) j) (0, 0) ≡ pair_of (get_or triples j no_triple)
unfolding pairs_of
pair_there triples j h =
    distinct_at same_pair same_is (map pair_of triples) j (0, 0) (omega (arith, length-map triples pair_of)) ∙ get_or-map pair_of triples j no_triple (0, 0) h

pub decoded : (triples : List IdTriple) → IsRising triples → triples_in (parts_of triples) ≡ triples
unfolding parts_of
decoded triples rising =
    let parts : PlaneParts = parts_of triples in
    let long = length-triples_in (parts_of triples) ∙ length-last_marks same_pair (map pair_of triples) ∙ length-map triples pair_of in
    ext_get_or no_triple (triples_in (parts_of triples)) triples long (λ j h.
    (let within : j < length triples = omega (arith, long) in
    let q : ℕ = rank (last_marks same_pair (map pair_of triples)) j in
    let row = pair_row triples j within in
    let pair = pair_there triples j within in
    triple_of (parts_of triples) j no_triple (omega (arith, length-last_marks same_pair (map pair_of triples), length-map triples pair_of))
    ∙ triple_same (triple_at (parts_of triples) j) (get_or triples j no_triple)
    (ap (λ l. get_or l (rank (last_marks nat_eq (map first (pairs_of triples))) (rank (last_marks same_pair (map pair_of triples)) j)) 0) (sym (subjects_are triples rising))
    ∙ distinct_at nat_eq eqb-true (map first (pairs_of triples)) (rank (last_marks same_pair (map pair_of triples)) j) 0 (omega (arith, row, length-map (pairs_of triples) first))
    ∙ get_or-map first (pairs_of triples) (rank (last_marks same_pair (map pair_of triples)) j) (0, 0) 0 row ∙ ap first pair)
    (get_or-map second (pairs_of triples) (rank (last_marks same_pair (map pair_of triples)) j) (0, 0) 0 row ∙ ap second pair)
    (get_or-map (λ t. t.o) triples j no_triple 0 within)))
