use Rattle.std.proofs.Common.{◌≡◌, ◌≤◌, ◌∷◌, false, map, take}
use Rattle.std.specs.List.{position_or_len}
use Rattle.ts_bits.specs.Rank.{rank}
use Rattle.ts_plane.specs.Groups.{last_marks}
use Rattle.ts_plane.specs.Parts.{pair_of, pairs_of, same_pair}
use Rattle.ts_plane.proofs.write.edges_of.Given as goal

abbrev pub invariant-loop-i : goal.invariant-loop-i
invariant-loop-i l = record {
  place : l.place ≡ rank (false ∷ last_marks same_pair (map pair_of l.triples)) l.i;
  few : l.place ≤ l.i;
  edges : l.edges.items ≡ map (λ t. (position_or_len (same_pair (pair_of t)) (pairs_of l.triples), t.o)) (take l.i l.triples);
}
