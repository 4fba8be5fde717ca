-- The triples that the eight lists hold.
use Rattle.std.proofs.Common.{◌≡◌, ℕ, ◌<◌, length, get_or, arith}
use Rattle.std.proofs.lemmas.List.FromFn.{length-map-range_with_len, get_or-map-range_with_len}
use Rattle.ts_plane.specs.declared.triple.IdTriple.{IdTriple}
use Rattle.ts_plane.specs.Parts.{PlaneParts}
use Rattle.ts_plane.specs.Decoded.{triple_at, triples_in}

pub length-triples_in : (parts : PlaneParts) → length (triples_in parts) ≡ length parts.object_ends
unfolding triples_in
length-triples_in parts = length-map-range_with_len (triple_at parts) 0 (length parts.object_ends)

-- triple j
pub triple_of : (parts : PlaneParts) (j : ℕ) (d : IdTriple) → j < length parts.object_ends → get_or (triples_in parts) j d ≡ triple_at parts j
unfolding triples_in
triple_of parts j d h = get_or-map-range_with_len (triple_at parts) 0 (length parts.object_ends) j j d h (omega arith)
