-- The open cursors of a session.
use Rattle.std.specs.Prelude.{ℕ, List, [], unwrap_or}
use Rattle.std.specs.Ordering.{nat_cmp}
use Rattle.std.specs.Cmp.Lexicographic.{slice_cmp}
use Rattle.std.specs.FinMap.{FinMap, get}
use Rattle.ts_model.specs.TextTriple.{TextTriple}

-- under the bytes of the name of each cursor, the triples that it has still to give
abbrev pub Cursors : Type 0
Cursors = FinMap (slice_cmp nat_cmp) (List TextTriple)

-- so many may be open at once
abbrev pub most_cursors : ℕ
most_cursors = 64

-- what is left of a cursor, and nothing where none is open
abbrev pub left_of : Cursors → List ℕ → List TextTriple
left_of cursors name = unwrap_or (get cursors name) []
