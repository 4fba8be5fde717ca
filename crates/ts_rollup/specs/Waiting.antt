-- A walk whose next triple was taken already.
use Rattle.std.specs.Prelude.{◌≡◌, not, List, [], ◌++◌, filter, Option, None}
use Rattle.std.specs.Option.{option_to_list}
use Rattle.std.specs.Ordering.{is_lt}
use Rattle.ts_plane.specs.declared.triple.IdTriple.{IdTriple}
use Rattle.ts_plane.specs.Triple.{IsRising, triple_cmp}

-- the triple that was taken, and those behind it
abbrev pub waiting : Option IdTriple → List IdTriple → List IdTriple
waiting next rest = option_to_list next ++ rest

-- they rise, and where none was taken, none is left
pub record AreWaiting (next : Option IdTriple) (rest : List IdTriple) : Type 0 where
  pub rising : IsRising (waiting next rest)
  pub ended : next ≡ None → rest ≡ []

-- those below a triple, and the others
abbrev pub below : IdTriple → List IdTriple → List IdTriple
below limit triples = filter (λ t. is_lt (triple_cmp t limit)) triples

abbrev pub from : IdTriple → List IdTriple → List IdTriple
from limit triples = filter (λ t. not (is_lt (triple_cmp t limit))) triples
