-- What a walk gives in several fetches, each made anew from after the last triple that came before.
use Rattle.std.specs.Prelude.{ℕ, List, [], ◌∷◌, ◌++◌, take, Option, Some}
use Rattle.ts_plane.specs.declared.pattern.IdPattern.{IdPattern}
use Rattle.ts_plane.specs.declared.triple.IdTriple.{IdTriple}
use Rattle.ts_part.specs.Facts.{Facts}
use Rattle.ts_chain.specs.Walks.{walked}

-- the last triple of some, and of none the one before
abbrev pub last_of : Option IdTriple → List IdTriple → Option IdTriple
last_of after [] = after
last_of after (t ∷ triples) = last_of (Some t) triples

-- fetches of at most so many triples
abbrev pub fetched : List Facts → IdPattern → Option IdTriple → List ℕ → List IdTriple
fetched parts pattern after [] = []
fetched parts pattern after (size ∷ sizes) =
    take size (walked parts pattern after) ++ fetched parts pattern (last_of after (take size (walked parts pattern after))) sizes
