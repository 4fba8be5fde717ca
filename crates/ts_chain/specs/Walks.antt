-- Which triples a walk over a chain gives.
use Rattle.std.specs.Prelude.{ℕ, Bool, true, false, List, [], ◌++◌, flat_map, filter, map, Option, None, Some}
use Rattle.ts_model.specs.declared.pattern.Pattern.{Pattern}
use Rattle.ts_model.specs.History.{History}
use Rattle.ts_model.specs.Listing.{select}
use Rattle.ts_plane.specs.declared.pattern.IdPattern.{IdPattern}
use Rattle.ts_plane.specs.declared.triple.IdTriple.{IdTriple}
use Rattle.ts_plane.specs.Pattern.{is_after, walk_of}
use Rattle.ts_part.specs.Facts.{Facts}
use Rattle.ts_part.specs.Numbers.{id_triple}
use Rattle.ts_chain.specs.declared.stream.Stream.{Stream}
use Rattle.ts_chain.specs.Content.{triples_of}
use Rattle.ts_chain.specs.Streams.{all_named, coming, decided, left_in}

-- those that stand, fit the pattern and are greater than `after`, in their order
abbrev pub walked : List Facts → IdPattern → Option IdTriple → List IdTriple
walked parts pattern after = walk_of (triples_of parts) pattern after

-- the triples that a layer's listing has for a pattern, by number, as far as they are greater than `after`
abbrev pub selected : History → ℕ → Pattern → Option IdTriple → List IdTriple
selected history k pattern after = filter (is_after after) (map (id_triple history k) (select history k pattern))

-- what the parts, newest first, name of the walk
abbrev pub part_walked : IdPattern → Option IdTriple → Facts → List (IdTriple × Bool)
part_walked pattern after part =
    all_named true (walk_of part.additions pattern after) ++ all_named false (walk_of part.removals pattern after)

abbrev pub all_walked : List Facts → IdPattern → Option IdTriple → List (IdTriple × Bool)
all_walked parts pattern after = decided (flat_map (part_walked pattern after) parts)

-- what a walk has left
abbrev pub walk_left : Option Stream → List IdTriple
walk_left None = []
walk_left (Some stream) = coming (left_in stream)
