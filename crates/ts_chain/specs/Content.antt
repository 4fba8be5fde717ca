-- The triples of a chain, by number: of the parts that name a triple the newest decides.
use Rattle.std.specs.Prelude.{ℕ, Bool, false, not, ◌||◌, ◌&&◌, List, [], ◌∷◌, length, map, flat_map, sum}
use Rattle.std.specs.List.{list_any}
use Rattle.std.specs.Ordering.{eq_by_cmp}
use Rattle.ts_model.specs.Sets.{SetOf, from_list, members, retain}
use Rattle.ts_plane.specs.declared.triple.IdTriple.{IdTriple}
use Rattle.ts_plane.specs.Triple.{triple_cmp}
use Rattle.ts_part.specs.Facts.{Facts}

abbrev pub has : List IdTriple → IdTriple → Bool
has triples t = list_any (eq_by_cmp triple_cmp t) triples

-- the newest part that names the triple has it among those that come
abbrev pub stands_in : List Facts → IdTriple → Bool
stands_in [] t = false
stands_in (part ∷ parts) t = has part.additions t || (not (has part.removals t) && stands_in parts t)

-- each triple that comes with a part
abbrev pub coming_in : List Facts → SetOf triple_cmp
coming_in parts = from_list (flat_map (λ part. part.additions) parts)

-- those that stand, rising
unfoldable pub triples_of : List Facts → List IdTriple
triples_of parts = members (retain (coming_in parts) (stands_in parts))

-- how many triples come with the parts, and how many go
abbrev pub come_count : List Facts → ℕ
come_count parts = sum (map (λ part. length part.additions) parts)

abbrev pub go_count : List Facts → ℕ
go_count parts = sum (map (λ part. length part.removals) parts)
