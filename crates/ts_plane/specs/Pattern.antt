-- Which triples a walk gives.
use Rattle.std.specs.Prelude.{◌≡◌, ℕ, Bool, true, ◌==◌, ◌&&◌, Option, Some, None, List, [], ◌∷◌, refl}
use Rattle.std.specs.List.{filter}
use Rattle.std.specs.Ordering.{is_lt}
use Rattle.ts_plane.specs.declared.triple.IdTriple.{IdTriple}
use Rattle.ts_plane.specs.declared.pattern.IdPattern.{IdPattern}
use Rattle.ts_plane.specs.Triple.{triple_cmp}

-- a part of a pattern asks for its number, or for any
abbrev pub part_fits : Option ℕ → ℕ → Bool
part_fits None x = true
part_fits (Some y) x = y == x

-- a triple fits where each part does
abbrev pub fits : IdPattern → IdTriple → Bool
fits pattern t = part_fits pattern.s t.s && part_fits pattern.p t.p && part_fits pattern.o t.o

-- the triple is greater than this one, where there is one
abbrev pub is_after : Option IdTriple → IdTriple → Bool
is_after None t = true
is_after (Some last) t = is_lt (triple_cmp last t)

-- the triples that fit and are greater than `after`, in their order
unfoldable pub walk_of : List IdTriple → IdPattern → Option IdTriple → List IdTriple
walk_of triples pattern after = filter (λ t. fits pattern t && is_after after t) triples

-- of two triples with the object 2, those after the first: the second alone
pub walk_after_first : walk_of (record { s = 4; p = 1; o = 2 } ∷ record { s = 5; p = 1; o = 2 } ∷ [])
    (record { s = None; p = None; o = Some 2 }) (Some (record { s = 4; p = 1; o = 2 })) ≡ record { s = 5; p = 1; o = 2 } ∷ []
unfolding walk_of
walk_after_first = refl

-- and after (4, 1, 3), which doesn't stand, the same
pub walk_after_absent : walk_of (record { s = 4; p = 1; o = 2 } ∷ record { s = 5; p = 1; o = 2 } ∷ [])
    (record { s = None; p = None; o = Some 2 }) (Some (record { s = 4; p = 1; o = 3 })) ≡ record { s = 5; p = 1; o = 2 } ∷ []
unfolding walk_of
walk_after_absent = refl
