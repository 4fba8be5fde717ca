-- The sections at the places that a file's table tells.
use Rattle.std.specs.Prelude.{ℕ, List, take}
use Rattle.ts_plane.specs.Plane.{cut}
use Rattle.ts_part.specs.declared.sections.Sections.{Sections}
use Rattle.ts_part.specs.Header.{section_count}
use Rattle.ts_part.specs.Places.{ArePlaces}

abbrev pub sections_at : Sections → List (List ℕ)
sections_at s = cut s.file.now (take (section_count s.header.now.kind) s.places.now)

abbrev pub HasPlaces : Sections → Type 0
HasPlaces s = ArePlaces s.file.now (section_count s.header.now.kind) s.places.now
