-- The section of a kind is what lies at its place.
use Rattle.std.proofs.Common.{◌≡◌, ℕ, ◌-◌, ◌<◌, ◌≤◌, List, [], length, min, take, drop, get_or, sym, ◌∙◌, ap, arith}
use Rattle.std.proofs.lemmas.List.{get_or-map, get_or-take, length-map, length-take, length-take-le}
use Rattle.ts_plane.specs.Plane.{cut}
use Rattle.ts_part.specs.declared.header.PartKind.{PartKind}
use Rattle.ts_part.specs.declared.header.PartKind.TheVariants.{Layer, Rollup}
use Rattle.ts_part.specs.Header.{section_count}
use Rattle.ts_part.specs.Layout.{of_kind}
use Rattle.ts_part.specs.Places.{ArePlaces}

pub at_most_24 : (kind : PartKind) → section_count kind ≤ 24
at_most_24 Layer = omega arith
at_most_24 Rollup = omega arith

pub kind_at : (file : List ℕ) (places : List (ℕ × ℕ)) (count kind : ℕ) (d : ℕ × ℕ) → 1 ≤ kind → kind ≤ count → count ≤ length places
    → of_kind (cut file (take count places)) kind ≡ take (get_or places (kind - 1) d).1 (drop (get_or places (kind - 1) d).0 file)
kind_at file places count kind d some there few =
    let low : kind - 1 < count = omega arith in
    get_or-map (λ (place : ℕ × ℕ). take place.1 (drop place.0 file)) (take count places) (kind - 1) d [] (omega (arith, length-take-le count places few))
    ∙ ap (λ (place : ℕ × ℕ). take place.1 (drop place.0 file)) (get_or-take count places (kind - 1) d low)

-- there are as many places as sections
pub few_places : (file : List ℕ) (count : ℕ) (places : List (ℕ × ℕ)) → ArePlaces file count places → count ≤ length places
few_places file count places are =
    let many : min count (length places) ≡ count =
    sym (length-take count places) ∙ sym (length-map (take count places) (λ (place : ℕ × ℕ). take place.1 (drop place.0 file))) ∙ are.lie.counted in
    omega arith
