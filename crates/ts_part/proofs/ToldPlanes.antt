-- The planes and maps of a file whose sections are known to tell facts.
use Rattle.std.proofs.Common.{◌≡◌, ℕ, ◌+◌, ◌-◌, ◌≤◌, List, length, take, drop, sym, ◌∙◌, ap, subst, arith, All}
use Rattle.std.proofs.lemmas.List.{take-take, drop-take, take-map, drop-map}
use Rattle.std.proofs.lemmas.List.Elements.{All-take, All-drop}
use Rattle.ts_idmap.specs.IdMap.{MapSays}
use Rattle.ts_plane.specs.Plane.{PlaneSays, cut}
use Rattle.ts_plane.specs.Triple.{IsWithin}
use Rattle.ts_part.specs.declared.header.PartKind.{PartKind}
use Rattle.ts_part.specs.declared.header.PartKind.TheVariants.{Layer, Rollup}
use Rattle.ts_part.specs.declared.header.Header.{Header}
use Rattle.ts_part.specs.declared.sections.Sections.{Sections}
use Rattle.ts_part.specs.Facts.{Facts, all_terms, all_predicates}
use Rattle.ts_part.specs.Header.{section_count}
use Rattle.ts_part.specs.Layout.{of_kind}
use Rattle.ts_part.specs.Part.{MapsSay}
use Rattle.ts_part.specs.Rules.{MapsRule}
use Rattle.ts_part.specs.Sectioned.{sections_at}
use Rattle.ts_part.specs.Tells.{Tells}
use Rattle.ts_part.proofs.Told.{told_kind, told_sections}

-- a file has all planes
pub planes_there : (kind : PartKind) → 22 ≤ section_count kind
planes_there Layer = omega arith
planes_there Rollup = omega arith

-- eight sections are those at eight places
pub eight_cut : (file : List ℕ) (places : List (ℕ × ℕ)) (count from : ℕ) → from + 8 ≤ count
    → cut file (take 8 (drop from places)) ≡ take 8 (drop from (cut file (take count places)))
eight_cut file places count from h =
    let rest : from + (count - from) ≡ count = omega arith in
    let eight : take 8 (drop from places) ≡ take 8 (drop from (take count places)) =
    sym (take-take 8 (count - from) (drop from places) (omega arith))
    ∙ ap (take 8) (sym (drop-take from (count - from) places) ∙ ap (λ n. drop from (take n places)) rest) in
    ap (cut file) eight
    ∙ sym (take-map (λ (place : ℕ × ℕ). take place.1 (drop place.0 file)) 8 (drop from (take count places)))
    ∙ ap (take 8) (sym (drop-map (λ (place : ℕ × ℕ). take place.1 (drop place.0 file)) from (take count places)))

-- eight places lie in the file
pub eight_lie : (file : List ℕ) (places : List (ℕ × ℕ)) (from : ℕ) → All (λ place. place.0 + place.1 ≤ length file) places
    → All (λ place. place.0 + place.1 ≤ length file) (take 8 (drop from places))
eight_lie file places from all =
    All-take (λ (place : ℕ × ℕ). place.0 + place.1 ≤ length file) 8 (drop from places) (All-drop (λ (place : ℕ × ℕ). place.0 + place.1 ≤ length file) from places all)

pub told_additions : (s : Sections) (facts : Facts) → Tells s facts → PlaneSays (cut s.file.now (take 8 (drop 6 s.places.now))) facts.additions
told_additions s facts tells =
    let many = planes_there s.header.now.kind in
    subst (λ (sections : List (List ℕ)). PlaneSays sections facts.additions)
    (sym (eight_cut s.file.now s.places.now (section_count s.header.now.kind) 6 (omega arith)))
    (told_sections s facts tells).additions

pub told_removals : (s : Sections) (facts : Facts) → Tells s facts → PlaneSays (cut s.file.now (take 8 (drop 14 s.places.now))) facts.removals
told_removals s facts tells =
    let many = planes_there s.header.now.kind in
    subst (λ (sections : List (List ℕ)). PlaneSays sections facts.removals)
    (sym (eight_cut s.file.now s.places.now (section_count s.header.now.kind) 14 (omega arith)))
    (told_sections s facts tells).removals

pub told_terms : (s : Sections) (facts : Facts) → Tells s facts → all_terms facts ≡ s.header.now.terms_before + s.header.now.nodes + s.header.now.values
told_terms s facts tells = ap (λ (h : Header). h.terms_before + h.nodes + h.values) tells.headed

pub told_predicates : (s : Sections) (facts : Facts) → Tells s facts → all_predicates facts ≡ s.header.now.predicates_before + s.header.now.predicates
told_predicates s facts tells = ap (λ (h : Header). h.predicates_before + h.predicates) tells.headed

pub additions_within : (s : Sections) (facts : Facts) → Tells s facts
    → All (IsWithin (s.header.now.terms_before + s.header.now.nodes + s.header.now.values) (s.header.now.predicates_before + s.header.now.predicates)) facts.additions
additions_within s facts tells =
    subst (λ (h : Header). All (IsWithin (h.terms_before + h.nodes + h.values) (h.predicates_before + h.predicates)) facts.additions) tells.headed
    tells.lists.additions.within

pub removals_within : (s : Sections) (facts : Facts) → Tells s facts
    → All (IsWithin s.header.now.terms_before s.header.now.predicates_before) facts.removals
removals_within s facts tells =
    subst (λ (h : Header). All (IsWithin h.terms_before h.predicates_before) facts.removals) tells.headed tells.lists.removals.within

-- of a rollup, the two maps and how long they are
pub record ToldMaps (s : Sections) (facts : Facts) : Type 0 where
  pub terms : MapSays (of_kind (sections_at s) 23) facts.term_map
  pub predicates : MapSays (of_kind (sections_at s) 24) facts.predicate_map
  pub many_terms : length facts.term_map ≡ s.header.now.nodes + s.header.now.values
  pub many_predicates : length facts.predicate_map ≡ s.header.now.predicates

pub told_maps : (s : Sections) (facts : Facts) → Tells s facts → s.header.now.kind ≡ Rollup → ToldMaps s facts
told_maps s facts tells rollup =
    let kind : facts.kind ≡ Rollup = told_kind s facts tells ∙ rollup in
    let say = subst (λ (k : PartKind). MapsSay k (sections_at s) facts) kind (told_sections s facts tells).maps in
    let long = subst (λ (k : PartKind). MapsRule k facts) kind tells.lists.maps in
    record {
      terms = say.0;
      predicates = say.1;
      many_terms = long.1 ∙ ap (λ (h : Header). h.nodes + h.values) tells.headed;
      many_predicates = long.3 ∙ ap (λ (h : Header). h.predicates) tells.headed;
    }
