use Rattle.std.proofs.Common.{◌≡◌, ℕ, ◌+◌, ◌-◌, ◌≤◌, List, All, IfNone, IfSome, length, drop, refl, sym, ◌∙◌, ap, subst, arith}
use Rattle.std.proofs.lemmas.List.Elements.{All-drop, All-take}
use Rattle.ts_plane.specs.Parts.{PlaneParts}
use Rattle.ts_plane.specs.Plane.{cut}
use Rattle.ts_part.specs.Faults.{IsPlaneFault, NeedsMarks}
use Rattle.ts_part.specs.Header.{section_count}
use Rattle.ts_part.specs.Layout.{plane_from}
use Rattle.ts_part.specs.Sectioned.{sections_at}
use Rattle.ts_part.specs.Sections.{PlaneRule}
use Rattle.ts_part.proofs.CheckLemmas.{eight_cut}
use Rattle.ts_part.proofs.check.fault_of_plane.Goals as goal

pub plane_fault-requires : goal.plane_fault-requires
plane_fault-requires c =
    let fits = λ (place : ℕ × ℕ). place.0 + place.1 ≤ length c.args.s.now.file.now in
    subst (All (λ (place : ℕ × ℕ). place.0 + place.1 ≤ length c.args.s.now.file.now)) (sym c.eight_from.ensures)
    (All-take fits 8 (drop (c.args.first - 1) c.args.s.now.places.now) (All-drop fits (c.args.first - 1) c.args.s.now.places.now c.requires.placed.inside))

pub returns-in-Ok-clause-none : goal.returns-in-Ok-clause-none
returns-in-Ok-clause-none c =
    let kind = c.args.s.now.header.now.kind in
    let eight : cut c.args.s.now.file.now c.eight_from.result ≡ plane_from (sections_at c.args.s.now) c.args.first =
    ap (cut c.args.s.now.file.now) c.eight_from.ensures
    ∙ eight_cut c.args.s.now.file.now (section_count kind) c.args.first c.args.s.now.places.now (omega (arith, c.requires.some, c.requires.there)) in
    subst (λ (eight : List (List ℕ)). IfNone c.in-Ok.fault ((parts : PlaneParts) × PlaneRule c.args.terms c.args.predicates c.args.count eight parts 8)) eight
    c.in-Ok.ensures.none

pub returns-in-Ok-clause-some : goal.returns-in-Ok-clause-some
returns-in-Ok-clause-some c =
    let kind = c.args.s.now.header.now.kind in
    let eight : cut c.args.s.now.file.now c.eight_from.result ≡ plane_from (sections_at c.args.s.now) c.args.first =
    ap (cut c.args.s.now.file.now) c.eight_from.ensures
    ∙ eight_cut c.args.s.now.file.now (section_count kind) c.args.first c.args.s.now.places.now (omega (arith, c.requires.some, c.requires.there)) in
    subst (λ (eight : List (List ℕ)). IfSome c.in-Ok.fault (IsPlaneFault c.args.terms c.args.predicates c.args.count eight)) eight c.in-Ok.ensures.some

pub returns-in-Err-clause-memory : goal.returns-in-Err-clause-memory
returns-in-Err-clause-memory c =
    let kind = c.args.s.now.header.now.kind in
    let eight : cut c.args.s.now.file.now c.eight_from.result ≡ plane_from (sections_at c.args.s.now) c.args.first =
    ap (cut c.args.s.now.file.now) c.eight_from.ensures
    ∙ eight_cut c.args.s.now.file.now (section_count kind) c.args.first c.args.s.now.places.now (omega (arith, c.requires.some, c.requires.there)) in
    let needs = c.in-Err.ensures.memory in
    (refl, needs.0, subst (λ (eight : List (List ℕ)). NeedsMarks c.args.terms c.args.predicates c.args.count eight needs.0) eight needs.1)
