use Rattle.std.proofs.Common.{◌≡◌, List, sym, ◌∙◌, ap, subst, All}
use Rattle.ts_plane.specs.declared.triple.IdTriple.{IdTriple}
use Rattle.ts_plane.specs.Decoded.{IsPlane, triples_in}
use Rattle.ts_plane.specs.Parts.{parts_of}
use Rattle.ts_plane.specs.Plane.{PlaneSays, cut}
use Rattle.ts_plane.specs.Read.{parts_in}
use Rattle.ts_plane.specs.Rules.{KeepsBefore}
use Rattle.ts_plane.specs.Triple.{IsWithin}
use Rattle.ts_plane.proofs.DecodeLemmas.{decoded}
use Rattle.ts_plane.proofs.OpenLemmas.{kept_plane}
use Rattle.ts_plane.proofs.SaidLemmas.{said_keeps}
use Rattle.ts_plane.proofs.view.PlaneView.of_checked.Goals as goal

pub invariant_of-result : goal.invariant_of-result
invariant_of-result c =
    subst IsPlane (sym (c.checked_sections.ensures c.requires.said.0 c.requires.said.1))
    (kept_plane (cut c.args.file.now c.args.places.now) c.args.terms c.args.predicates (parts_of c.requires.said.0)
    (said_keeps (cut c.args.file.now c.args.places.now) c.args.terms c.args.predicates c.requires.said.0 c.requires.said.1 c.requires.said.2))

pub returns-clause-says : goal.returns-clause-says
returns-clause-says c =
    let same : triples_in (parts_in c.checked_sections.result) ≡ c.requires.said.0 =
    ap triples_in (c.checked_sections.ensures c.requires.said.0 c.requires.said.1) ∙ decoded c.requires.said.0 c.requires.said.1.list.rising in
    subst (PlaneSays (cut c.args.file.now c.args.places.now)) (sym same) c.requires.said.1

pub returns-clause-only : goal.returns-clause-only
returns-clause-only c = λ others says.
    sym (decoded others says.list.rising) ∙ ap triples_in (sym (c.checked_sections.ensures others says))

pub returns-clause-within : goal.returns-clause-within
returns-clause-within c =
    let same : triples_in (parts_in c.checked_sections.result) ≡ c.requires.said.0 =
    ap triples_in (c.checked_sections.ensures c.requires.said.0 c.requires.said.1) ∙ decoded c.requires.said.0 c.requires.said.1.list.rising in
    subst (All (IsWithin c.args.terms c.args.predicates)) (sym same) c.requires.said.2

pub returns-clause-keep : goal.returns-clause-keep
returns-clause-keep c =
    let same : triples_in (parts_in c.checked_sections.result) ≡ c.requires.said.0 =
    ap triples_in (c.checked_sections.ensures c.requires.said.0 c.requires.said.1) ∙ decoded c.requires.said.0 c.requires.said.1.list.rising in
    subst (λ (triples : List IdTriple). KeepsBefore (cut c.args.file.now c.args.places.now) c.args.terms c.args.predicates (parts_of triples) 8) (sym same)
    (said_keeps (cut c.args.file.now c.args.places.now) c.args.terms c.args.predicates c.requires.said.0 c.requires.said.1 c.requires.said.2)
