use Rattle.std.proofs.Common.{take, drop, subst, arith}
use Rattle.std.proofs.lemmas.List.{length-map}
use Rattle.ts_plane.specs.Decoded.{triples_in}
use Rattle.ts_plane.specs.Plane.{cut}
use Rattle.ts_plane.specs.Read.{parts_in}
use Rattle.ts_plane.specs.Rules.{KeepsBefore}
use Rattle.ts_plane.proofs.ExactLemmas.{parts_exact}
use Rattle.ts_plane.proofs.OnlyLemmas.{one_plane}
use Rattle.ts_plane.proofs.OpenLemmas.{kept_plane, kept_say, kept_within}
use Rattle.ts_plane.proofs.view.PlaneView.open.Goals as goal

pub invariant_of-result : goal.invariant_of-result
invariant_of-result c =
    kept_plane (cut c.args.file.now c.args.places.now) c.args.terms c.args.predicates (parts_in c.in_ok-sections.sections) c.in_ok-sections.ensures.keep

pub returns-clause-says : goal.returns-clause-says
returns-clause-says c =
    kept_say (cut c.args.file.now c.args.places.now) c.args.terms c.args.predicates (parts_in c.in_ok-sections.sections)
    (omega (arith, length-map c.args.places.now (λ place. take place.1 (drop place.0 c.args.file.now)), c.told-places)) c.in_ok-sections.ensures.keep

pub returns-clause-only : goal.returns-clause-only
returns-clause-only c = λ others says.
    one_plane (cut c.args.file.now c.args.places.now) others (triples_in (parts_in c.in_ok-sections.sections)) says
    (kept_say (cut c.args.file.now c.args.places.now) c.args.terms c.args.predicates (parts_in c.in_ok-sections.sections)
    (omega (arith, length-map c.args.places.now (λ place. take place.1 (drop place.0 c.args.file.now)), c.told-places)) c.in_ok-sections.ensures.keep)

pub returns-clause-within : goal.returns-clause-within
returns-clause-within c =
    kept_within (cut c.args.file.now c.args.places.now) c.args.terms c.args.predicates (parts_in c.in_ok-sections.sections) c.in_ok-sections.ensures.keep

pub returns-clause-keep : goal.returns-clause-keep
returns-clause-keep c =
    subst (λ parts. KeepsBefore (cut c.args.file.now c.args.places.now) c.args.terms c.args.predicates parts 8)
    (parts_exact (cut c.args.file.now c.args.places.now) c.args.terms c.args.predicates (parts_in c.in_ok-sections.sections) c.in_ok-sections.ensures.keep)
    c.in_ok-sections.ensures.keep
