use Rattle.ts_plane.specs.Plane.{cut}
use Rattle.std.proofs.Common.{subst}
use Rattle.ts_part.specs.Faults.{IsPlaneError}
use Rattle.ts_part.proofs.PlaneFaults.{marked_fault}
use Rattle.ts_part.proofs.planes.plane_fault.Goals as goal

pub returns-in-Ok-clause-some : goal.returns-in-Ok-clause-some
returns-in-Ok-clause-some c =
    let sections = cut c.args.file.now c.args.places.now in
    marked_fault sections c.args.terms c.args.predicates c.args.count c.in-Some-Unmarked.later c.in-Ok.fault
    (subst (IsPlaneError c.args.terms c.args.predicates c.args.count sections) c.in-Some-Unmarked.field-0-is c.in-Some-Unmarked.ensures.some)
    c.in-Ok.ensures
