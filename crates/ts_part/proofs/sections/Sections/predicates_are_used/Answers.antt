use Rattle.std.proofs.Common.{◌+◌, ap}
use Rattle.ts_part.proofs.ToldPlanes.{told_predicates}
use Rattle.ts_part.proofs.UsedLemmas.{iff_then, predicates_each}
use Rattle.ts_part.proofs.sections.Sections.predicates_are_used.Goals as goal

pub returns : goal.returns
returns c = λ facts tells.
    let h = c.args.self.now.header.now in
    iff_then c.has_each.ensures
    (predicates_each facts c.pair_predicates.result h.predicates_before (h.predicates_before + h.predicates)
    (c.pair_predicates.ensures facts tells) (ap (λ x. x.predicates_before) tells.headed) (told_predicates c.args.self.now facts tells))
