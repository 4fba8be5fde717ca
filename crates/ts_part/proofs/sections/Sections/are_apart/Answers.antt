use Rattle.ts_part.proofs.UsedLemmas.{apart_turned, iff_then, same_apart}
use Rattle.ts_part.proofs.sections.Sections.are_apart.Goals as goal

pub returns-then-len : goal.returns-then-len
returns-then-len c = λ facts tells.
    iff_then c.has_none_of.ensures
    (iff_then (same_apart c.removals-removals.result c.additions-additions.result facts.removals facts.additions (c.removals-removals.ensures facts tells) (c.additions-additions.ensures facts tells))
    (apart_turned facts.removals facts.additions))

pub returns-else-len : goal.returns-else-len
returns-else-len c = λ facts tells.
    iff_then c.has_none_of-else-len.ensures
    (same_apart c.additions-additions.result c.removals-removals.result facts.additions facts.removals (c.additions-additions.ensures facts tells) (c.removals-removals.ensures facts tells))
