use Rattle.std.proofs.Common.{subst}
use Rattle.ts_idmap.specs.IdMap.{MapSays}
use Rattle.ts_part.proofs.check.fault_of_map.Goals as goal

pub returns-in-Some-clause-none : goal.returns-in-Some-clause-none
returns-in-Some-clause-none c = λ e.
    (c.in-Some.field-0, record { says = subst (λ b. MapSays b c.in-Some.field-0) c.bytes_of.ensures c.in-Some.ensures.some.1; counted = c.in-Some.ensures.some.0 })
