use Rattle.ts_plain.specs.Held.{birth_in}
use Rattle.ts_plain.proofs.HeldLaws.{noted_first, noted_already}
use Rattle.ts_plain.proofs.births.note.Goals as goal

pub returns-in_ok-insert : goal.returns-in_ok-insert
returns-in_ok-insert c = λ other. noted_first (birth_in c.args.births.now) c.args.term.now other c.args.place _ (cc) (c.in_ok-insert.ensures.updates.0 (record { ref_ptr = (0, 0); now = other }))

pub returns-else-not-contains_key : goal.returns-else-not-contains_key
returns-else-not-contains_key c = λ other. noted_already (birth_in c.args.births.now) c.args.term.now other c.args.place cc
