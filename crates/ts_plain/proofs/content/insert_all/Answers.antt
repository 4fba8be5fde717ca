use Rattle.std.proofs.Common.{arith}
use Rattle.ts_plain.proofs.HeldLaws.{one_more_held}
use Rattle.ts_plain.proofs.content.insert_all.Goals as goal

pub loop-triple-preserved : goal.loop-triple-preserved
loop-triple-preserved c = λ triple. one_more_held c.args.triples.now c.loop-triple.triple-index _ triple _ _ _ (omega arith) c.triple-item.is (c.in_ok-insert.ensures.updates.0 (record { ref_ptr = (0, 0); now = triple })) (c.loop-triple.invariant triple)
