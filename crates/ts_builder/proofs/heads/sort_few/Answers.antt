use Rattle.ts_builder.proofs.HeadLemmas.{sort_moves}
use Rattle.ts_builder.proofs.heads.sort_few.Goals as goal

pub returns-then-run-gt1 : goal.returns-then-run-gt1
returns-then-run-gt1 c = sort_moves c.args.run.now c.sort_unstable_by.new.self c.sort_unstable_by.ensures.permutation
