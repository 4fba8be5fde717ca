use Rattle.ts_log.proofs.WordsLemmas.{padding_by_rest}
use Rattle.ts_log.proofs.packed.padding_for.Goals as goal

pub returns : goal.returns
returns c = padding_by_rest c.args.width c.args.count
