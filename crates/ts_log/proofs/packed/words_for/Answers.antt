use Rattle.ts_log.specs.LogArray.{words_for}
use Rattle.ts_log.proofs.ElementLemmas.{words_for_split}
use Rattle.ts_log.proofs.packed.words_for.Goals as goal

pub returns : goal.returns
unfolding words_for
returns c = words_for_split c.args.width c.args.count
