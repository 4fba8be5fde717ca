use Rattle.std.proofs.Common.{take}
use Rattle.ts_log.proofs.StreamLemmas.{IsStreamed}
use Rattle.ts_log.proofs.write.write_words.Given as goal

abbrev pub invariant-loop-x : goal.invariant-loop-x
invariant-loop-x l = IsStreamed l.width (take l.x-index l.numbers) l.fn.into.items l.into.items l.pending l.filled
