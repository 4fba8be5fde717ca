use Rattle.std.proofs.Common.{length, sym, ap, arith}
use Rattle.ts_front.proofs.EntriesLemmas.{entries_none}
use Rattle.ts_front.proofs.entries.Entries.new.Goals as goal

pub invariant_of-result : goal.invariant_of-result
invariant_of-result c = (omega arith, sym (ap length (entries_none c.args.view)))
