use Rattle.std.proofs.Common.{◌≡◌, take}
use Rattle.ts_log.specs.LogArray.{greatest}
use Rattle.ts_log.proofs.write.width_of.Given as goal

abbrev pub invariant-loop-x : goal.invariant-loop-x
invariant-loop-x l = l.greatest ≡ greatest (take l.x-index l.numbers)
