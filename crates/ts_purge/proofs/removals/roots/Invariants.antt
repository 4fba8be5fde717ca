use Rattle.ts_purge.specs.Marks.{AreSeeds}
use Rattle.ts_purge.specs.Rows.{numbers_of}
use Rattle.ts_purge.proofs.removals.roots.Given as goal

abbrev pub invariant-loop-number : goal.invariant-loop-number
invariant-loop-number l = AreSeeds (numbers_of l.layers) l.named l.number-index l.kept.items
