use Rattle.ts_plain.specs.History.{AreHistory}
use Rattle.ts_plain.proofs.tests.history.Given as goal

abbrev pub invariant-loop-file : goal.invariant-loop-file
invariant-loop-file l = AreHistory l.layers.items
