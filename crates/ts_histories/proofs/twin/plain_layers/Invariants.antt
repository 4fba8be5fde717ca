use Rattle.ts_plain.specs.History.{AreHistory}
use Rattle.ts_histories.proofs.twin.plain_layers.Given as goal

abbrev pub invariant-loop-layer : goal.invariant-loop-layer
invariant-loop-layer l = AreHistory l.plain.items
