use Rattle.std.specs.Prelude.{IfSome}
use Rattle.ts_front.proofs.PushLemmas.{EndsWith}
use Rattle.ts_bench.proofs.dictionary.Given as goal

abbrev pub invariant-loop-number : goal.invariant-loop-number
invariant-loop-number l = IfSome l.builder (EndsWith l.last)
