use Rattle.std.specs.Prelude.{IfSome}
use Rattle.ts_front.proofs.PushLemmas.{EndsWith}
use Rattle.ts_front.proofs.tests.many_entries.Given as goal

abbrev pub invariant-loop-number : goal.invariant-loop-number
invariant-loop-number g l = IfSome l.builder (EndsWith l.last)
