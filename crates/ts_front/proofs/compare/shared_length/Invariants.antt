use Rattle.std.proofs.Common.{◌≡◌, ◌+◌, drop}
use Rattle.ts_front.specs.Shared.{shared_length}
use Rattle.ts_front.proofs.compare.shared_length.Given as goal

abbrev pub invariant-loop-i : goal.invariant-loop-i
invariant-loop-i l = l.i + shared_length (drop l.i l.a) (drop l.i l.b) ≡ shared_length l.a l.b
