use Rattle.std.proofs.Common.{◌≤◌, length}
use Rattle.ts_builder.proofs.heads.shared_front.Given as goal

abbrev pub invariant-loop-occurrence : goal.invariant-loop-occurrence
invariant-loop-occurrence l = l.shared ≤ length l.front
