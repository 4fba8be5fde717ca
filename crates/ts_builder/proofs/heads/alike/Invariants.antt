use Rattle.std.proofs.Common.{◌-◌, ◌≤◌, length}
use Rattle.ts_builder.proofs.heads.alike.Given as goal

abbrev pub invariant-loop-count : goal.invariant-loop-count
invariant-loop-count l = l.count ≤ length l.a

abbrev pub decreases-loop-count : goal.decreases-loop-count
decreases-loop-count l = length l.a - l.count
