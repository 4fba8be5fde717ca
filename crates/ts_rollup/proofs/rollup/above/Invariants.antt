use Rattle.std.proofs.Common.{◌≡◌, ◌≤◌}
use Rattle.ts_rollup.specs.Rolled.{numbers_above}
use Rattle.ts_rollup.proofs.rollup.above.Given as goal

abbrev pub invariant-loop-id : goal.invariant-loop-id
invariant-loop-id l = (l.low ≤ l.id) × (l.ids.items ≡ numbers_above l.low l.id)
