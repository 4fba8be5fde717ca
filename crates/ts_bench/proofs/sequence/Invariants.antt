use Rattle.std.proofs.Common.{◌≤◌}
use Rattle.std.specs.List.{All}
use Rattle.ts_bench.proofs.sequence.Given as goal

abbrev pub invariant-loop : goal.invariant-loop
invariant-loop l = All (λ x. 1 ≤ x) l.numbers.items
