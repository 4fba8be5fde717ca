use Rattle.std.proofs.Common.{◌≡◌, ◌++◌}
use Rattle.ts_rollup.proofs.difference.append_rest.Given as goal

abbrev pub invariant-loop-triple : goal.invariant-loop-triple
invariant-loop-triple l = l.into.items ++ l.triple-iterator ≡ l.initial.into.items ++ l.initial.triple-iterator
