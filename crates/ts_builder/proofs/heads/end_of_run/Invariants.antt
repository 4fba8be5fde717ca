use Rattle.std.proofs.Common.{◌-◌, ◌<◌, ◌≤◌, length}
use Rattle.ts_builder.proofs.heads.end_of_run.Given as goal

abbrev pub invariant-loop-end : goal.invariant-loop-end
invariant-loop-end l = record {
  further : l.start < l.end;
  within : l.end ≤ length l.part;
}

abbrev pub decreases-loop-end : goal.decreases-loop-end
decreases-loop-end l = length l.part - l.end
