use Rattle.std.proofs.Common.{◌+◌, ◌⊎◌, Contains}
use Rattle.ts_part.specs.Merged.{HasEach, IsReached}
use Rattle.ts_part.proofs.together.are_in_either.Given as goal

abbrev pub invariant-loop-before : goal.invariant-loop-before
invariant-loop-before l = record {
  one : IsReached l.one (l.before + 1) l.i;
  other : IsReached l.other (l.before + 1) l.j;
  each : HasEach (λ number. Contains l.one number ⊎ Contains l.other number) l.low l.before;
}
