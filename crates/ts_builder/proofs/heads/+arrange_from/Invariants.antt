use Rattle.std.proofs.Common.{◌≡◌, ◌-◌, ◌≤◌, length}
use Rattle.std.specs.List.Sorted.{IsPermutation}
use Rattle.ts_builder.specs.Ranks.{placed}
use Rattle.ts_builder.proofs.heads.+arrange_from.Given as goal

abbrev pub decreases-arrange_from : goal.decreases-arrange_from
decreases-arrange_from l = l.rounds

abbrev pub invariant-loop-start : goal.invariant-loop-start
invariant-loop-start l = record {
  moved : IsPermutation (placed l.fn.part) (placed l.part);
  many : length l.part ≡ length l.initial.part;
  within : l.start ≤ length l.part;
}

abbrev pub decreases-loop-start : goal.decreases-loop-start
decreases-loop-start l = length l.initial.part - l.start
