use Rattle.std.proofs.Common.{◌↔◌, ◌+◌, length}
use Rattle.std.specs.List.Sorted.{IsStrictlySortedBy}
use Rattle.ts_model.specs.Order.{triple_cmp}
use Rattle.ts_plain.specs.PlainReading.{AreApart}
use Rattle.ts_plain.proofs.apart.are_apart.Given as goal

abbrev pub invariant-loop-addition : goal.invariant-loop-addition
invariant-loop-addition l = record {
  left_rises : IsStrictlySortedBy triple_cmp l.left;
  right_rises : IsStrictlySortedBy triple_cmp l.right;
  same : AreApart l.left l.right ↔ AreApart l.additions l.removals;
}

abbrev pub decreases-loop-addition : goal.decreases-loop-addition
decreases-loop-addition l = length l.left + length l.right
