use Rattle.std.proofs.Common.{◌≡◌, ◌++◌, map, IfSome}
use Rattle.ts_plain.specs.Chain.{StandsIn}
use Rattle.ts_plain.specs.History.{history_of}
use Rattle.ts_plain.proofs.ChainLaws.{number_of, left}
use Rattle.ts_plain.proofs.GrowthLaws.{added_from}
use Rattle.ts_plain.proofs.totals.totals_after.Given as goal

abbrev pub invariant-loop-next : goal.invariant-loop-next
invariant-loop-next l = record {
  same : map (λ triple. triple.now) l.triples.items ++ added_from (history_of l.layers) (number_of l.next) ≡ l.additions ++ added_from (history_of l.layers) l.fn.parent;
  next : IfSome l.next (λ layer. StandsIn (history_of l.layers) layer.now);
}

abbrev pub decreases-loop-next : goal.decreases-loop-next
decreases-loop-next l = left l.next
