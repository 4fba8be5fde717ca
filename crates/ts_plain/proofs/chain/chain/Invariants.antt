use Rattle.std.proofs.Common.{◌≡◌, ◌++◌, map, All, IfSome}
use Rattle.ts_model.specs.History.{chain_of}
use Rattle.ts_model.proofs.HistoryLaws.{chain_from}
use Rattle.ts_plain.specs.Chain.{StandsIn}
use Rattle.ts_plain.specs.History.{history_of}
use Rattle.ts_plain.proofs.ChainLaws.{number_of, left}
use Rattle.ts_plain.proofs.chain.chain.Given as goal

abbrev pub invariant-loop-next : goal.invariant-loop-next
invariant-loop-next l = record {
  numbers : map (λ layer. layer.now.number) l.chain.items ++ chain_from (history_of l.layers) (number_of l.next) ≡ chain_of (history_of l.layers) l.number;
  stand : All (λ layer. StandsIn (history_of l.layers) layer.now) l.chain.items;
  next : IfSome l.next (λ layer. StandsIn (history_of l.layers) layer.now);
}

abbrev pub decreases-loop-next : goal.decreases-loop-next
decreases-loop-next l = left l.next
