use Rattle.std.proofs.Common.{◌≡◌, IfSome}
use Rattle.ts_model.specs.History.{content_at, content_at_parent}
use Rattle.ts_model.specs.Sets.{contains}
use Rattle.ts_plain.specs.Chain.{StandsIn}
use Rattle.ts_plain.specs.History.{history_of}
use Rattle.ts_plain.proofs.ChainLaws.{number_of, left}
use Rattle.ts_plain.proofs.lookup.holds.Given as goal

abbrev pub invariant-loop-next : goal.invariant-loop-next
invariant-loop-next l = record {
  same : contains (content_at_parent (history_of l.layers) (number_of l.next)) l.triple ≡ contains (content_at (history_of l.layers) l.number) l.triple;
  next : IfSome l.next (λ layer. StandsIn (history_of l.layers) layer.now);
}

abbrev pub decreases-loop-next : goal.decreases-loop-next
decreases-loop-next l = left l.next
