use Rattle.std.proofs.Common.{◌-◌}
use Rattle.ts_chain.proofs.Narrowing.{IsNarrowed}
use Rattle.ts_chain.proofs.chain.Chain.place_of.Given as goal

abbrev pub invariant-loop-low : goal.invariant-loop-low
invariant-loop-low l = IsNarrowed l.numbered l.self l.id l.low l.high

abbrev pub decreases-loop-low : goal.decreases-loop-low
decreases-loop-low l = l.high - l.low
