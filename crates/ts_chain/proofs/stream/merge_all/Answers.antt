use Rattle.std.proofs.Common.{◌≡◌, IfSome, arith, subst}
use Rattle.std.proofs.lemmas.List.Elements.{All-pop}
use Rattle.ts_chain.specs.Streams.{left_in}
use Rattle.ts_chain.specs.Rising.{IsRisingStream}
use Rattle.ts_chain.proofs.PairLemmas.{left-last}
use Rattle.ts_chain.proofs.stream.merge_all.Goals as goal

pub returns-clause-some : goal.returns-clause-some
returns-clause-some c =
    let last = left-last c.loop-alloc.streams.items c.pop.new.self.items c.pop.result c.loop-alloc.invariant.rise (omega (arith, c.loop-alloc.streams.ok.0)) c.pop.ensures.items in
    subst (λ l. IfSome c.pop.result (λ stream. left_in stream ≡ l)) c.loop-alloc.invariant.left last

pub returns-clause-rises : goal.returns-clause-rises
returns-clause-rises c = (All-pop IsRisingStream c.loop-alloc.streams.items c.pop.new.self.items c.pop.result c.pop.ensures.items c.loop-alloc.invariant.rise).1
