use Rattle.std.proofs.Common.{◌≡◌, length}
use Rattle.ts_chain.specs.Streams.{coming, left_in}
use Rattle.ts_chain.specs.Rising.{IsRisingStream}
use Rattle.ts_chain.proofs.stream.Stream.next_coming.Given as goal

abbrev pub invariant-loop-named : goal.invariant-loop-named
invariant-loop-named l = record {
  left : coming (left_in l.self) ≡ coming (left_in l.fn.self);
  rises : IsRisingStream l.self;
}

abbrev pub decreases-loop-named : goal.decreases-loop-named
decreases-loop-named l = length (left_in l.self)
