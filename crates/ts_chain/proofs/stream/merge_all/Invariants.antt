use Rattle.std.proofs.Common.{◌≡◌, [], All, length}
use Rattle.ts_chain.specs.Streams.{left_in_all}
use Rattle.ts_chain.specs.Rising.{IsRisingStream}
use Rattle.ts_chain.proofs.stream.merge_all.Given as goal

abbrev pub invariant-loop-alloc : goal.invariant-loop-alloc
invariant-loop-alloc l = record {
  left : left_in_all l.streams.items ≡ left_in_all l.fn.streams.items;
  rise : All IsRisingStream l.streams.items;
  some : l.streams.items ≡ [] → l.fn.streams.items ≡ [];
}

abbrev pub decreases-loop-alloc : goal.decreases-loop-alloc
decreases-loop-alloc l = length l.streams.items
