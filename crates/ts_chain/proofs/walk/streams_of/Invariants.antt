use Rattle.std.proofs.Common.{◌≡◌, All, flat_map, take}
use Rattle.ts_chain.specs.Streams.{decided, left_in_all}
use Rattle.ts_chain.specs.Rising.{IsRisingStream}
use Rattle.ts_chain.specs.Walks.{part_walked}
use Rattle.ts_chain.proofs.walk.streams_of.Given as goal

abbrev pub invariant-loop-part : goal.invariant-loop-part
invariant-loop-part l = record {
  left : left_in_all l.streams.items ≡ decided (flat_map (λ part. part_walked l.fn.pattern l.fn.after part.value.facts) (take l.part-index l.parts));
  rise : All IsRisingStream l.streams.items;
}
