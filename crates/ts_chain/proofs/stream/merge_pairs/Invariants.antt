use Rattle.std.proofs.Common.{◌≡◌, ◌++◌, All, length}
use Rattle.ts_chain.specs.Streams.{left_in_all}
use Rattle.ts_chain.specs.Rising.{IsRisingStream}
use Rattle.ts_chain.proofs.PairLemmas.{IsHalfway}
use Rattle.ts_chain.proofs.stream.merge_pairs.Given as goal

abbrev pub invariant-loop-newer : goal.invariant-loop-newer
invariant-loop-newer l = record {
  left : left_in_all (l.pairs.items ++ l.rest.rest.items) ≡ left_in_all l.fn.streams.items;
  made : All IsRisingStream l.pairs.items;
  waiting : All IsRisingStream l.rest.rest.items;
  half : IsHalfway (length l.fn.streams.items) (length l.pairs.items) l.rest.rest.len;
}

abbrev pub decreases-loop-newer : goal.decreases-loop-newer
decreases-loop-newer l = l.rest.rest.len
