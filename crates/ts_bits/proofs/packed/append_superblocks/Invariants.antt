use Rattle.std.proofs.Common.{◌≡◌, ◌*◌, ◌++◌, slice_index}
use Rattle.std.specs.Int.{div_ceil}
use Rattle.ts_bits.specs.Rank.{rank}
use Rattle.ts_bits.specs.BitArray.{numbers_of, superblock_count}
use Rattle.ts_bits.specs.Ranked.{bits_of_words}
use Rattle.ts_bits.proofs.packed.append_superblocks.Given as goal

abbrev pub invariant-loop-k : goal.invariant-loop-k
invariant-loop-k l = record {
  total : l.total ≡ rank (bits_of_words l.len (slice_index l.words)) (64 * l.k);
  written : l.into.items ≡ l.initial.into.items ++ numbers_of 8 (div_ceil l.k 8) (superblock_count (bits_of_words l.len (slice_index l.words)));
}
