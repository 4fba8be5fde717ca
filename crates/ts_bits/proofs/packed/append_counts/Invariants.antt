use Rattle.std.proofs.Common.{◌≡◌, ◌+◌, ◌-◌, ◌*◌, ◌/◌, ◌++◌, slice_index}
use Rattle.ts_bits.specs.Rank.{ones_between}
use Rattle.ts_bits.specs.BitArray.{numbers_of, word_count}
use Rattle.ts_bits.specs.Ranked.{bits_of_words}
use Rattle.ts_bits.proofs.packed.append_counts.Given as goal

abbrev pub invariant-loop-k : goal.invariant-loop-k
invariant-loop-k l = record {
  inside : l.inside ≡ ones_between (bits_of_words l.len (slice_index l.words)) (512 * ((l.k + 7) / 8 - 1)) (64 * l.k);
  written : l.into.items ≡ l.initial.into.items ++ numbers_of 2 l.k (word_count (bits_of_words l.len (slice_index l.words)));
}
