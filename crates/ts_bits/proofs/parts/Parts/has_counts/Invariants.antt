use Rattle.std.proofs.Common.{◌≡◌, ◌*◌}
use Rattle.ts_bits.specs.Rank.{rank}
use Rattle.ts_bits.specs.Ranked.{number_in, bits_of_words}
use Rattle.ts_bits.proofs.Counts.{HasCountsUpTo}
use Rattle.ts_bits.proofs.parts.Parts.has_counts.Given as goal

abbrev pub invariant-loop-k : goal.invariant-loop-k
invariant-loop-k l = record {
  total : l.total ≡ rank (bits_of_words l.self.len (number_in 8 l.self.words.now)) (64 * l.k);
  so_far : HasCountsUpTo (bits_of_words l.self.len (number_in 8 l.self.words.now)) l.self.superblocks.now l.self.counts.now l.k;
}
