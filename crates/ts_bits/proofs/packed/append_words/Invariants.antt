use Rattle.std.proofs.Common.{◌≡◌, ◌++◌, slice_index}
use Rattle.ts_bits.specs.BitArray.{numbers_of}
use Rattle.ts_bits.proofs.packed.append_words.Given as goal

abbrev pub invariant-loop-word : goal.invariant-loop-word
invariant-loop-word l = l.into.items ≡ l.initial.into.items ++ numbers_of 8 l.word-index (slice_index l.words)
