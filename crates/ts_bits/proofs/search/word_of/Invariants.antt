use Rattle.std.proofs.Common.{◌*◌, ◌+◌, ◌<◌, ◌≤◌}
use Rattle.ts_bits.specs.BitKinds.{before_word}
use Rattle.ts_bits.proofs.search.word_of.Given as goal

abbrev pub invariant-loop-k : goal.invariant-loop-k
invariant-loop-k l = record {
  from : 8 * l.block ≤ l.found;
  before : l.found < l.k;
  below : before_word l.kind l.parts.counts.now l.found ≤ l.n;
  above : l.found + 1 < l.k → l.n < before_word l.kind l.parts.counts.now (l.found + 1);
}
