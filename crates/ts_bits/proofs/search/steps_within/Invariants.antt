use Rattle.std.proofs.Common.{◌*◌, ◌+◌, ◌<◌, ◌≤◌}
use Rattle.ts_bits.specs.BitKinds.{before_place}
use Rattle.ts_bits.proofs.search.steps_within.Given as goal

abbrev pub invariant-loop-j : goal.invariant-loop-j
invariant-loop-j l = record {
  before : l.steps < l.j;
  below : before_place l.kind l.word (l.from + l.step * l.steps) ≤ l.n;
  above : l.steps + 1 < l.j → l.n < before_place l.kind l.word (l.from + l.step * (l.steps + 1));
}
