use Rattle.std.proofs.Common.{◌-◌, ◌<◌}
use Rattle.ts_bits.specs.BitArray.{superblocks_in}
use Rattle.ts_bits.specs.BitKinds.{before_superblock, Brackets}
use Rattle.ts_bits.proofs.search.descend.Given as goal

abbrev pub invariant-loop-step : goal.invariant-loop-step
invariant-loop-step l = record {
  some : 0 < l.step;
  between : Brackets (before_superblock l.kind l.parts.superblocks.now) (superblocks_in l.parts.len) l.n l.low l.high;
}

abbrev pub decreases-loop-step : goal.decreases-loop-step
decreases-loop-step l = l.high - l.low
