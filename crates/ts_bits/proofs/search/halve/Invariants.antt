use Rattle.std.proofs.Common.{◌-◌}
use Rattle.ts_bits.specs.BitArray.{superblocks_in}
use Rattle.ts_bits.specs.BitKinds.{before_superblock, Brackets}
use Rattle.ts_bits.proofs.search.halve.Given as goal

abbrev pub invariant-loop-high : goal.invariant-loop-high
invariant-loop-high l =
    Brackets (before_superblock l.kind l.parts.superblocks.now) (superblocks_in l.parts.len) l.n l.low l.high

abbrev pub decreases-loop-high : goal.decreases-loop-high
decreases-loop-high l = l.high - l.low
