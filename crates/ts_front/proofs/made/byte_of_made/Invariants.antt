use Rattle.std.proofs.Common.{◌≡◌, ◌≤◌, length, take, slice_get}
use Rattle.ts_front.specs.Made.{made_by}
use Rattle.ts_front.proofs.made.byte_of_made.Given as goal

abbrev pub invariant-loop-count : goal.invariant-loop-count
invariant-loop-count l = record {
  within : l.count ≤ length l.pieces;
  same : slice_get (made_by l.pieces) l.at ≡ slice_get (made_by (take l.count l.pieces)) l.at;
}

abbrev pub decreases-loop-count : goal.decreases-loop-count
decreases-loop-count l = l.count
