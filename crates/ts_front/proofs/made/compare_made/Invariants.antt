use Rattle.std.proofs.Common.{◌≤◌, length, take}
use Rattle.ts_front.specs.Made.{made_by}
use Rattle.ts_front.specs.Pieces.{Compares}
use Rattle.ts_front.proofs.made.compare_made.Given as goal

abbrev pub invariant-loop-piece : goal.invariant-loop-piece
invariant-loop-piece l = record {
  shares : l.found.shared ≤ length l.text;
  compares : Compares (made_by (take l.piece-index l.pieces)) l.text l.found.shared l.found.order;
}
