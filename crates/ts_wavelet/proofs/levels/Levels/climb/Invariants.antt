use Rattle.std.proofs.Common.{◌≡◌, ◌-◌, ◌≤◌, length}
use Rattle.ts_wavelet.specs.Nodes.{tops_in, IsOffsetOf}
use Rattle.ts_wavelet.proofs.levels.Levels.climb.Given as goal

abbrev pub invariant-loop-l : goal.invariant-loop-l
invariant-loop-l l = record {
  within : l.l ≤ l.self.width;
  offset : IsOffsetOf (tops_in l.self.len l.self.bits l.self.width) (l.self.width - l.l) l.p l.n l.offset;
  starts : l.path.starts ≡ l.initial.path.starts;
  ones : l.path.ones ≡ l.initial.path.ones;
  near : length l.path.near ≡ 64;
}

abbrev pub decreases-loop-l : goal.decreases-loop-l
decreases-loop-l l = l.l
