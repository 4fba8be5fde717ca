use Rattle.std.proofs.Common.{◌≡◌, ℕ, ◌-◌, ◌/◌, ◌^◌, ◌<◌, length, get_or}
use Rattle.ts_wavelet.specs.Nodes.{tops_in, IsSpot, IsRung}
use Rattle.ts_wavelet.proofs.levels.Levels.path.Given as goal

abbrev pub invariant-loop-l : goal.invariant-loop-l
invariant-loop-l l = record {
  spot : IsSpot (tops_in l.self.len l.self.bits l.self.width) (l.self.width - l.l) (l.p / 2 ^ (l.self.width - l.l)) l.spot.start l.spot.end l.j l.spot.place;
  starts : length l.path.starts ≡ 64;
  ones : length l.path.ones ≡ 64;
  near : length l.path.near ≡ 64;
  rungs : (k : ℕ) → k < l.l → IsRung l.self.width l.self.len l.self.bits l.p k (get_or l.path.starts k 0) (get_or l.path.ones k 0);
}
