use Rattle.std.proofs.Common.{◌-◌, ◌/◌, ◌^◌}
use Rattle.ts_wavelet.specs.Nodes.{tops_in, IsSpot}
use Rattle.ts_wavelet.proofs.levels.Levels.rank.Given as goal

abbrev pub invariant-loop-l : goal.invariant-loop-l
invariant-loop-l l =
    IsSpot (tops_in l.self.len l.self.bits l.self.width) (l.self.width - l.l) (l.p / 2 ^ (l.self.width - l.l))
    l.spot.start l.spot.end l.j l.spot.place
