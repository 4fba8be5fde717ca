use Rattle.std.proofs.Common.{◌≡◌, ◌-◌, ◌/◌, ◌^◌, get_or}
use Rattle.ts_wavelet.specs.Nodes.{tops_in, IsSpot}
use Rattle.ts_wavelet.proofs.levels.Levels.at.Given as goal

abbrev pub invariant-loop-l : goal.invariant-loop-l
invariant-loop-l l = record {
  top : l.number ≡ get_or (tops_in l.self.len l.self.bits l.self.width) l.j 0 / 2 ^ (l.self.width - l.l);
  spot : IsSpot (tops_in l.self.len l.self.bits l.self.width) (l.self.width - l.l)
      (get_or (tops_in l.self.len l.self.bits l.self.width) l.j 0 / 2 ^ (l.self.width - l.l)) l.spot.start l.spot.end l.j l.spot.place;
}
