use Rattle.std.proofs.Common.{◌≡◌, ◌-◌, ◌^◌, ◌≤◌, Some}
use Rattle.ts_wavelet.specs.WaveletTree.{ordered}
use Rattle.ts_wavelet.proofs.Written.{levels_to}
use Rattle.ts_wavelet.proofs.write.levels_of.Given as goal

abbrev pub invariant-loop-l : goal.invariant-loop-l
invariant-loop-l l = record {
  within : l.l ≤ l.width;
  bits : l.bits ≡ Some (levels_to l.width l.sequence l.l);
  order : l.order.items ≡ ordered l.sequence (l.width - l.l) (2 ^ l.l);
}
