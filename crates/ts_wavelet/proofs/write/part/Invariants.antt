use Rattle.std.proofs.Common.{◌≡◌, ◌++◌, [], drop}
use Rattle.ts_wavelet.proofs.Parting.{parted}
use Rattle.ts_wavelet.proofs.write.part.Given as goal

abbrev pub invariant-loop-x : goal.invariant-loop-x
invariant-loop-x l = l.parted.items ++ parted l.shift l.last l.ones.items (drop l.x-index l.order) ≡ parted l.shift 0 [] l.order
