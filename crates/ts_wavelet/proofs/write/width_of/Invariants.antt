use Rattle.ts_wavelet.proofs.Widths.{IsGreatest}
use Rattle.ts_wavelet.proofs.write.width_of.Given as goal

abbrev pub invariant-loop-x : goal.invariant-loop-x
invariant-loop-x l = IsGreatest l.sequence l.x-index l.greatest
