use Rattle.std.proofs.Common.{◌≡◌, ◌++◌, Bool, List, Some, eqb, map, take}
use Rattle.std.specs.Int.{bit_at}
use Rattle.ts_wavelet.proofs.write.push_level.Given as goal

abbrev pub invariant-loop-x : goal.invariant-loop-x
invariant-loop-x l = (old : List Bool) → l.initial.bits ≡ Some old → l.bits ≡ Some (old ++ map (λ x. eqb (bit_at x l.shift) 1) (take l.x-index l.order))
