use Rattle.std.proofs.Common.{ℕ, ◌<◌}
use Rattle.ts_plane.specs.Fits.{RisesAt}
use Rattle.ts_plane.proofs.rising.rises.Given as goal

abbrev pub invariant-loop-j : goal.invariant-loop-j
invariant-loop-j l = (k : ℕ) → k < l.j → RisesAt l.numbers l.bound k
