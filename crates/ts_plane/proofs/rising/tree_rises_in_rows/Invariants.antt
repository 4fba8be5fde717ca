use Rattle.std.proofs.Common.{ℕ, ◌<◌}
use Rattle.ts_plane.specs.Fits.{FitsAt}
use Rattle.ts_plane.proofs.rising.tree_rises_in_rows.Given as goal

abbrev pub invariant-loop-j : goal.invariant-loop-j
invariant-loop-j l = (k : ℕ) → k < l.j → FitsAt l.rows l.numbers l.bound k
