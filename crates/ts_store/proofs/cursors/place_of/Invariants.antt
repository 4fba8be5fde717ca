use Rattle.std.proofs.Common.{◌≡◌, take, None}
use Rattle.std.specs.FinMap.{find}
use Rattle.std.specs.Ordering.{nat_cmp}
use Rattle.std.specs.Cmp.Lexicographic.{slice_cmp}
use Rattle.ts_store.proofs.cursors.place_of.Given as goal

-- none before is of the name
abbrev pub invariant-loop-place : goal.invariant-loop-place
invariant-loop-place l = find (slice_cmp nat_cmp) l.name (take l.place l.cursors) ≡ None
