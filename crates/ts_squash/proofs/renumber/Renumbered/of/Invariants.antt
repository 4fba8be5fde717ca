use Rattle.std.proofs.Common.{◌≡◌, length}
use Rattle.ts_squash.proofs.Places.{AreSoFar}
use Rattle.ts_squash.proofs.renumber.Renumbered.of.Given as goal

abbrev pub invariant-loop-i : goal.invariant-loop-i
invariant-loop-i l = record { counted : length l.new.items ≡ length l.old.items; so_far : AreSoFar l.old.items l.new.items l.order l.i }
