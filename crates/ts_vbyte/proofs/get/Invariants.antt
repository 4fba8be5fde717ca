use Rattle.std.proofs.Common.{◌≤◌}
use Rattle.ts_vbyte.proofs.ReadLemmas.{IsRead}
use Rattle.ts_vbyte.proofs.get.Given as goal

abbrev pub invariant-loop-place : goal.invariant-loop-place
invariant-loop-place l = IsRead l.bytes l.place l.value × (l.place ≤ 9)
