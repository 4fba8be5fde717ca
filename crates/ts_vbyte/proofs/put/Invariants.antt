use Rattle.std.proofs.Common.{◌≡◌, ◌++◌}
use Rattle.ts_vbyte.specs.Buffer.{Extends}
use Rattle.ts_vbyte.specs.Spelling.{spelling}
use Rattle.ts_vbyte.proofs.put.Given as goal

abbrev pub invariant-loop-rest : goal.invariant-loop-rest
invariant-loop-rest l = (l.into.items ++ spelling l.rest ≡ l.fn.into.items ++ spelling l.x) × Extends l.fn.into.items l.into.items

abbrev pub decreases-loop-rest : goal.decreases-loop-rest
decreases-loop-rest l = l.rest
