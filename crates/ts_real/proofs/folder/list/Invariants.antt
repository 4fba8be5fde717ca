use Rattle.ts_site.specs.Folder.{Extends}
use Rattle.ts_real.proofs.folder.list.Given as goal

abbrev pub invariant-loop-entry : goal.invariant-loop-entry
invariant-loop-entry g l = Extends l.fn.into.items l.into.items
