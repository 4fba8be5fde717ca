use Rattle.std.proofs.Common.{ℕ, List, take}
use Rattle.ts_site.specs.Folder.{no_files, AreNamesOf}
use Rattle.ts_site.specs.Call.{folder_after, with_files}
use Rattle.ts_site.proofs.call.standing.Given as goal

abbrev pub invariant-loop-call : goal.invariant-loop-call
invariant-loop-call l = (store : List ℕ) → AreNamesOf (folder_after store (take l.call-index l.calls) (with_files store l.settled no_files)) l.names.items
