use Rattle.std.proofs.Common.{ℕ, List, take}
use Rattle.ts_site.specs.Folder.{no_files, AreNamesOf}
use Rattle.ts_site.specs.Call.{with_files}
use Rattle.ts_site.proofs.call.settled_names.Given as goal

abbrev pub invariant-loop-stored : goal.invariant-loop-stored
invariant-loop-stored l = (store : List ℕ) → AreNamesOf (with_files store (take l.stored-index l.settled) no_files) l.names.items
