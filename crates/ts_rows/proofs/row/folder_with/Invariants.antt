use Rattle.std.proofs.Common.{◌≡◌, []}
use Rattle.ts_site.specs.MemorySite.{memory_calls}
use Rattle.ts_rows.proofs.row.folder_with.Given as goal

-- no call was made so far
abbrev pub invariant-loop-name : goal.invariant-loop-name
invariant-loop-name l = memory_calls l.site ≡ []
