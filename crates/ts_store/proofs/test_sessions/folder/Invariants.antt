use Rattle.std.specs.Prelude.{◌≡◌, []}
use Rattle.ts_site.specs.MemorySite.{memory_calls}
use Rattle.ts_store.proofs.test_sessions.folder.Given as goal

-- files are put before a call of the site is made
abbrev pub invariant-loop-file : goal.invariant-loop-file
invariant-loop-file l = memory_calls l.site ≡ []
