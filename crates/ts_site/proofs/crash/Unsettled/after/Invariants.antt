use Rattle.std.proofs.Common.{List, ℕ, take}
use Rattle.ts_site.specs.Folder.{Folder}
use Rattle.ts_site.specs.Call.{crash_after}
use Rattle.ts_site.specs.Crash.{settled}
use Rattle.ts_site.specs.Unsettled.{AreUnsettled}
use Rattle.ts_site.proofs.crash.Unsettled.after.Given as goal

-- those that are unsettled after the calls so far
abbrev pub invariant-loop-call : goal.invariant-loop-call
invariant-loop-call l = (store : List ℕ) (folder : Folder) → AreUnsettled (crash_after store (take l.call-index l.calls) (settled folder)) l.unsettled
