use Rattle.std.proofs.Common.{◌≡◌, false, take}
use Rattle.std.specs.List.{list_any}
use Rattle.ts_site.specs.Crash.{ties_name}
use Rattle.ts_site.proofs.crash.Unsettled.is_tied.Given as goal

-- no tie so far names it
abbrev pub invariant-loop-tie : goal.invariant-loop-tie
invariant-loop-tie l = list_any (ties_name l.name) (take l.tie-index l.self.ties.items) ≡ false
