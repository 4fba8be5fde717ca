use Rattle.std.proofs.Common.{◌≡◌, ◌≤◌, ℕ, List, length, take}
use Rattle.std.specs.FinMap.{get}
use Rattle.ts_site.specs.Call.{crash_after, settled_files}
use Rattle.ts_site.proofs.crash.oldest_range.Given as goal

-- the calls seen so far left the name as the others did
abbrev pub invariant-loop-i : goal.invariant-loop-i
invariant-loop-i l = record {
  within : l.i ≤ length l.calls;
  rest : (store : List ℕ) → get (crash_after store l.calls (settled_files store l.settled)).oldest l.name
      ≡ get (crash_after store (take l.i l.calls) (settled_files store l.settled)).oldest l.name;
}

abbrev pub decreases-loop-i : goal.decreases-loop-i
decreases-loop-i l = l.i
