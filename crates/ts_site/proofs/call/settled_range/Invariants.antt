use Rattle.std.proofs.Common.{◌≡◌, ◌≤◌, ℕ, List, length, take}
use Rattle.std.specs.FinMap.{get}
use Rattle.ts_site.specs.Folder.{no_files}
use Rattle.ts_site.specs.Call.{with_files}
use Rattle.ts_site.proofs.call.settled_range.Given as goal

-- no later file has the name
abbrev pub invariant-loop-i : goal.invariant-loop-i
invariant-loop-i l = record {
  within : l.i ≤ length l.settled;
  rest : (store : List ℕ) → get (with_files store l.settled no_files) l.name ≡ get (with_files store (take l.i l.settled) no_files) l.name;
}

abbrev pub decreases-loop-i : goal.decreases-loop-i
decreases-loop-i l = l.i
