use Rattle.std.proofs.Common.{◌≡◌, ◌≤◌, ℕ, List, length, take}
use Rattle.std.specs.FinMap.{get}
use Rattle.ts_site.specs.Folder.{no_files}
use Rattle.ts_site.specs.Call.{folder_after, with_files}
use Rattle.ts_site.proofs.call.range_of.Given as goal

-- the calls seen so far left under the name what the others left under the wanted one
abbrev pub invariant-loop-i : goal.invariant-loop-i
invariant-loop-i l = record {
  within : l.i ≤ length l.calls;
  rest : (store : List ℕ) → get (folder_after store l.calls (with_files store l.settled no_files)) l.name
      ≡ get (folder_after store (take l.i l.calls) (with_files store l.settled no_files)) l.wanted;
}

abbrev pub decreases-loop-i : goal.decreases-loop-i
decreases-loop-i l = l.i
