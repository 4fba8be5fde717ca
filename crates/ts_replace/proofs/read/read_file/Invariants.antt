use Rattle.std.proofs.Common.{◌≡◌, false, ℕ, ◌-◌, ◌≤◌, length, take, List, Some}
use Rattle.std.specs.FinMap.{get}
use Rattle.ts_site.specs.Outside.{IsHonest, KeepsCrash, OnlyReads}
use Rattle.ts_replace.proofs.read.read_file.Given as goal

-- where the folder is told, the bytes so far are the file's front
abbrev pub invariant-loop-place : goal.invariant-loop-place
invariant-loop-place g l =
    let outside = g.W.Disk.outside in
    record {
      within : l.place ≤ length l.bytes.items;
      front : IsHonest (outside l.site) → (file : List ℕ) × (get (outside l.fn.site).folder l.fn.name ≡ Some file) × (length file ≡ length l.bytes.items) × (take l.place l.bytes.items ≡ take l.place file);
      crash : KeepsCrash (outside l.fn.site) (outside l.site);
      reads : OnlyReads false (outside l.fn.site) (outside l.site);
    }

abbrev pub decreases-loop-place : goal.decreases-loop-place
decreases-loop-place g l = length l.bytes.items - l.place
