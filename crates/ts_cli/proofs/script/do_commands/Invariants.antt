use Rattle.std.proofs.Common.{◌≡◌, ℕ, ◌^◌, ◌-◌, ◌≤◌, ◌++◌, List, map, IsTrue, None}
use Rattle.ts_script.specs.Cutting.{HasSeenAll, Took, lines_to_come, next_offset, progress}
use Rattle.ts_script.specs.Lines.{line_view}
use Rattle.ts_site.specs.Outside.{Falls, IsHonest}
use Rattle.ts_store.specs.FolderSays.{FolderSays}
use Rattle.ts_store.specs.Keeps.{Keeps, spent_by}
use Rattle.ts_store.specs.State.{State}
use Rattle.ts_cli.proofs.ScriptLaws.{SoFar}
use Rattle.ts_cli.proofs.script.do_commands.Given as goal

-- The commands so far were done and counted, no fault came, and these bytes of the input were taken.
abbrev pub invariant-loop-stop : goal.invariant-loop-stop
invariant-loop-stop g l = record {
  unspent : spent_by l.session ≡ None;
  so_far : (state : State) → Keeps l.initial.session state → IsHonest (g.W.Disk.outside l.site) → FolderSays (g.W.Disk.outside l.initial.site).folder state
      → SoFar (g.S.Source.tells l.input) (g.S.Source.left l.initial.input) (g.W.Disk.outside l.initial.site) (g.W.Disk.outside l.site) state l.session l.tally l.cutter (g.S.Source.left l.input);
  telling : Falls (g.W.Disk.outside l.initial.site) (g.W.Disk.outside l.site);
  disk : (g.W.Disk.outside l.site).disk_faults ≡ (g.W.Disk.outside l.initial.site).disk_faults;
  say : (g.W.Disk.outside l.site).say_faults ≡ (g.W.Disk.outside l.initial.site).say_faults;
  tells : IsTrue (g.S.Source.tells l.input) → IsTrue (g.S.Source.tells l.initial.input);
  faults : g.S.Source.faults l.input ≡ g.S.Source.faults l.initial.input;
  lines : IsTrue (g.S.Source.tells l.input) → (rest : List (List ℕ)) × (lines_to_come l.cutter (g.S.Source.left l.input) ≡ map line_view rest);
  seen : IsTrue (g.S.Source.tells l.input) → HasSeenAll l.cutter (g.S.Source.left l.input);
  limit : (progress l.cutter).limit ≡ 2 ^ 40;
  taken : IsTrue (g.S.Source.tells l.input) → (bytes : List ℕ) × Took l.initial.cutter l.cutter bytes × (g.S.Source.left l.initial.input ≡ bytes ++ g.S.Source.left l.input);
  counted : l.tally.done ≤ next_offset l.cutter;
}

abbrev pub decreases-loop-stop : goal.decreases-loop-stop
decreases-loop-stop g l = 2 ^ 40 - next_offset l.cutter
