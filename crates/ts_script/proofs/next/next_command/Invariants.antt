use Rattle.std.proofs.Common.{◌≡◌, ℕ, ◌-◌, ◌≤◌, ◌++◌, List, IsTrue}
use Rattle.ts_script.specs.Cutting.{progress, Took, HasSeenAll, next_offset}
use Rattle.ts_script.specs.Script.{IsPassedOver}
use Rattle.ts_script.proofs.ScriptSoFar.{AreUpTo, HaveRead}
use Rattle.ts_script.proofs.next.next_command.Given as goal

-- These bytes were taken so far, each line that was given is passed over, and no fault came.
abbrev pub invariant-loop-line : goal.invariant-loop-line
invariant-loop-line g l = record {
  tells : IsTrue (g.S.Source.tells l.input) → IsTrue (g.S.Source.tells l.initial.input);
  faults : g.S.Source.faults l.input ≡ g.S.Source.faults l.initial.input;
  ended : IsTrue (g.S.Source.tells l.input) → HasSeenAll l.initial.cutter (g.S.Source.left l.initial.input) → HasSeenAll l.cutter (g.S.Source.left l.input);
  lines : IsTrue (g.S.Source.tells l.input) → HasSeenAll l.initial.cutter (g.S.Source.left l.initial.input)
      → AreUpTo IsPassedOver l.initial.cutter (g.S.Source.left l.initial.input) l.cutter (g.S.Source.left l.input);
  some : HaveRead IsPassedOver (progress l.initial.cutter).lines (progress l.cutter).lines;
  offset : next_offset l.initial.cutter ≤ next_offset l.cutter;
  lazy : (progress l.cutter).lines ≡ (progress l.initial.cutter).lines → (l.cutter ≡ l.initial.cutter) × (l.input ≡ l.initial.input);
  taken : (bytes : List ℕ) × Took l.initial.cutter l.cutter bytes × (IsTrue (g.S.Source.tells l.input) → g.S.Source.left l.initial.input ≡ bytes ++ g.S.Source.left l.input);
}

abbrev pub decreases-loop-line : goal.decreases-loop-line
decreases-loop-line g l = (progress l.cutter).limit - next_offset l.cutter
