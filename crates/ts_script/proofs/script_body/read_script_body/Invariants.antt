use Rattle.std.proofs.Common.{◌≡◌, ℕ, ◌-◌, ◌≤◌, ◌++◌, List, IsTrue}
use Rattle.ts_script.specs.Cutting.{progress, Took, HasSeenAll, next_offset}
use Rattle.ts_script.proofs.BodyUpTo.{AreBodySoFar, HasBody}
use Rattle.ts_script.proofs.script_body.read_script_body.Given as goal

-- These bytes were taken so far, the lines before what is left were read, none of them ends the body, and no fault came.
abbrev pub invariant-loop-body : goal.invariant-loop-body
invariant-loop-body g l = record {
  tells : IsTrue (g.S.Source.tells l.input) → IsTrue (g.S.Source.tells l.initial.input);
  faults : g.S.Source.faults l.input ≡ g.S.Source.faults l.initial.input;
  ended : IsTrue (g.S.Source.tells l.input) → HasSeenAll l.initial.cutter (g.S.Source.left l.initial.input) → HasSeenAll l.cutter (g.S.Source.left l.input);
  lines : IsTrue (g.S.Source.tells l.input) → HasSeenAll l.initial.cutter (g.S.Source.left l.initial.input)
      → AreBodySoFar l.initial.cutter (g.S.Source.left l.initial.input) l.cutter (g.S.Source.left l.input) l.body.signed.items l.body.fault;
  some : HasBody (progress l.initial.cutter).lines (progress l.cutter).lines l.body.signed.items l.body.fault;
  offset : next_offset l.initial.cutter ≤ next_offset l.cutter;
  taken : (bytes : List ℕ) × Took l.initial.cutter l.cutter bytes × (IsTrue (g.S.Source.tells l.input) → g.S.Source.left l.initial.input ≡ bytes ++ g.S.Source.left l.input);
}

abbrev pub decreases-loop-body : goal.decreases-loop-body
decreases-loop-body g l = (progress l.cutter).limit - next_offset l.cutter
