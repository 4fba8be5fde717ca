use Rattle.std.proofs.Common.{◌≡◌, ℕ, ◌+◌, ◌-◌, true, false, if◌then◌else◌, List, [], ◌++◌, IsTrue}
use Rattle.ts_script.specs.Cutting.{HasWholeLine, Takes}
use Rattle.ts_script.proofs.cutter.LineCutter.advance.Given as goal

-- These bytes were taken so far, and no fault came.
abbrev pub invariant-loop-span : goal.invariant-loop-span
invariant-loop-span g l =
    (bytes : List ℕ) × record {
      takes : Takes l.initial.self l.self bytes;
      tells : IsTrue (g.S.Source.tells l.input) → IsTrue (g.S.Source.tells l.initial.input);
      left : IsTrue (g.S.Source.tells l.input) → g.S.Source.left l.initial.input ≡ bytes ++ g.S.Source.left l.input;
      ended : l.initial.self.has_ended ≡ false → l.self.has_ended ≡ true → IsTrue (g.S.Source.tells l.input) → g.S.Source.left l.input ≡ [];
      closed : l.initial.self.has_ended ≡ true → l.input ≡ l.initial.input;
      lazy : HasWholeLine l.initial.self → (l.self ≡ l.initial.self) × (l.input ≡ l.initial.input);
      faults : g.S.Source.faults l.input ≡ g.S.Source.faults l.initial.input;
    }

abbrev pub decreases-loop-span : goal.decreases-loop-span
decreases-loop-span g l = l.self.limit - l.self.taken + (if l.self.has_ended then 0 else 1)
