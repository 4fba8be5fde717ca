use Rattle.std.proofs.Common.{ℕ, ◌<◌, ◌≤◌}
use Rattle.ts_part.proofs.RiseLemmas.{IsAboveAt}
use Rattle.ts_part.proofs.sayable.terms_rise.Given as goal

abbrev pub invariant-loop-i : goal.invariant-loop-i
invariant-loop-i l = (k : ℕ) → 1 ≤ k → k < l.i → IsAboveAt l.terms k
