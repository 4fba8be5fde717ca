use Rattle.std.proofs.Common.{ℕ, ◌+◌, ◌<◌, ◌≤◌, get_or}
use Rattle.ts_chain.proofs.tests.may_ask.Given as goal

abbrev pub invariant-loop-i : goal.invariant-loop-i
invariant-loop-i l = record {
  within : (k : ℕ) → k < l.i → (1 ≤ get_or l.ids k 0) × (get_or l.ids k 0 ≤ l.total);
  rise : (k : ℕ) → k + 1 < l.i → get_or l.ids k 0 < get_or l.ids (k + 1) 0;
}
