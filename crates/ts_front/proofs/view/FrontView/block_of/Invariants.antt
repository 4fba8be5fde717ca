use Rattle.std.proofs.Common.{◌≡◌, ◌≢◌, ℕ, ◌+◌, ◌-◌, ◌*◌, ◌/◌, ◌<◌, ◌≤◌, length}
use Rattle.std.specs.Cmp.Lexicographic.{slice_cmp}
use Rattle.std.specs.Ordering.{nat_cmp}
use Rattle.std.specs.declared.cmp.Ordering.TheVariants.{Greater}
use Rattle.ts_front.specs.Shared.{text_at}
use Rattle.ts_front.proofs.view.FrontView.block_of.Given as goal

abbrev pub invariant-loop-low : goal.invariant-loop-low
invariant-loop-low l = record {
  begins : l.low ≤ (length l.self + 7) / 8;
  ends : l.high ≤ (length l.self + 7) / 8;
  below : 0 < l.low → slice_cmp nat_cmp (text_at l.self (8 * (l.low - 1))) l.text ≢ Greater;
  above : (k : ℕ) → l.high ≤ k → 8 * k < length l.self → slice_cmp nat_cmp (text_at l.self (8 * k)) l.text ≡ Greater;
}

abbrev pub decreases-loop-low : goal.decreases-loop-low
decreases-loop-low l = l.high - l.low
