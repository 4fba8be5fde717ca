use Rattle.std.proofs.Common.{◌≡◌, ℕ, ◌-◌, ◌^◌, ◌<◌}
use Rattle.ts_log.specs.Groups.{element_in}
use Rattle.ts_log.proofs.packed.needs_width.Given as goal

abbrev pub invariant-loop-i : goal.invariant-loop-i
invariant-loop-i l = (l.top ≡ 2 ^ (l.width - 1)) × ((k : ℕ) → k < l.i → element_in l.width k l.words < 2 ^ (l.width - 1))
