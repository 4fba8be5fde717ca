use Rattle.std.proofs.Common.{ℕ, ◌<◌, slice_index}
use Rattle.ts_part.specs.Facts.{Facts}
use Rattle.ts_part.specs.Tells.{Tells}
use Rattle.ts_part.specs.Views.{IsNodeNumber}
use Rattle.ts_part.proofs.sections.Sections.subjects_are_nodes.Given as goal

abbrev pub invariant-loop-i : goal.invariant-loop-i
invariant-loop-i l = (facts : Facts) → Tells l.self facts → (k : ℕ) → k < l.i
    → facts.terms_before < slice_index l.subjects k → IsNodeNumber facts (slice_index l.subjects k)
