use Rattle.std.proofs.Common.{◌≡◌, List, ℕ, length}
use Rattle.ts_front.specs.Pieces.{Reads}
use Rattle.ts_front.proofs.check.is_body.Given as goal

abbrev pub invariant-loop-i : goal.invariant-loop-i
invariant-loop-i l = (texts : List (List ℕ)) × ((length texts ≡ l.i) × Reads l.starts l.body l.pieces texts l.reached.place l.reached.last)
