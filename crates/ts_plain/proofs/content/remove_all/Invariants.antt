use Rattle.std.proofs.Common.{◌≡◌, ◌&&◌, not, take}
use Rattle.std.specs.List.{list_any}
use Rattle.std.specs.Ordering.{eq_by_cmp}
use Rattle.ts_model.specs.TextTriple.{TextTriple}
use Rattle.ts_model.specs.Order.{triple_cmp}
use Rattle.ts_plain.specs.Held.{holds}
use Rattle.ts_plain.proofs.content.remove_all.Given as goal

abbrev pub invariant-loop-triple : goal.invariant-loop-triple
invariant-loop-triple l = (triple : TextTriple)
    → holds l.standing triple ≡ (holds l.initial.standing triple && not (list_any (eq_by_cmp triple_cmp triple) (take l.triple-index l.triples)))
