use Rattle.std.proofs.Common.{◌≡◌, ◌++◌, ℕ, List, map, take, drop}
use Rattle.ts_squash.specs.NewNumbers.{AreNumbered, new_triple}
use Rattle.ts_squash.proofs.base.renumbered.Given as goal

abbrev pub invariant-loop-i : goal.invariant-loop-i
invariant-loop-i l = (order others : List ℕ) → AreNumbered l.terms order → AreNumbered l.predicates others
    → l.triples.items ≡ map (new_triple order others) (take l.i l.fn.triples.items) ++ drop l.i l.fn.triples.items
