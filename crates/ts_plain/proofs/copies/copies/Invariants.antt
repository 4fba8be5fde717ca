use Rattle.std.proofs.Common.{◌≡◌, map, take}
use Rattle.ts_plain.proofs.copies.copies.Given as goal

abbrev pub invariant-loop-triple : goal.invariant-loop-triple
invariant-loop-triple l = l.copies.items ≡ map (λ triple. triple.now) (take l.triple-index l.triples)
