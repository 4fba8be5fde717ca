use Rattle.std.proofs.Common.{◌≡◌, ◌++◌, map, take}
use Rattle.ts_plain.proofs.totals.lend.Given as goal

abbrev pub invariant-loop-triple : goal.invariant-loop-triple
invariant-loop-triple l = map (λ triple. triple.now) l.into.items ≡ map (λ triple. triple.now) l.initial.into.items ++ take l.triple-index l.triples
