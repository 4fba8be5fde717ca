use Rattle.std.proofs.Common.{◌≡◌, map, take}
use Rattle.ts_plain.proofs.listing.triples_of.Given as goal

abbrev pub invariant-loop-each : goal.invariant-loop-each
invariant-loop-each l = map (λ triple. triple.now) l.triples.items ≡ map (λ each. each.triple.now) (take l.each-index l.keyed)
