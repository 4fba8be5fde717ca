use Rattle.std.proofs.Common.{◌≡◌, map, take, unwrap_or, All}
use Rattle.ts_plain.specs.Held.{birth_in}
use Rattle.ts_plain.specs.Keys.{IsKeyed}
use Rattle.ts_plain.proofs.listing.with_births.Given as goal

abbrev pub invariant-loop-triple : goal.invariant-loop-triple
invariant-loop-triple l =
    (map (λ each. each.triple.now) l.keyed.items ≡ map (λ triple. triple.now) (take l.triple-index l.triples))
    × All (IsKeyed (λ term. unwrap_or (birth_in l.births term) 0)) l.keyed.items
