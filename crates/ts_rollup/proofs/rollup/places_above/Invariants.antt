use Rattle.std.proofs.Common.{◌≡◌, ◌-◌, map, take}
use Rattle.ts_rollup.proofs.rollup.places_above.Given as goal

abbrev pub invariant-loop-id : goal.invariant-loop-id
invariant-loop-id l = l.places.items ≡ map (λ id. id - l.low - 1) (take l.id-index l.ids)
