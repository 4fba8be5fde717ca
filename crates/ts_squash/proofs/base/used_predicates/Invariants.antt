use Rattle.std.proofs.Common.{◌≡◌, take}
use Rattle.ts_squash.specs.Squashed.{relations_of}
use Rattle.ts_squash.proofs.base.used_predicates.Given as goal

abbrev pub invariant-loop-t : goal.invariant-loop-t
invariant-loop-t l = l.ids.items ≡ relations_of (take l.t-index l.triples)
