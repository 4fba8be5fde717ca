use Rattle.std.proofs.Common.{◌≡◌, take}
use Rattle.ts_squash.specs.Squashed.{ends_of}
use Rattle.ts_squash.proofs.base.used_terms.Given as goal

abbrev pub invariant-loop-t : goal.invariant-loop-t
invariant-loop-t l = l.ids.items ≡ ends_of (take l.t-index l.triples)
