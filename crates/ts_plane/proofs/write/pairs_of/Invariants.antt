use Rattle.std.proofs.Common.{◌≡◌, map, take}
use Rattle.ts_plane.specs.Parts.{pair_of}
use Rattle.ts_plane.proofs.write.pairs_of.Given as goal

abbrev pub invariant-loop-t : goal.invariant-loop-t
invariant-loop-t l = l.pairs.items ≡ map pair_of (take l.t-index l.triples)
