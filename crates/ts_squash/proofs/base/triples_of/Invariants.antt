use Rattle.std.proofs.Common.{◌≡◌, ◌++◌, None}
use Rattle.ts_chain.specs.Walks.{walked}
use Rattle.ts_squash.proofs.base.triples_of.Given as goal

abbrev pub invariant-loop-triple : goal.invariant-loop-triple
invariant-loop-triple l = l.triples.items ++ l.triple-iterator ≡ walked l.chain (record { s = None; p = None; o = None }) None
