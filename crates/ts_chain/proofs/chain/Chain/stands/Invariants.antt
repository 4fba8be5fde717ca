use Rattle.std.proofs.Common.{◌≡◌, drop}
use Rattle.ts_chain.specs.Content.{stands_in}
use Rattle.ts_chain.proofs.chain.Chain.stands.Given as goal

abbrev pub invariant-loop-newest : goal.invariant-loop-newest
invariant-loop-newest l = stands_in (drop l.newest-index l.self) l.fn.t ≡ stands_in l.self l.fn.t
