use Rattle.std.proofs.Common.{◌≡◌, None, arith, ◌∙◌}
use Rattle.std.proofs.lemmas.Grind.{common_steps}
use Rattle.ts_chain.specs.Walks.{walked}
use Rattle.ts_squash.proofs.ChainNumbers.{walked_all}
use Rattle.ts_squash.proofs.base.triples_of.Goals as goal

pub returns-clause-all : goal.returns-clause-all
returns-clause-all c =
    let all : c.loop-triple.triples.items ≡ walked c.args.chain.now (record { s = None; p = None; o = None }) None = grind (arith, common_steps) in
    all ∙ walked_all c.args.chain.now
