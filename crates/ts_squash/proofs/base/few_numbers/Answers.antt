use Rattle.ts_squash.proofs.ChainNumbers.{few_predicates, few_terms}
use Rattle.ts_squash.proofs.base.few_numbers.Goals as goal

pub returns-clause-terms : goal.returns-clause-terms
returns-clause-terms c = few_terms c.args.chain.now c.number.ensures.chain

pub returns-clause-predicates : goal.returns-clause-predicates
returns-clause-predicates c = few_predicates c.args.chain.now c.number.ensures.chain
