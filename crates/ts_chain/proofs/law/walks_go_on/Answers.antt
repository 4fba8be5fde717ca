use Rattle.ts_chain.proofs.WalksAnew.{fetches_are, goes_on}
use Rattle.ts_chain.proofs.law.walks_go_on.Goals as goal

pub returns-clause-left : goal.returns-clause-left
returns-clause-left c = goes_on

pub returns-clause-fetches : goal.returns-clause-fetches
returns-clause-fetches c = fetches_are
