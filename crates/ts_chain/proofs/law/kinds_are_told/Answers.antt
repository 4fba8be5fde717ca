use Rattle.ts_chain.proofs.AskedKinds.{kinds_select_nothing}
use Rattle.ts_chain.proofs.SpelledTriples.{spelled_is}
use Rattle.ts_chain.proofs.law.kinds_are_told.Goals as goal

pub returns-clause-spelled : goal.returns-clause-spelled
returns-clause-spelled c = spelled_is

pub returns-clause-nothing : goal.returns-clause-nothing
returns-clause-nothing c = kinds_select_nothing
