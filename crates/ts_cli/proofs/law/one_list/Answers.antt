use Rattle.ts_cli.proofs.ListLaws.{kept_after, lists_once, proper_all, some_list}
use Rattle.ts_cli.proofs.law.one_list.Goals as goal

pub returns-clause-once : goal.returns-clause-once
returns-clause-once c = lists_once

pub returns-clause-some : goal.returns-clause-some
returns-clause-some c = some_list

pub returns-clause-proper : goal.returns-clause-proper
returns-clause-proper c = proper_all

pub returns-clause-kept : goal.returns-clause-kept
returns-clause-kept c = λ words input commands are state n. kept_after commands (proper_all words input commands are) state n
