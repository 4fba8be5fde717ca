use Rattle.ts_script.proofs.CommandLaws.{same_command, no_command_is_none, some_command, body_of_triples, commit_of_triples}
use Rattle.ts_script.proofs.LabelLaws.{label_of_words}
use Rattle.ts_script.proofs.law.one_command.Goals as goal

pub returns-clause-once : goal.returns-clause-once
returns-clause-once c = same_command

pub returns-clause-none : goal.returns-clause-none
returns-clause-none c = no_command_is_none

pub returns-clause-some : goal.returns-clause-some
returns-clause-some c = some_command

pub returns-clause-triples : goal.returns-clause-triples
returns-clause-triples c = body_of_triples

pub returns-clause-commit_triples : goal.returns-clause-commit_triples
returns-clause-commit_triples c = commit_of_triples

pub returns-clause-label : goal.returns-clause-label
returns-clause-label c = label_of_words
