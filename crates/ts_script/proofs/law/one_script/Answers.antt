use Rattle.ts_script.proofs.CommandLaws.{body_of_script, commit_of_script}
use Rattle.ts_script.proofs.LabelLaws.{label_of_script}
use Rattle.ts_script.proofs.ScriptFronts.{script_front}
use Rattle.ts_script.proofs.ScriptLaws.{same_next, script_once}
use Rattle.ts_script.proofs.SomeScript.{some_script}
use Rattle.ts_script.proofs.law.one_script.Goals as goal

pub returns-clause-once : goal.returns-clause-once
returns-clause-once c = script_once

pub returns-clause-next : goal.returns-clause-next
returns-clause-next c = λ before lines taken rest taken' rest' a b. same_next before lines a b taken rest taken' rest'

pub returns-clause-script_prefix : goal.returns-clause-script_prefix
returns-clause-script_prefix c = script_front

pub returns-clause-triples : goal.returns-clause-triples
returns-clause-triples c = body_of_script

pub returns-clause-commit_triples : goal.returns-clause-commit_triples
returns-clause-commit_triples c = commit_of_script

pub returns-clause-some : goal.returns-clause-some
returns-clause-some c = some_script

pub returns-clause-label : goal.returns-clause-label
returns-clause-label c = label_of_script
