use Rattle.ts_part.proofs.FactsRead.{one_facts}
use Rattle.ts_part.proofs.OneFile.{one_file}
use Rattle.ts_part.proofs.SomeFile.{some_file}
use Rattle.ts_part.proofs.one_file.one_file_for_facts.Goals as goal

pub returns-clause-some_file : goal.returns-clause-some_file
returns-clause-some_file c = some_file

pub returns-clause-one_file : goal.returns-clause-one_file
returns-clause-one_file c = one_file

pub returns-clause-no_others : goal.returns-clause-no_others
returns-clause-no_others c = λ file facts others says other. one_facts file others facts other says
