use Rattle.ts_store.proofs.NameLaws.{label_is_not_new}
use Rattle.ts_store.proofs.labels.file_of.Goals as goal

pub returns-clause-other : goal.returns-clause-other
returns-clause-other c = label_is_not_new c.args.name.now
