use Rattle.ts_store.proofs.OneHistory.{same_history, same_labels, not_damaged, same_damaged}
use Rattle.ts_store.proofs.law.one_history.Goals as goal

pub returns-clause-once : goal.returns-clause-once
returns-clause-once c = λ folder a b one other. (same_history folder a b one other, same_labels folder a b one other)

pub returns-clause-sound : goal.returns-clause-sound
returns-clause-sound c = not_damaged

pub returns-clause-first : goal.returns-clause-first
returns-clause-first c = same_damaged

pub returns-clause-kept : goal.returns-clause-kept
returns-clause-kept c = λ folder state says. says.kept
