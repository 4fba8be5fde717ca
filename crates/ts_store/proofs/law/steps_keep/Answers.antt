use Rattle.ts_store.proofs.KeptLaws.{keeps_state}
use Rattle.ts_store.proofs.law.steps_keep.Goals as goal

pub returns : goal.returns
returns c = keeps_state
