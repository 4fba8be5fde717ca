use Rattle.ts_chain.proofs.OneHistory.{one_history}
use Rattle.ts_chain.proofs.law.files_tell_one_history.Goals as goal

pub returns : goal.returns
returns c = one_history
