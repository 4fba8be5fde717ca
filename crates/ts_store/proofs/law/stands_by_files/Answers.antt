use Rattle.ts_store.proofs.StandsLaws.{stands_like}
use Rattle.ts_store.proofs.law.stands_by_files.Goals as goal

pub returns : goal.returns
returns c = stands_like
