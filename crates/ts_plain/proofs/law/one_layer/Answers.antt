use Rattle.ts_plain.proofs.OneLayer.{same_layer}
use Rattle.ts_plain.proofs.law.one_layer.Goals as goal

pub returns : goal.returns
returns c = same_layer
