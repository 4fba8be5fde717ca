use Rattle.ts_labels.proofs.PlaceLaws.{none_is_empty}
use Rattle.ts_labels.proofs.table.LabelTable.new.Goals as goal

pub returns : goal.returns
returns c = none_is_empty c.new.result.items c.new.ensures.items
