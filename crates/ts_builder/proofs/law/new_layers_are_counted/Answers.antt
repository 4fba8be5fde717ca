use Rattle.ts_builder.proofs.GrownLayer.{kept_grown}
use Rattle.ts_builder.proofs.LayerTotals.{over_where, totals_are}
use Rattle.ts_builder.proofs.law.new_layers_are_counted.Goals as goal

pub returns-clause-kept : goal.returns-clause-kept
returns-clause-kept c = kept_grown

pub returns-clause-totals : goal.returns-clause-totals
returns-clause-totals c = totals_are

pub returns-clause-over : goal.returns-clause-over
returns-clause-over c = over_where
