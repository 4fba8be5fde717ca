use Rattle.ts_part.proofs.NewNumbers.{over_from}
use Rattle.ts_part.proofs.LayerStep.{layer_stands, layer_totals}
use Rattle.ts_part.proofs.RollupStep.{rollup_stands, rollup_totals}
use Rattle.ts_part.proofs.law.parts_stand_for_steps.Goals as goal

pub returns-clause-layer : goal.returns-clause-layer
returns-clause-layer c = λ history k kept. layer_stands history kept k

pub returns-clause-rollup : goal.returns-clause-rollup
returns-clause-rollup c = λ history from k kept under. rollup_stands history kept from k (over_from history kept from k under)

pub returns-clause-layer_totals : goal.returns-clause-layer_totals
returns-clause-layer_totals c = λ history k kept. layer_totals history kept k

pub returns-clause-rollup_totals : goal.returns-clause-rollup_totals
returns-clause-rollup_totals c = λ history from k kept under. rollup_totals history kept from k (over_from history kept from k under)
