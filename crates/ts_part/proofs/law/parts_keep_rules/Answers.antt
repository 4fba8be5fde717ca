use Rattle.ts_part.proofs.StepRules.{layer_rules, rollup_rules}
use Rattle.ts_part.proofs.law.parts_keep_rules.Goals as goal

pub returns-clause-layer : goal.returns-clause-layer
returns-clause-layer c = λ history k kept stands fits. layer_rules history kept k stands fits.0 fits.1

pub returns-clause-rollup : goal.returns-clause-rollup
returns-clause-rollup c = λ history from k kept stands proper fits. rollup_rules history kept k stands fits.0 fits.1 from proper
