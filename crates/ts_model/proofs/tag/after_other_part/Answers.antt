use Rattle.ts_model.proofs.Fronts.{stops_empty}
use Rattle.ts_model.proofs.tag.after_other_part.Goals as goal

pub returns-in_err-hyphen : goal.returns-in_err-hyphen
returns-in_err-hyphen c = rw c.from_residual.ensures (λ part rest is same. stops_empty (λ _. Unit {0}) _ c.in_err-hyphen.ensures.none _ _ tt same)
