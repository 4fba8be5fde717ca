use Rattle.ts_nt.proofs.VerbatimFronts.{label_at}
use Rattle.ts_nt.proofs.verbatim.after_blank_label.Goals as goal

pub returns : goal.returns
returns c = label_at _ _ _ c.after_label.result c.in_ok-behind.ensures.some c.in_ok-label.ensures.some c.after_label.ensures
