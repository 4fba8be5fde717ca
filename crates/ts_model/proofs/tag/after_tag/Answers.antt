use Rattle.ts_model.proofs.TagFronts.{tag_from_first, no_tag}
use Rattle.ts_model.proofs.tag.after_tag.Goals as goal

pub returns-in_err-others : goal.returns-in_err-others
returns-in_err-others c = rw c.from_residual.ensures (λ tag rest is. no_tag _ tag rest c.in_err-others.ensures is)

pub returns : goal.returns
returns c = tag_from_first _ _ _ c.in_ok-others.ensures c.after_other_parts.ensures
