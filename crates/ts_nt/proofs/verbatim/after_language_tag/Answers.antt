use Rattle.ts_nt.proofs.VerbatimFronts.{tag_at}
use Rattle.ts_nt.proofs.verbatim.after_language_tag.Goals as goal

pub returns : goal.returns
returns c = tag_at _ _ c.after_tag.result c.in_ok-tag.ensures.some c.after_tag.ensures
