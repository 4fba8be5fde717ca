use Rattle.std.proofs.Common.{rules}
use Rattle.ts_model.proofs.TagFronts.{others_none, others_step, shorter_tail}
use Rattle.ts_model.proofs.tag.after_other_parts.Goals as goal

pub parts-init : goal.parts-init
parts-init c = ((λ parts end longest. (parts, longest)), c.utf8.text)

pub parts-smaller : goal.parts-smaller
parts-smaller c = shorter_tail _ _ c.in-Some.ensures

pub parts-preserved : goal.parts-preserved
parts-preserved c = (others_step _ _ _ c.parts.invariant.0 c.in-Some.ensures, search rules)

pub returns : goal.returns
returns c = c.parts.invariant.0 _ _ (others_none _ c.in_default.ensures)
