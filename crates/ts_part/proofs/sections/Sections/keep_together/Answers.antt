use Rattle.std.proofs.Common.{sym, ◌∙◌, true≢false}
use Rattle.ts_part.proofs.sections.Sections.keep_together.Goals as goal
use Rattle.ts_part.proofs.sections.Sections.keep_together.Goals.{then-subjects_are_nodes, else-subjects_are_nodes}

pub returns-then-is_all_used : goal.returns-then-is_all_used
returns-then-is_all_used c = λ facts tells. elim c.if-subjects_are_nodes.branch [
  | then-subjects_are_nodes w ↦ (
    λ e. record {
      subjects = (c.subjects_are_nodes.ensures facts tells).0 w.if-subjects_are_nodes.true;
      used = (w.is_all_used.ensures facts tells).0 (sym w.value-is ∙ c.if-is_all_used.true);
      apart = (c.are_apart.ensures facts tells).0 e;
    },
    λ rules. (c.are_apart.ensures facts tells).1 rules.apart,
  )
  | else-subjects_are_nodes w ↦ absurd (true≢false (sym c.if-is_all_used.true ∙ w.value-is ∙ w.if-subjects_are_nodes.false))
]
