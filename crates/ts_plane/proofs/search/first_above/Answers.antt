use Rattle.std.proofs.Common.{sym, ◌∙◌, arith}
use Rattle.ts_plane.proofs.AfterLemmas.{above_found, above_absent}
use Rattle.ts_plane.proofs.search.first_above.Goals as goal
use Rattle.ts_plane.proofs.search.first_above.Goals.{else-place-to-via-then-place-to+else-right-x, else-place-to-via-else-place-to}

pub returns-then-right-x : goal.returns-then-right-x
returns-then-right-x c =
    above_found c.args.edges.now.rights c.args.from c.args.to c.args.x c.first_right-place.result c.requires.rising c.first_right-place.ensures c.if-place-to.true (sym c.right.ensures ∙ c.if-right-x.true)

pub returns-else-place-to : goal.returns-else-place-to
returns-else-place-to c =
    above_absent c.args.edges.now.rights c.args.from c.args.to c.args.x c.first_right-place.result c.requires.rising c.first_right-place.ensures
    (elim c.else-place-to.branch [
      | else-place-to-via-then-place-to+else-right-x w ↦ λ h same. w.if-right-x.false (w.right.ensures ∙ same)
      | else-place-to-via-else-place-to w ↦ λ h. absurd (omega arith)
    ])
