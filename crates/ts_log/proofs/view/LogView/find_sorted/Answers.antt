use Rattle.std.proofs.Common.{◌≢◌, ◌<◌, get_or, ◌∙◌, arith}
use Rattle.ts_log.proofs.RisingLemmas.{absent_from}
use Rattle.ts_log.proofs.view.LogView.find_sorted.Goals as goal
use Rattle.ts_log.proofs.view.LogView.find_sorted.Goals.{else-place-to-via-then-place-to+else-get-x, else-place-to-via-else-place-to}

pub returns-else-place-to-clause-absent : goal.returns-else-place-to-clause-absent
returns-else-place-to-clause-absent c =
    let place = c.first_at_least-place.result in
    let other : place < c.args.to → get_or c.args.self.now place 0 ≢ c.args.x =
    elim c.else-place-to.branch [
      | else-place-to-via-then-place-to+else-get-x w ↦ (λ h same. w.if-get-x.false (w.get.ensures ∙ same))
      | else-place-to-via-else-place-to w ↦ (λ h. absurd (omega arith))
    ] in
    absent_from c.args.self.now c.args.from c.args.to place c.args.x c.requires.rising c.first_at_least-place.ensures.begins
    c.first_at_least-place.ensures.below c.first_at_least-place.ensures.reached other
