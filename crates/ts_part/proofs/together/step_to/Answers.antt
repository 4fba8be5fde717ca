use Rattle.std.proofs.Common.{◌<◌, length, sym, ◌∙◌, arith}
use Rattle.std.proofs.lemmas.List.{get_or_default}
use Rattle.ts_plane.proofs.RowSteps.{confirmed, refuted}
use Rattle.ts_part.proofs.MergedLemmas.{none_reached, reached_past, reached_there}
use Rattle.ts_part.proofs.together.step_to.Goals as goal

pub returns-then-place-len-clause-there : goal.returns-then-place-len-clause-there
returns-then-place-len-clause-there c =
    refuted (none_reached c.args.list.now c.args.number c.args.place c.requires.rising c.requires.reached (λ low. absurd (omega (arith, low, c.if-place-len.true, c.len.ensures))))

pub returns-then-place-len-clause-next : goal.returns-then-place-len-clause-next
returns-then-place-len-clause-next c =
    reached_past c.args.list.now c.args.number c.args.place c.requires.rising c.requires.reached (λ low. absurd (omega (arith, low, c.if-place-len.true, c.len.ensures)))

pub returns-then-get-number-clause-there : goal.returns-then-get-number-clause-there
returns-then-get-number-clause-there c =
    let within : c.args.place < length c.args.list.now = omega (arith, c.requires.reached.within, c.if-place-len.false, c.len.ensures) in
    confirmed (c.args.place, within, get_or_default c.args.list.now c.args.place c.args.number 0 within ∙ sym c.get.ensures ∙ c.if-get-number.true)

pub returns-then-get-number-clause-next : goal.returns-then-get-number-clause-next
returns-then-get-number-clause-next c =
    let within : c.args.place < length c.args.list.now = omega (arith, c.requires.reached.within, c.if-place-len.false, c.len.ensures) in
    reached_there c.args.list.now c.args.number c.args.place c.requires.rising c.requires.reached within (sym c.get.ensures ∙ c.if-get-number.true)

pub returns-else-get-number-clause-there : goal.returns-else-get-number-clause-there
returns-else-get-number-clause-there c =
    refuted (none_reached c.args.list.now c.args.number c.args.place c.requires.rising c.requires.reached (λ low is. c.if-get-number.false (c.get.ensures ∙ is)))

pub returns-else-get-number-clause-next : goal.returns-else-get-number-clause-next
returns-else-get-number-clause-next c =
    reached_past c.args.list.now c.args.number c.args.place c.requires.rising c.requires.reached (λ low is. c.if-get-number.false (c.get.ensures ∙ is))
