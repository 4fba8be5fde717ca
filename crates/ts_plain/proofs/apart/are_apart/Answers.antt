use Rattle.std.proofs.Common.{refl, sym, ◌∙◌, true≢false}
use Rattle.ts_plain.proofs.ApartLaws.{skip_left, skip_right, first_of_both, nothing_left, nothing_right, both_ways}
use Rattle.ts_plain.proofs.apart.are_apart.Goals as goal

pub returns-in-Equal : goal.returns-in-Equal
returns-in-Equal c =
    let t = c.in-Some-Some in
    let none = first_of_both c.loop-addition.left.now c.loop-addition.right.now t.addition.now t.removal.now t.later.now t.others.now t.ensures.cases.0 t.ensures'.cases.0 (sym c.cmp.ensures ∙ c.in-Equal.is) in
    (λ h. absurd (true≢false (sym h)), λ apart. absurd (none (c.loop-addition.invariant.same.1 apart)))

pub loop-addition-preserved-in-Less : goal.loop-addition-preserved-in-Less
loop-addition-preserved-in-Less c =
    let t = c.in-Some-Some in
    let inv = c.loop-addition.invariant in
    let step = skip_left c.loop-addition.left.now c.loop-addition.right.now t.addition.now t.removal.now t.later.now t.others.now t.ensures.cases.0 t.ensures'.cases.0 (sym c.cmp.ensures ∙ c.in-Less.is) inv.left_rises inv.right_rises in
    record { left_rises = step.0; right_rises = inv.right_rises; same = both_ways step.1 inv.same }

pub loop-addition-preserved : goal.loop-addition-preserved
loop-addition-preserved c =
    let t = c.in-Some-Some in
    let inv = c.loop-addition.invariant in
    let step = skip_right c.loop-addition.left.now c.loop-addition.right.now t.addition.now t.removal.now t.later.now t.others.now t.ensures.cases.0 t.ensures'.cases.0 (sym c.cmp.ensures ∙ c.in-Greater.is) inv.left_rises inv.right_rises in
    record { left_rises = inv.left_rises; right_rises = step.0; same = both_ways step.1 inv.same }

pub returns-in_default : goal.returns-in_default
returns-in_default c = (λ h. c.loop-addition.invariant.same.0 (nothing_right c.loop-addition.left.now c.loop-addition.right.now c.in_default.ensures'.cases), λ h. refl)

pub returns-in_default-2 : goal.returns-in_default-2
returns-in_default-2 c = (λ h. c.loop-addition.invariant.same.0 (nothing_left c.loop-addition.left.now c.loop-addition.right.now c.in_default.ensures.cases), λ h. refl)
