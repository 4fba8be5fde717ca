use Rattle.std.proofs.Common.{true≢false, sym, ◌∙◌, subst}
use Rattle.ts_rollup.proofs.SideBySide.{IsComparing, compares_shared, compares_own, compared}
use Rattle.ts_rollup.proofs.difference.compare.Goals as goal

pub loop-triple-preserved-then-is_at : goal.loop-triple-preserved-then-is_at
loop-triple-preserved-then-is_at c =
    let here = subst (λ still. IsComparing c.args.upper c.args.lower c.loop-triple.next c.loop-triple.lower still c.loop-triple.gained.items c.loop-triple.lost.items) c.in-Some.ensures.steps c.loop-triple.invariant in
    compares_shared c.args.upper c.args.lower c.in-Some.triple c.loop-triple.next c.loop-triple.lower c.next.new.self c.loop-triple.gained.items c.loop-triple.lost.items here
    c.in_ok-next.next c.pass_below.new.lower c.pass_below.new.lost.items c.in_ok-next.ensures.waits c.in_ok-next.ensures.left c.in_ok-next.ensures.passed
    (c.is_at.ensures.0 c.if-is_at.true) c.next-next-then-is_at.result c.next-next-then-is_at.new.self c.next-next-then-is_at.ensures.steps

pub loop-triple-preserved : goal.loop-triple-preserved
loop-triple-preserved c =
    let here = subst (λ still. IsComparing c.args.upper c.args.lower c.loop-triple.next c.loop-triple.lower still c.loop-triple.gained.items c.loop-triple.lost.items) c.in-Some.ensures.steps c.loop-triple.invariant in
    compares_own c.args.upper c.args.lower c.in-Some.triple c.loop-triple.next c.loop-triple.lower c.next.new.self c.loop-triple.gained.items c.loop-triple.lost.items here
    c.in_ok-next.next c.pass_below.new.lower c.pass_below.new.lost.items c.in_ok-next.ensures.waits c.in_ok-next.ensures.left c.in_ok-next.ensures.passed
    (λ same. true≢false (sym (c.is_at.ensures.1 same) ∙ c.if-is_at.false)) c.push.new.self.items c.in_ok-push.ensures.items

pub returns-clause-lost : goal.returns-clause-lost
returns-clause-lost c =
    let here = subst (λ still. IsComparing c.args.upper c.args.lower c.loop-triple.next c.loop-triple.lower still c.loop-triple.gained.items c.loop-triple.lost.items) c.in-None.ensures.steps.0 c.loop-triple.invariant in
    (compared c.args.upper c.args.lower c.loop-triple.next c.loop-triple.lower c.loop-triple.gained.items c.loop-triple.lost.items c.append_rest.new.into.items here c.in_ok-append_rest.ensures).1
