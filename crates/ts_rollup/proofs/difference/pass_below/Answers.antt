use Rattle.std.proofs.Common.{is_lt, sym, ap, ◌∙◌, subst}
use Rattle.ts_rollup.specs.Waiting.{waiting}
use Rattle.ts_rollup.proofs.SideBySide.{IsPassing, passes, passed_all}
use Rattle.ts_rollup.proofs.difference.pass_below.Goals as goal

pub loop-next-preserved : goal.loop-next-preserved
loop-next-preserved c =
    let here = subst (λ next. IsPassing c.args.limit (waiting c.args.first c.args.lower.now) c.args.lost.now.items next c.loop-next.lower c.loop-next.lost.items) c.in-Some.is c.loop-next.invariant in
    passes c.args.limit (waiting c.args.first c.args.lower.now) c.args.lost.now.items c.in-Some.triple c.loop-next.lower c.loop-next.lost.items here
    (sym (c.is_lt.ensures ∙ ap is_lt c.cmp.ensures) ∙ c.if-not-is_lt.false)
    c.next-next.result c.next-next.new.self c.push.new.self.items c.next-next.ensures.steps c.in_ok-push.ensures.items

pub returns-then-not-is_lt-clause-left : goal.returns-then-not-is_lt-clause-left
returns-then-not-is_lt-clause-left c =
    let here = subst (λ next. IsPassing c.args.limit (waiting c.args.first c.args.lower.now) c.args.lost.now.items next c.loop-next.lower c.loop-next.lost.items) c.in-Some.is c.loop-next.invariant in
    (passed_all c.args.limit (waiting c.args.first c.args.lower.now) c.args.lost.now.items c.in-Some.triple c.loop-next.lower c.loop-next.lost.items here
    (sym (c.is_lt.ensures ∙ ap is_lt c.cmp.ensures) ∙ c.if-not-is_lt.true)).0

pub returns-then-not-is_lt-clause-passed : goal.returns-then-not-is_lt-clause-passed
returns-then-not-is_lt-clause-passed c =
    let here = subst (λ next. IsPassing c.args.limit (waiting c.args.first c.args.lower.now) c.args.lost.now.items next c.loop-next.lower c.loop-next.lost.items) c.in-Some.is c.loop-next.invariant in
    (passed_all c.args.limit (waiting c.args.first c.args.lower.now) c.args.lost.now.items c.in-Some.triple c.loop-next.lower c.loop-next.lost.items here
    (sym (c.is_lt.ensures ∙ ap is_lt c.cmp.ensures) ∙ c.if-not-is_lt.true)).1
