use Rattle.std.proofs.Common.{◌≡◌, ◌+◌, true, false, ap, sym, ◌∙◌, drop, arith}
use Rattle.ts_part.specs.Loaded.{LoadedPart}
use Rattle.ts_chain.specs.Content.{has}
use Rattle.ts_chain.proofs.Deciding.{has_tells, comes_here, goes_here, passed_by}
use Rattle.ts_chain.proofs.Turns.{turn}
use Rattle.ts_chain.proofs.chain.Chain.stands.Goals as goal

pub returns-then-has : goal.returns-then-has
returns-then-has c =
    let part = c.newest-item.result.value.facts in
    let e = turn (λ part. part.value.facts) c.self.inside.parts.items c.deref-newest-items.result.now c.args.self.now c.loop-newest.newest-index c.newest-item.result c.self.view_is c.deref-newest-items.ensures.value c.newest-item.is (omega (arith, c.deref-newest-items.ensures.len)) in
    let added = c.additions.ensures ∙ ap (λ (p : LoadedPart). p.facts.additions) c.deref.ensures in
    let comes : has part.additions c.args.t ≡ true = sym (has_tells _ _ _ c.has.ensures ∙ ap (λ l. has l c.args.t) added) ∙ c.if-has.true in
    comes_here part (drop (c.loop-newest.newest-index + 1) c.args.self.now) _ c.args.self.now c.args.t e c.loop-newest.invariant comes

pub returns-then-has-2 : goal.returns-then-has-2
returns-then-has-2 c =
    let part = c.newest-item.result.value.facts in
    let e = turn (λ part. part.value.facts) c.self.inside.parts.items c.deref-newest-items.result.now c.args.self.now c.loop-newest.newest-index c.newest-item.result c.self.view_is c.deref-newest-items.ensures.value c.newest-item.is (omega (arith, c.deref-newest-items.ensures.len)) in
    let added = c.additions.ensures ∙ ap (λ (p : LoadedPart). p.facts.additions) c.deref.ensures in
    let removed = c.removals.ensures ∙ ap (λ (p : LoadedPart). p.facts.removals) c.deref-in-loop-newest.ensures in
    let comes : has part.additions c.args.t ≡ false = sym (has_tells _ _ _ c.has.ensures ∙ ap (λ l. has l c.args.t) added) ∙ c.if-has.false in
    let goes : has part.removals c.args.t ≡ true = sym (has_tells _ _ _ c.has-in-loop-newest.ensures ∙ ap (λ l. has l c.args.t) removed) ∙ c.if-has-2.true in
    goes_here part (drop (c.loop-newest.newest-index + 1) c.args.self.now) _ c.args.self.now c.args.t e c.loop-newest.invariant comes goes

pub loop-newest-preserved : goal.loop-newest-preserved
loop-newest-preserved c =
    let part = c.newest-item.result.value.facts in
    let e = turn (λ part. part.value.facts) c.self.inside.parts.items c.deref-newest-items.result.now c.args.self.now c.loop-newest.newest-index c.newest-item.result c.self.view_is c.deref-newest-items.ensures.value c.newest-item.is (omega (arith, c.deref-newest-items.ensures.len)) in
    let added = c.additions.ensures ∙ ap (λ (p : LoadedPart). p.facts.additions) c.deref.ensures in
    let removed = c.removals.ensures ∙ ap (λ (p : LoadedPart). p.facts.removals) c.deref-in-loop-newest.ensures in
    let comes : has part.additions c.args.t ≡ false = sym (has_tells _ _ _ c.has.ensures ∙ ap (λ l. has l c.args.t) added) ∙ c.if-has.false in
    let goes : has part.removals c.args.t ≡ false = sym (has_tells _ _ _ c.has-in-loop-newest.ensures ∙ ap (λ l. has l c.args.t) removed) ∙ c.if-has-2.false in
    passed_by part (drop (c.loop-newest.newest-index + 1) c.args.self.now) _ c.args.self.now c.args.t e c.loop-newest.invariant comes goes
