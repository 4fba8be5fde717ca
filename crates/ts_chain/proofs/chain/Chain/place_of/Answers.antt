use Rattle.std.proofs.Common.{◌≡◌, ◌+◌, ◌-◌, ◌/◌, ap, ◌∙◌, subst, arith}
use Rattle.ts_part.specs.Loaded.{LoadedPart}
use Rattle.ts_chain.specs.Chain.{IsChain}
use Rattle.ts_chain.specs.Numbered.{before_of, facts_before}
use Rattle.ts_chain.proofs.Narrowing.{narrow_high, narrow_low, narrow_all}
use Rattle.ts_chain.proofs.Ranges.{header_before}
use Rattle.ts_chain.proofs.Turns.{stands_at}
use Rattle.ts_chain.proofs.chain.Chain.place_of.Goals as goal

pub loop-low-preserved-then-before-id : goal.loop-low-preserved-then-before-id
loop-low-preserved-then-before-id c =
    let middle = c.loop-low.low + (c.loop-low.high - c.loop-low.low) / 2 in
    let at = stands_at (λ part. part.value.facts) c.self.inside.parts.items c.args.self.now middle c.index.result.now c.self.view_is c.index.ensures (omega (arith, c.loop-low.invariant.within, c.len-high.ensures)) in
    let before : c.before-in-loop-low.result ≡ facts_before c.args.numbered c.index.result.now.value.facts =
    c.before-in-loop-low.ensures ∙ ap (before_of c.args.numbered) c.header.ensures.header ∙ header_before c.args.numbered c.deref.result.now
    ∙ ap (λ (p : LoadedPart). facts_before c.args.numbered p.facts) c.deref.ensures in
    narrow_high c.args.numbered c.args.self.now c.args.id c.loop-low.low c.loop-low.high middle c.index.result.now.value.facts c.loop-low.invariant
    (omega arith) (omega (arith, c.loop-low-test.true)) at (omega arith)

pub loop-low-preserved : goal.loop-low-preserved
loop-low-preserved c =
    let middle = c.loop-low.low + (c.loop-low.high - c.loop-low.low) / 2 in
    let at = stands_at (λ part. part.value.facts) c.self.inside.parts.items c.args.self.now middle c.index.result.now c.self.view_is c.index.ensures (omega (arith, c.loop-low.invariant.within, c.len-high.ensures)) in
    let before : c.before-in-loop-low.result ≡ facts_before c.args.numbered c.index.result.now.value.facts =
    c.before-in-loop-low.ensures ∙ ap (before_of c.args.numbered) c.header.ensures.header ∙ header_before c.args.numbered c.deref.result.now
    ∙ ap (λ (p : LoadedPart). facts_before c.args.numbered p.facts) c.deref.ensures in
    narrow_low c.args.numbered c.args.self.now c.args.id c.loop-low.low c.loop-low.high middle c.index.result.now.value.facts c.loop-low.invariant
    (omega arith) (omega (arith, c.loop-low-test.true)) at (omega arith)

pub returns : goal.returns
returns c =
    narrow_all c.args.numbered c.args.self.now c.args.id c.loop-low.low c.loop-low.high (subst IsChain c.self.view_is c.self.invariant) c.requires.some c.requires.within
    c.loop-low.invariant c.loop-low-test.false
