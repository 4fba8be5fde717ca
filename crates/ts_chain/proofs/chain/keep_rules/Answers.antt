use Rattle.std.proofs.Common.{ℕ, get_or, map, ap, sym, ◌∙◌, subst, arith}
use borrow.Author.Count.{below_more}
use Rattle.ts_part.specs.Loaded.{LoadedPart}
use Rattle.ts_part.specs.Rules.{KeepsRules}
use Rattle.ts_chain.proofs.Turns.{seen}
use Rattle.ts_chain.proofs.chain.keep_rules.Goals as goal

pub loop-part-preserved : goal.loop-part-preserved
loop-part-preserved c = λ k d.
    let all = map (λ part. part.value.facts) c.args.parts.now in
    let here = sym (seen (λ part. part.value.facts) c.args.parts.now c.loop-part.part-index c.part-item.result d c.part-item.is (omega arith)) in
    let same = ap (λ (part : LoadedPart). part.facts) c.deref.ensures in
    below_more (λ (i : ℕ). KeepsRules (get_or all i d)) c.loop-part.part-index (λ i. c.loop-part.invariant i d)
    (subst KeepsRules (same ∙ here) c.header.ensures.loaded.rules) k
