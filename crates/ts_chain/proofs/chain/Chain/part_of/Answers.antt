use Rattle.std.proofs.Common.{Some, sym, ap, ◌∙◌, subst}
use Rattle.std.proofs.lemmas.List.Elements.{All-contains}
use Rattle.ts_part.specs.Loaded.{LoadedPart}
use Rattle.ts_part.specs.Rules.{KeepsRules}
use Rattle.ts_chain.specs.Chain.{IsChain}
use Rattle.ts_chain.proofs.Elements.{contains_at}
use Rattle.ts_chain.proofs.NumberRanges.{place_within}
use Rattle.ts_chain.proofs.Turns.{stands_at}
use Rattle.ts_chain.proofs.chain.Chain.part_of.Goals as goal

pub returns-clause-rules : goal.returns-clause-rules
returns-clause-rules c =
    let rules = (subst IsChain c.self.view_is c.self.invariant).rules in
    let at = stands_at (λ part. part.value.facts) c.self.inside.parts.items c.args.self.now c.place_of.result c.index.result.now c.self.view_is c.index.ensures (place_within c.args.numbered c.args.self.now c.args.id c.place_of.result c.place_of.ensures) in
    All-contains KeepsRules c.args.self.now c.deref.result.now.facts rules
    (contains_at c.args.self.now c.place_of.result c.deref.result.now.facts (at ∙ ap (λ (p : LoadedPart). Some p.facts) (sym c.deref.ensures)))
