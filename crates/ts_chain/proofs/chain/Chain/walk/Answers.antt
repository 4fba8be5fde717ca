use Rattle.std.proofs.Common.{◌≡◌, ◌∙◌, IfOk, rules, subst, sym}
use Rattle.std.proofs.lemmas.Result.{IfOk-weaker}
use Rattle.ts_chain.specs.Chain.{IsChain}
use Rattle.ts_chain.specs.Views.{AreTriplesOf}
use Rattle.ts_chain.specs.Walks.{selected, walked}
use Rattle.ts_chain.proofs.WalkBounds.{walk_bounds}
use Rattle.ts_chain.proofs.SelectedAtLayers.{selected_at}
use Rattle.ts_chain.proofs.chain.Chain.walk.Goals as goal

pub returns-clause-bounds : goal.returns-clause-bounds
returns-clause-bounds c =
    let parts = c.args.self.now in
    let bounds = walk_bounds parts c.args.pattern c.args.after (subst IsChain c.self.view_is c.self.invariant) in
    let gives : IfOk c.over.result (λ walk. walk ≡ walked parts c.args.pattern c.args.after) = search rules in
    IfOk-weaker c.over.result (λ walk. walk ≡ walked parts c.args.pattern c.args.after) (AreTriplesOf parts) (λ walk is. subst (AreTriplesOf parts) (sym is) bounds) gives

pub returns-clause-selected : goal.returns-clause-selected
returns-clause-selected c = λ history k wanted stands by_pattern.
    let parts = c.args.self.now in
    let gives : IfOk c.over.result (λ walk. walk ≡ walked parts c.args.pattern c.args.after) = search rules in
    IfOk-weaker c.over.result (λ walk. walk ≡ walked parts c.args.pattern c.args.after) (λ walk. walk ≡ selected history k wanted c.args.after)
    (λ walk is. is ∙ selected_at history k parts wanted c.args.pattern c.args.after stands by_pattern) gives
