use Rattle.std.proofs.Common.{◌≡◌, ◌∙◌, ap, subst, sym}
use Rattle.ts_adjacency.specs.Adjacency.{Adjacency, edges_from}
use Rattle.ts_adjacency.specs.Rows.{BeginsAt}
use Rattle.ts_adjacency.proofs.EdgeLemmas.{edges_behind}
use Rattle.ts_adjacency.proofs.adjacency.AdjacencyView.iter_from.Goals as goal

-- the row begins there in the copy too
begin : (c : goal.After-first_of) → BeginsAt c.copy.result.ends c.args.i c.first_of.result
begin c =
    let same : c.self.inside.rows ≡ c.copy.result.ends = ap (λ (a : Adjacency). a.ends) (c.self.view_is ∙ sym c.copy.ensures) in
    subst (λ ends. BeginsAt ends c.args.i c.first_of.result) same c.first_of.ensures

pub new-requires-clause-there : goal.new-requires-clause-there
new-requires-clause-there c = λ _. sym (begin c).here

pub returns : goal.returns
returns c =
    let same : c.self.inside.rows ≡ c.copy.result.ends = ap (λ (a : Adjacency). a.ends) (c.self.view_is ∙ sym c.copy.ensures) in
    let behind = subst (λ ends. BeginsAt ends c.args.i c.first_of.result) same c.first_of.ensures in
    c.new.ensures ∙ edges_behind c.copy.result c.args.i c.first_of.result behind ∙ ap (λ a. edges_from a c.args.i) c.copy.ensures
