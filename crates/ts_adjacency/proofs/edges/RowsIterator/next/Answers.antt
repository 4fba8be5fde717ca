use Rattle.std.proofs.Common.{◌≡◌, ◌+◌, ◌<◌, [], ◌∷◌, length, drop, sym, ◌∙◌, ap, arith, rules}
use Rattle.ts_adjacency.specs.Rows.{row_of}
use Rattle.ts_adjacency.specs.Adjacency.{edges}
use Rattle.ts_adjacency.proofs.RowLemmas.{row_next}
use Rattle.ts_adjacency.proofs.EdgeLemmas.{edges_more, edges_end}
use Rattle.ts_adjacency.proofs.edges.RowsIterator.next.Goals as goal

pub returns-then-self-len-clause-steps : goal.returns-then-self-len-clause-steps
returns-then-self-len-clause-steps c =
    let r = c.self.inside in
    let none : c.args.self.now ≡ [] = sym c.self.view_is ∙ edges_end r.view r.place (omega (arith, c.len.ensures.counted, c.if-self-len.true)) in
    (none, none)

pub invariant_of-self : goal.invariant_of-self
invariant_of-self c =
    let r = c.self.inside in
    let inside : r.place < length r.view.ends = omega (arith, c.self.invariant.0, c.len.ensures.counted, c.if-self-len.false) in
    let next = row_next r.view.ends r.place c.is_last-is_last.result c.is_last-is_last.ensures in
    (omega arith, λ _. omega (arith, next, c.self.invariant.1 inside, c.from.ensures))

step : (c : goal.After-self-2-1) → c.args.self.now ≡ (c.self.inside.row, c.right.result) ∷ drop (c.self.inside.place + 1) (edges c.self.inside.view)
step c =
    let r = c.self.inside in
    let inside : r.place < length r.view.ends = omega (arith, c.self.invariant.0, c.len.ensures.counted, c.if-self-len.false) in
    sym c.self.view_is ∙ edges_more r.view r.place inside
    ∙ ap (λ x. (row_of r.view.ends r.place, x) ∷ drop (r.place + 1) (edges r.view)) (sym c.right.ensures)
    ∙ ap (λ i. (i, c.right.result) ∷ drop (r.place + 1) (edges r.view)) (sym (c.self.invariant.1 inside))

pub returns-clause-steps : goal.returns-clause-steps
returns-clause-steps c = step c

pub returns-clause-goes : goal.returns-clause-goes
returns-clause-goes c = rw (step c) (search rules)
