use Rattle.std.proofs.Common.{◌≡◌, ◌+◌, subst, arith}
use Rattle.ts_adjacency.specs.Rows.{BeginsAt}
use Rattle.ts_adjacency.proofs.RowLemmas.{begins_first, begins_behind}
use Rattle.ts_adjacency.proofs.rows.RowsView.first_of.Goals as goal

pub returns-then-i-eq0 : goal.returns-then-i-eq0
returns-then-i-eq0 c = rw c.if-i-eq0.true (begins_first c.args.self.now)

pub returns : goal.returns
returns c =
    let same : c.self.inside.ends ≡ c.args.self.now = c.self.view_is in
    rw c.behind.ensures (subst (λ ends. BeginsAt ends c.args.i (c.in-Some.last + 1)) same
    (begins_behind c.self.inside.ends c.args.i c.in-Some.last (omega arith) (c.in-Some.ensures.some)))
