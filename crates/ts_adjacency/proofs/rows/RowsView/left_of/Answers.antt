use Rattle.std.proofs.Common.{◌≡◌, length, ap, arith}
use Rattle.ts_adjacency.specs.Rows.{row_count}
use Rattle.ts_adjacency.proofs.RowLemmas.{row_within}
use Rattle.ts_adjacency.proofs.rows.RowsView.left_of.Goals as goal

pub returns-clause-within : goal.returns-clause-within
returns-clause-within c =
    let same : c.self.inside.ends ≡ c.args.self.now = c.self.view_is in
    let within = row_within c.self.inside.ends c.args.j c.self.invariant (omega (arith, ap length same, c.requires)) in
    omega (arith, c.rank1.ensures, within, ap row_count same)
