use Rattle.std.proofs.Common.{◌≡◌, true, length, arith, ap, subst}
use Rattle.std.proofs.lemmas.Option.{slice_get_within}
use Rattle.ts_bits.specs.Rank.{ones, rank}
use Rattle.ts_bits.specs.Select.{IsNextOne}
use Rattle.ts_adjacency.proofs.RowLemmas.{row_found}
use Rattle.ts_adjacency.proofs.rows.RowsView.row.Goals as goal

pub next1-requires : goal.next1-requires
next1-requires c =
    let same : c.self.inside.ends ≡ c.args.self.now = c.self.view_is in
    omega (arith, c.first_of-first.ensures.within, ap length same)

pub behind-requires : goal.behind-requires
behind-requires c =
    let same : c.self.inside.ends ≡ c.args.self.now = c.self.view_is in
    let next : IsNextOne c.self.inside.ends c.first_of-first.result c.in-Some.last = c.in-Some.ensures.some in
    omega (arith, slice_get_within c.self.inside.ends c.in-Some.last true next.one, ap length same)

pub unreachable-requires : goal.unreachable-requires
unreachable-requires c =
    let same : c.self.inside.ends ≡ c.args.self.now = c.self.view_is in
    omega (arith, c.in-None.ensures.none, ap ones same, ap (λ ends. rank ends c.first_of-first.result) same, c.first_of-first.ensures.here, c.requires)

pub returns : goal.returns
returns c =
    let same : c.self.inside.ends ≡ c.args.self.now = c.self.view_is in
    let next : IsNextOne c.args.self.now c.first_of-first.result c.in-Some.last =
    subst (λ ends. IsNextOne ends c.first_of-first.result c.in-Some.last) same c.in-Some.ensures.some in
    rw c.behind.ensures (row_found c.args.self.now c.args.i c.first_of-first.result c.in-Some.last c.first_of-first.ensures next)
