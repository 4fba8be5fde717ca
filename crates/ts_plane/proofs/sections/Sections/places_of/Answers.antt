use Rattle.std.proofs.Common.{length, arith, subst, sym, ◌≡◌}
use Rattle.ts_plane.specs.Read.{parts_in}
use Rattle.ts_plane.specs.Lookups.{IsRun}
use Rattle.ts_plane.proofs.RowFacts.{pair_within}
use Rattle.ts_plane.proofs.Narrowed.{AreRows, rows_between, run_of_rows, run_of_none}
use Rattle.ts_plane.proofs.sections.Sections.places_of.Goals as goal

pub returns-then-from-to-clause-run : goal.returns-then-from-to-clause-run
returns-then-from-to-clause-run c = λ test run.
    let same : c.args.to ≡ c.args.from = sym c.if-from-to.true in
    let run_none = subst (λ k. IsRun test (length c.args.self.now.pairs) c.args.from k) same run in
    run_of_none test c.args.self.now.triples.ends (length c.args.self.now.pairs) c.args.from (λ j h. pair_within (parts_in c.args.self.now) j c.requires.kept h) run_none

rows : (c : goal.After-row-after) → AreRows c.args.self.now.triples.ends c.args.from c.args.to c.row-first.result.0 c.row-after.result.1
rows c = rows_between c.args.self.now.triples.ends c.args.from c.args.to c.row-first.result.0 c.row-first.result.1 c.row-after.result.0 c.row-after.result.1 (omega arith) c.row-first.ensures c.row-after.ensures

pub returns-clause-ordered : goal.returns-clause-ordered
returns-clause-ordered c = (rows c).ordered

pub returns-clause-inside : goal.returns-clause-inside
returns-clause-inside c = (rows c).within

pub returns-clause-run : goal.returns-clause-run
returns-clause-run c = λ test run.
    run_of_rows test c.args.self.now.triples.ends (length c.args.self.now.pairs) c.args.from c.args.to c.row-first.result.0 c.row-after.result.1
    (λ j h. pair_within (parts_in c.args.self.now) j c.requires.kept h) (rows c) run

pub returns-clause-low : goal.returns-clause-low
returns-clause-low c = (rows c).low

pub returns-clause-high : goal.returns-clause-high
returns-clause-high c = (rows c).high
