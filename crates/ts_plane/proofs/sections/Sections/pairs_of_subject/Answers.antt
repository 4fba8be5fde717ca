use Rattle.std.proofs.Common.{arith}
use Rattle.ts_plane.specs.Read.{parts_in}
use Rattle.ts_plane.proofs.Narrowed.{run_of_row, run_of_no_row}
use Rattle.ts_plane.proofs.sections.Sections.pairs_of_subject.Goals as goal

pub returns-in-Some-find_sorted : goal.returns-in-Some-find_sorted
returns-in-Some-find_sorted c =
    let found = c.in-Some-find_sorted.ensures.found in
    rw c.in-Some.is (run_of_row (parts_in c.args.self.now) c.in-Some.s c.in-Some-find_sorted.row c.row.result.0 c.row.result.1 c.requires (omega (arith, found, c.len.ensures)) found.2 c.row.ensures)

pub returns-in-None-find_sorted : goal.returns-in-None-find_sorted
returns-in-None-find_sorted c =
    rw c.in-Some.is (run_of_no_row (parts_in c.args.self.now) c.in-Some.s c.requires (λ i l h. c.in-None-find_sorted.ensures.absent i l (omega (arith, c.len.ensures, h))))
