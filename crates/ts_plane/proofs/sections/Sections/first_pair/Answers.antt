use Rattle.std.proofs.Common.{◌<◌, sym, ◌∙◌, get_or, arith}
use Rattle.ts_plane.specs.Read.{parts_in}
use Rattle.ts_plane.proofs.Narrowed.{first_pair_none, first_pair_here, first_pair_behind}
use Rattle.ts_plane.proofs.sections.Sections.first_pair.Goals as goal

pub returns-then-row-subjects : goal.returns-then-row-subjects
returns-then-row-subjects c =
    rw c.len.ensures.counted (first_pair_none (parts_in c.args.self.now) c.args.s c.args.p c.requires
    (λ i l h. c.first_at_least-row.ensures.below i l (omega (arith, c.len-subjects.ensures, c.if-row-subjects.true))))

pub returns-then-get-s : goal.returns-then-get-s
returns-then-get-s c =
    first_pair_here (parts_in c.args.self.now) c.args.s c.args.p c.first_at_least-row.result c.row-first.result.0 c.row-first.result.1 c.first_symbol.result c.requires
    (omega (arith, c.len-subjects.ensures, c.first_at_least-row.ensures.ends)) (sym c.get.ensures ∙ c.if-get-s.true) c.row-first.ensures c.first_symbol.ensures

pub returns-else-get-s : goal.returns-else-get-s
returns-else-get-s c =
    let reached = c.first_at_least-row.ensures.reached c.first_at_least-row.result (omega arith) (omega (arith, c.first_at_least-row.ensures.ends)) in
    let above : c.args.s < get_or c.args.self.now.subjects c.first_at_least-row.result 0 = omega (arith, reached, c.get.ensures, c.if-get-s.false) in
    first_pair_behind (parts_in c.args.self.now) c.args.s c.args.p c.first_at_least-row.result c.row-first.result.0 c.row-first.result.1 c.requires
    (omega (arith, c.len-subjects.ensures, c.first_at_least-row.ensures.ends)) c.first_at_least-row.ensures.below above c.row-first.ensures
