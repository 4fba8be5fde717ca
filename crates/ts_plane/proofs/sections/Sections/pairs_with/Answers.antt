use Rattle.std.proofs.Common.{arith}
use Rattle.ts_plane.specs.Read.{parts_in}
use Rattle.ts_plane.proofs.ObjectLemmas.{objects_rise}
use Rattle.ts_plane.proofs.ObjectWalks.{row_rises, first_mono, object_walk, object_walk_none}
use Rattle.ts_plane.proofs.sections.Sections.pairs_with.Goals as goal

pub find_sorted-requires-clause-rising : goal.find_sorted-requires-clause-rising
find_sorted-requires-clause-rising c = λ k l h. objects_rise (parts_in c.args.self.now) c.requires k l (omega (arith, h, c.len.ensures))

pub returns-in-None-clause-walk : goal.returns-in-None-clause-walk
returns-in-None-clause-walk c = λ p.
    object_walk_none (parts_in c.args.self.now) c.args.s p c.args.o c.args.after c.requires (λ i l h. c.in-None.ensures.absent i l (omega (arith, h, c.len.ensures)))

pub first_right-requires-clause-rising : goal.first_right-requires-clause-rising
first_right-requires-clause-rising c =
    row_rises (parts_in c.args.self.now) c.in-Some.row c.row.result.0 c.row.result.1 c.requires (omega (arith, c.in-Some.ensures.found, c.len.ensures)) c.row.ensures

pub first_right-requires-2-clause-rising : goal.first_right-requires-2-clause-rising
first_right-requires-2-clause-rising c =
    row_rises (parts_in c.args.self.now) c.in-Some.row c.row.result.0 c.row.result.1 c.requires (omega (arith, c.in-Some.ensures.found, c.len.ensures)) c.row.ensures

pub returns-clause-ordered : goal.returns-clause-ordered
returns-clause-ordered c =
    first_mono c.args.self.now.by_object.rights c.row.result.0 c.row.result.1 c.min-from.result c.pairs_of_subject-from.result.1 c.first_right.result c.first_right-2.result
    (omega (arith, c.max.ensures, c.min-from.ensures)) c.first_right.ensures c.first_right-2.ensures

pub returns-clause-walk : goal.returns-clause-walk
returns-clause-walk c = λ p.
    object_walk (parts_in c.args.self.now) c.args.s p c.args.o c.args.after c.in-Some.row c.row.result.0 c.row.result.1 c.pairs_of_subject-from.result.0 c.pairs_of_subject-from.result.1
    c.start_pair-start.result c.min-from.result c.first_right.result c.first_right-2.result c.requires
    (omega (arith, c.in-Some.ensures.found, c.len.ensures)) c.in-Some.ensures.found.2 c.row.ensures c.pairs_of_subject-from.ensures c.start_pair-start.ensures
    (λ h. omega (arith, c.pairs_of_subject-from.ensures.ordered, c.max.ensures, c.min-from.ensures)) (λ h k. omega (arith, c.pairs_of_subject-from.ensures.ordered, c.max.ensures, c.min-from.ensures))
    (λ h. omega (arith, c.pairs_of_subject-from.ensures.ordered, c.max.ensures, c.min-from.ensures)) c.first_right.ensures c.first_right-2.ensures

pub returns-clause-rising : goal.returns-clause-rising
returns-clause-rising c =
    let up = row_rises (parts_in c.args.self.now) c.in-Some.row c.row.result.0 c.row.result.1 c.requires (omega (arith, c.in-Some.ensures.found, c.len.ensures)) c.row.ensures in
    λ k low high. up k (omega (arith, low, c.first_right.ensures.begins)) (omega (arith, high, c.first_right-2.ensures.ends))
