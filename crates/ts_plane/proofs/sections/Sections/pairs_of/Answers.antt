use Rattle.std.proofs.Common.{length, get_or, sym, ◌∙◌, eqb, arith}
use Rattle.std.proofs.lemmas.Option.{get_or_from_slice_get}
use Rattle.ts_adjacency.specs.Rows.{row_of}
use Rattle.ts_plane.specs.Read.{parts_in}
use Rattle.ts_plane.proofs.RowFacts.{rise_in_run}
use Rattle.ts_plane.proofs.Narrowed.{narrow_found, narrow_none}
use Rattle.ts_plane.proofs.sections.Sections.pairs_of.Goals as goal
use Rattle.ts_plane.proofs.sections.Sections.pairs_of.Goals.{else-place-to-via-then-place-to+else-at-p, else-place-to-via-else-place-to}

pub first_symbol-place-requires-clause-rising : goal.first_symbol-place-requires-clause-rising
first_symbol-place-requires-clause-rising c =
    rise_in_run (parts_in c.args.self.now) c.args.s c.pairs_of_subject-from.result.0 c.pairs_of_subject-from.result.1 c.requires c.pairs_of_subject-from.ensures

pub returns-then-at-p-clause-run : goal.returns-then-at-p-clause-run
returns-then-at-p-clause-run c =
    let rising = rise_in_run (parts_in c.args.self.now) c.args.s c.pairs_of_subject-from.result.0 c.pairs_of_subject-from.result.1 c.requires c.pairs_of_subject-from.ensures in
    narrow_found (λ k. eqb c.args.s (get_or c.args.self.now.subjects (row_of c.args.self.now.pairs k) 0)) c.args.self.now.predicates (length c.args.self.now.pairs)
    c.pairs_of_subject-from.result.0 c.pairs_of_subject-from.result.1 c.args.p c.first_symbol-place.result c.pairs_of_subject-from.ensures rising c.first_symbol-place.ensures c.if-place-to.true
    (get_or_from_slice_get c.args.self.now.predicates c.first_symbol-place.result c.at.result 0 c.at.ensures ∙ c.if-at-p.true)

pub returns-else-place-to-clause-run : goal.returns-else-place-to-clause-run
returns-else-place-to-clause-run c =
    let rising = rise_in_run (parts_in c.args.self.now) c.args.s c.pairs_of_subject-from.result.0 c.pairs_of_subject-from.result.1 c.requires c.pairs_of_subject-from.ensures in
    narrow_none (λ k. eqb c.args.s (get_or c.args.self.now.subjects (row_of c.args.self.now.pairs k) 0)) c.args.self.now.predicates (length c.args.self.now.pairs)
    c.pairs_of_subject-from.result.0 c.pairs_of_subject-from.result.1 c.args.p c.first_symbol-place.result c.pairs_of_subject-from.ensures rising c.first_symbol-place.ensures
    (elim c.else-place-to.branch [
      | else-place-to-via-then-place-to+else-at-p w ↦ λ h same. w.if-at-p.false (sym (get_or_from_slice_get c.args.self.now.predicates c.first_symbol-place.result w.at.result 0 w.at.ensures) ∙ same)
      | else-place-to-via-else-place-to w ↦ λ h. absurd (omega arith)
    ])
