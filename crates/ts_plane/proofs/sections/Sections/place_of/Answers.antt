use Rattle.std.proofs.Common.{Some, length, sym, ◌∙◌, arith}
use Rattle.ts_adjacency.specs.Rows.{row_of}
use Rattle.ts_plane.specs.Read.{parts_in}
use Rattle.ts_plane.specs.Lookups.{pair_at, pair_fits}
use Rattle.ts_plane.proofs.RowFacts.{rise_in_pair}
use Rattle.ts_plane.proofs.Narrowed.{narrow_found, narrow_none}
use Rattle.ts_plane.proofs.sections.Sections.place_of.Goals as goal
use Rattle.ts_plane.proofs.sections.Sections.place_of.Goals.{else-place-to-via-then-place-to+else-right-t, else-place-to-via-else-place-to}

pub first_right-place-requires-clause-ordered : goal.first_right-place-requires-clause-ordered
first_right-place-requires-clause-ordered c =
    (c.places_of-from.ensures.run (λ k. pair_fits (Some c.args.t.s) (Some c.args.t.p) (pair_at (parts_in c.args.self.now) k)) c.pairs_of-pair.ensures.run).ordered

pub first_right-place-requires-clause-inside : goal.first_right-place-requires-clause-inside
first_right-place-requires-clause-inside c =
    (c.places_of-from.ensures.run (λ k. pair_fits (Some c.args.t.s) (Some c.args.t.p) (pair_at (parts_in c.args.self.now) k)) c.pairs_of-pair.ensures.run).within

pub first_right-place-requires-clause-rising : goal.first_right-place-requires-clause-rising
first_right-place-requires-clause-rising c =
    let run = c.places_of-from.ensures.run (λ k. pair_fits (Some c.args.t.s) (Some c.args.t.p) (pair_at (parts_in c.args.self.now) k)) c.pairs_of-pair.ensures.run in
    rise_in_pair (parts_in c.args.self.now) c.pairs_of-pair.result.0 c.pairs_of-pair.result.1 c.places_of-from.result.0 c.places_of-from.result.1 c.requires
    c.pairs_of-pair.ensures.single run.within c.places_of-from.ensures.low c.places_of-from.ensures.high

pub right-requires : goal.right-requires
right-requires c =
    let run = c.places_of-from.ensures.run (λ k. pair_fits (Some c.args.t.s) (Some c.args.t.p) (pair_at (parts_in c.args.self.now) k)) c.pairs_of-pair.ensures.run in
    omega (arith, run.within)

pub returns-then-right-t : goal.returns-then-right-t
returns-then-right-t c =
    let run = c.places_of-from.ensures.run (λ k. pair_fits (Some c.args.t.s) (Some c.args.t.p) (pair_at (parts_in c.args.self.now) k)) c.pairs_of-pair.ensures.run in
    let rising = rise_in_pair (parts_in c.args.self.now) c.pairs_of-pair.result.0 c.pairs_of-pair.result.1 c.places_of-from.result.0 c.places_of-from.result.1 c.requires
    c.pairs_of-pair.ensures.single run.within c.places_of-from.ensures.low c.places_of-from.ensures.high in
    narrow_found (λ j. pair_fits (Some c.args.t.s) (Some c.args.t.p) (pair_at (parts_in c.args.self.now) (row_of c.args.self.now.triples.ends j))) c.args.self.now.triples.rights (length c.args.self.now.triples.ends)
    c.places_of-from.result.0 c.places_of-from.result.1 c.args.t.o c.first_right-place.result run rising c.first_right-place.ensures c.if-place-to.true (sym c.right.ensures ∙ c.if-right-t.true)

pub returns-else-place-to : goal.returns-else-place-to
returns-else-place-to c =
    let run = c.places_of-from.ensures.run (λ k. pair_fits (Some c.args.t.s) (Some c.args.t.p) (pair_at (parts_in c.args.self.now) k)) c.pairs_of-pair.ensures.run in
    let rising = rise_in_pair (parts_in c.args.self.now) c.pairs_of-pair.result.0 c.pairs_of-pair.result.1 c.places_of-from.result.0 c.places_of-from.result.1 c.requires
    c.pairs_of-pair.ensures.single run.within c.places_of-from.ensures.low c.places_of-from.ensures.high in
    narrow_none (λ j. pair_fits (Some c.args.t.s) (Some c.args.t.p) (pair_at (parts_in c.args.self.now) (row_of c.args.self.now.triples.ends j))) c.args.self.now.triples.rights (length c.args.self.now.triples.ends)
    c.places_of-from.result.0 c.places_of-from.result.1 c.args.t.o c.first_right-place.result run rising c.first_right-place.ensures
    (elim c.else-place-to.branch [
      | else-place-to-via-then-place-to+else-right-t w ↦ λ h same. w.if-right-t.false (w.right.ensures ∙ same)
      | else-place-to-via-else-place-to w ↦ λ h. absurd (omega arith)
    ])
