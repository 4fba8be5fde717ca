use Rattle.std.proofs.Common.{arith}
use Rattle.ts_front.proofs.EntriesLemmas.{Found, found_piece}
use Rattle.ts_front.proofs.BlockLemmas.{stands_read}
use Rattle.ts_front.proofs.ReadsLemmas.{body_stands}
use Rattle.ts_front.proofs.ViewLemmas.{Shows, shows, place_inside}
use Rattle.ts_front.proofs.view.FrontView.piece.Goals as goal
use Rattle.ts_front.proofs.view.FrontView.piece.Goals.{In-Some}

pub piece_at-requires : goal.piece_at-requires
piece_at-requires c =
    let v = c.self.inside in
    let s : Shows v.starts v.body.now v.count c.args.self.now = shows v.starts v.body.now v.count c.args.self.now c.self.view_is c.self.invariant in
    omega (arith, place_inside v.starts v.body.now c.args.self.now c.args.i s.is (omega arith), c.requires.begins)

found : (c : In-Some) → Found c.args.self.now c.args.i c.args.place c.in-Some.found.1 c.in-Some.found.0.shared c.in-Some.found.0.suffix.now
found c =
    let v = c.self.inside in
    let s : Shows v.starts v.body.now v.count c.args.self.now = shows v.starts v.body.now v.count c.args.self.now c.self.view_is c.self.invariant in
    let read = c.in-Some.ensures.some in
    found_piece c.args.self.now v.body.now c.args.i c.args.place c.in-Some.found.1 c.in-Some.found.0.shared c.in-Some.found.0.suffix.now
    (body_stands v.starts v.body.now c.args.self.now c.args.i s.is c.requires.within) c.requires.begins read.0 read.1 read.2 read.3

pub unreachable-requires : goal.unreachable-requires
unreachable-requires c =
    let v = c.self.inside in
    let s : Shows v.starts v.body.now v.count c.args.self.now = shows v.starts v.body.now v.count c.args.self.now c.self.view_is c.self.invariant in
    stands_read c.args.self.now v.body.now c.args.i c.args.place (body_stands v.starts v.body.now c.args.self.now c.args.i s.is c.requires.within)
    (omega arith) c.requires.begins c.in-None.ensures.none

pub returns-clause-shares : goal.returns-clause-shares
returns-clause-shares c = (found c).shares

pub returns-clause-adds : goal.returns-clause-adds
returns-clause-adds c = (found c).adds

pub returns-clause-next : goal.returns-clause-next
returns-clause-next c = (found c).goes_on
