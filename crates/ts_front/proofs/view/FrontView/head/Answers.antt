use Rattle.std.proofs.Common.{◌≡◌, ◌*◌, length, ◌∙◌, ap, arith}
use Rattle.ts_front.specs.Shared.{text_at}
use Rattle.ts_front.specs.Dictionary.{place_of}
use Rattle.ts_front.proofs.EntriesLemmas.{suffix_first}
use Rattle.ts_front.proofs.RisingLemmas.{length-block_starts}
use Rattle.ts_front.proofs.ReadsLemmas.{start_of}
use Rattle.ts_front.proofs.ViewLemmas.{Shows, shows, count_inside}
use Rattle.ts_front.proofs.view.FrontView.head.Goals as goal

pub get-place-requires : goal.get-place-requires
get-place-requires c =
    let v = c.self.inside in
    let s : Shows v.starts v.body.now v.count c.args.self.now = shows v.starts v.body.now v.count c.args.self.now c.self.view_is c.self.invariant in
    omega (arith, ap length s.is.starts_are, length-block_starts c.args.self.now, c.requires)

pub overflow_mul-block : goal.overflow_mul-block
overflow_mul-block c =
    let v = c.self.inside in
    let s : Shows v.starts v.body.now v.count c.args.self.now = shows v.starts v.body.now v.count c.args.self.now c.self.view_is c.self.invariant in
    record { fits = omega (arith, count_inside v.starts v.body.now c.args.self.now s.is, c.requires) }

pub piece-requires-clause-begins : goal.piece-requires-clause-begins
piece-requires-clause-begins c =
    let v = c.self.inside in
    let s : Shows v.starts v.body.now v.count c.args.self.now = shows v.starts v.body.now v.count c.args.self.now c.self.view_is c.self.invariant in
    c.get-place.ensures ∙ start_of v.starts v.body.now c.args.self.now c.args.block s.is c.requires
    ∙ ap (place_of c.args.self.now) (let e : 8 * c.args.block ≡ c.args.block * 8 = omega arith in e)

pub returns : goal.returns
returns c =
    c.piece.ensures.adds ∙ suffix_first c.args.self.now (c.args.block * 8) (omega arith)
    ∙ ap (text_at c.args.self.now) (let e : c.args.block * 8 ≡ 8 * c.args.block = omega arith in e)
