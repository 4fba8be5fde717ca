use Rattle.std.proofs.Common.{◌≡◌, ◌+◌, ◌-◌, ◌*◌, ◌/◌, length, ◌∙◌, ap, arith}
use Rattle.std.specs.Cmp.Lexicographic.{slice_cmp}
use Rattle.std.specs.Ordering.{nat_cmp}
use Rattle.ts_front.specs.Shared.{text_at}
use Rattle.ts_front.specs.Pieces.{IsBlock}
use Rattle.ts_front.proofs.RisingLemmas.{length-block_starts}
use Rattle.ts_front.proofs.ViewLemmas.{Shows, shows, block_of_entry, count_inside}
use Rattle.ts_front.proofs.view.FrontView.compare.Goals as goal

pub get-place-requires : goal.get-place-requires
get-place-requires c =
    let v = c.self.inside in
    let texts = c.args.self.now in
    let s : Shows v.starts v.body.now v.count texts = shows v.starts v.body.now v.count texts c.self.view_is c.self.invariant in
    omega (arith, ap length s.is.starts_are, length-block_starts texts, c.requires)

pub overflow_add-i : goal.overflow_add-i
overflow_add-i c =
    let v = c.self.inside in
    let texts = c.args.self.now in
    let s : Shows v.starts v.body.now v.count texts = shows v.starts v.body.now v.count texts c.self.view_is c.self.invariant in
    record { fits = omega (arith, count_inside v.starts v.body.now texts s.is, c.requires) }

pub compare_last-requires-clause-block : goal.compare_last-requires-clause-block
compare_last-requires-clause-block c =
    let v = c.self.inside in
    let texts = c.args.self.now in
    let s : Shows v.starts v.body.now v.count texts = shows v.starts v.body.now v.count texts c.self.view_is c.self.invariant in
    let block : IsBlock v.body.now c.get-place.result (c.args.i / 8 * 8) (c.args.i + 1) texts =
    block_of_entry v.starts v.body.now texts (c.args.i / 8) c.get-place.result (c.args.i / 8 * 8) (c.args.i + 1) s.is c.get-place.ensures
    (omega arith) (omega (arith, c.requires)) (omega arith) in
    (texts, block)

pub returns : goal.returns
returns c =
    let v = c.self.inside in
    let texts = c.args.self.now in
    let s : Shows v.starts v.body.now v.count texts = shows v.starts v.body.now v.count texts c.self.view_is c.self.invariant in
    let block : IsBlock v.body.now c.get-place.result (c.args.i / 8 * 8) (c.args.i + 1) texts =
    block_of_entry v.starts v.body.now texts (c.args.i / 8) c.get-place.result (c.args.i / 8 * 8) (c.args.i + 1) s.is c.get-place.ensures
    (omega arith) (omega (arith, c.requires)) (omega arith) in
    let last : c.args.i + 1 - 1 ≡ c.args.i = omega arith in
    c.compare_last.ensures texts block ∙ ap (λ k. slice_cmp nat_cmp (text_at texts k) c.args.text.now) last
