use Rattle.std.proofs.Common.{◌≡◌, ◌+◌, ◌-◌, ◌*◌, ◌/◌, ◌++◌, length, ◌∙◌, ap, arith}
use Rattle.std.proofs.lemmas.Result.{on_ok_weaker}
use Rattle.ts_front.specs.Shared.{text_at}
use Rattle.ts_front.specs.Pieces.{IsBlock}
use Rattle.ts_front.proofs.RisingLemmas.{length-block_starts}
use Rattle.ts_front.proofs.ViewLemmas.{Shows, shows, block_of_entry, count_inside}
use Rattle.ts_front.proofs.view.FrontView.entry.Goals as goal

pub get-place-requires : goal.get-place-requires
get-place-requires c =
    let v = c.self.inside in
    let texts = c.args.self.now in
    let s : Shows v.starts v.body.now v.count texts = shows v.starts v.body.now v.count texts c.self.view_is c.self.invariant in
    omega (arith, ap length s.is.starts_are, length-block_starts texts, c.requires)

pub overflow_add-i : goal.overflow_add-i
overflow_add-i c =
    let v = c.self.inside in
    let texts = c.args.self.now in
    let s : Shows v.starts v.body.now v.count texts = shows v.starts v.body.now v.count texts c.self.view_is c.self.invariant in
    record { fits = omega (arith, count_inside v.starts v.body.now texts s.is, c.requires) }

pub append_last-requires-clause-block : goal.append_last-requires-clause-block
append_last-requires-clause-block c =
    let v = c.self.inside in
    let texts = c.args.self.now in
    let s : Shows v.starts v.body.now v.count texts = shows v.starts v.body.now v.count texts c.self.view_is c.self.invariant in
    let block : IsBlock v.body.now c.get-place.result (c.args.i / 8 * 8) (c.args.i + 1) texts =
    block_of_entry v.starts v.body.now texts (c.args.i / 8) c.get-place.result (c.args.i / 8 * 8) (c.args.i + 1) s.is c.get-place.ensures
    (omega arith) (omega (arith, c.requires)) (omega arith) in
    (texts, block)

pub returns-clause-written : goal.returns-clause-written
returns-clause-written c =
    let v = c.self.inside in
    let texts = c.args.self.now in
    let s : Shows v.starts v.body.now v.count texts = shows v.starts v.body.now v.count texts c.self.view_is c.self.invariant in
    let block : IsBlock v.body.now c.get-place.result (c.args.i / 8 * 8) (c.args.i + 1) texts =
    block_of_entry v.starts v.body.now texts (c.args.i / 8) c.get-place.result (c.args.i / 8 * 8) (c.args.i + 1) s.is c.get-place.ensures
    (omega arith) (omega (arith, c.requires)) (omega arith) in
    let last : c.args.i + 1 - 1 ≡ c.args.i = omega arith in
    on_ok_weaker c.append_last.result (λ e. e ∙ ap (λ k. c.args.into.now.items ++ text_at texts k) last) (c.append_last.ensures.written texts block)
