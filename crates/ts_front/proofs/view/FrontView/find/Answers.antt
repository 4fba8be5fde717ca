use Rattle.std.proofs.Common.{◌≡◌, ◌≢◌, ℕ, ◌+◌, ◌*◌, ◌/◌, ◌<◌, ◌≤◌, length, sym, ◌∙◌, ap, arith, inl, inr}
use Rattle.std.specs.Cmp.Lexicographic.{slice_cmp}
use Rattle.std.specs.Ordering.{nat_cmp}
use Rattle.std.specs.declared.cmp.Ordering.TheVariants.{Greater}
use Rattle.std.proofs.lemmas.Bool.{cases_eq, cases_lt}
use Rattle.std.proofs.lemmas.Option.{IfSome_then}
use Rattle.ts_front.specs.Shared.{text_at}
use Rattle.ts_front.specs.Pieces.{IsBlock}
use Rattle.ts_front.proofs.OrderLemmas.{greater_later, greater_differs, earlier_differs, if_none_then}
use Rattle.ts_front.proofs.RisingLemmas.{rising_at, length-block_starts}
use Rattle.ts_front.proofs.ViewLemmas.{Shows, shows, block_of_entry, count_inside}
use Rattle.ts_front.proofs.view.FrontView.find.Goals as goal

pub returns-in_err-block-clause-absent : goal.returns-in_err-block-clause-absent
returns-in_err-block-clause-absent c = rw c.from_residual.ensures (λ i h.
    let v = c.self.inside in
    let texts = c.args.self.now in
    let s : Shows v.starts v.body.now v.count texts = shows v.starts v.body.now v.count texts c.self.view_is c.self.invariant in
    let text = c.args.text.now in
    let first : slice_cmp nat_cmp (text_at texts 0) text ≡ Greater = c.in_err-block.ensures.none (omega arith) in
    elim (cases_eq i 0) [
      | inl none ↦ (λ same. greater_differs (text_at texts 0) text first (ap (text_at texts) (sym none) ∙ same))
      | inr some ↦ greater_differs (text_at texts i) text (greater_later (text_at texts 0) (text_at texts i) text (rising_at texts 0 i s.is.rising (omega arith) h) first)
    ])

pub overflow_mul-first : goal.overflow_mul-first
overflow_mul-first c =
    let v = c.self.inside in
    let texts = c.args.self.now in
    let s : Shows v.starts v.body.now v.count texts = shows v.starts v.body.now v.count texts c.self.view_is c.self.invariant in
    record { fits = omega (arith, count_inside v.starts v.body.now texts s.is, c.in_ok-block.ensures.some.0) }

pub get-requires : goal.get-requires
get-requires c =
    let v = c.self.inside in
    let texts = c.args.self.now in
    let s : Shows v.starts v.body.now v.count texts = shows v.starts v.body.now v.count texts c.self.view_is c.self.invariant in
    omega (arith, ap length s.is.starts_are, length-block_starts texts, c.in_ok-block.ensures.some.0)

pub find_equal-requires-clause-block : goal.find_equal-requires-clause-block
find_equal-requires-clause-block c =
    let v = c.self.inside in
    let texts = c.args.self.now in
    let s : Shows v.starts v.body.now v.count texts = shows v.starts v.body.now v.count texts c.self.view_is c.self.invariant in
    let b = c.in_ok-block.block in
    let known = c.in_ok-block.ensures.some in
    let end : ℕ = b * 8 + c.min.result in
    let within : end ≤ length texts = omega (arith, c.min.ensures, s.counted, known.0) in
    let block : IsBlock v.body.now c.get.result (b * 8) end texts =
    block_of_entry v.starts v.body.now texts b c.get.result (b * 8) end s.is c.get.ensures known.0 within (omega arith) in
    (texts, block)

pub returns-clause-found : goal.returns-clause-found
returns-clause-found c =
    let v = c.self.inside in
    let texts = c.args.self.now in
    let s : Shows v.starts v.body.now v.count texts = shows v.starts v.body.now v.count texts c.self.view_is c.self.invariant in
    let text = c.args.text.now in
    let b = c.in_ok-block.block in
    let known = c.in_ok-block.ensures.some in
    let end : ℕ = b * 8 + c.min.result in
    let within : end ≤ length texts = omega (arith, c.min.ensures, s.counted, known.0) in
    let block : IsBlock v.body.now c.get.result (b * 8) end texts =
    block_of_entry v.starts v.body.now texts b c.get.result (b * 8) end s.is c.get.ensures known.0 within (omega arith) in
    IfSome_then c.find_equal.result (c.find_equal.ensures.found texts block)
    (λ i h. (let inside : i < length texts = omega (arith, h.1, within) in inside, h.2))

pub returns-clause-absent : goal.returns-clause-absent
returns-clause-absent c =
    let v = c.self.inside in
    let texts = c.args.self.now in
    let s : Shows v.starts v.body.now v.count texts = shows v.starts v.body.now v.count texts c.self.view_is c.self.invariant in
    let text = c.args.text.now in
    let b = c.in_ok-block.block in
    let known = c.in_ok-block.ensures.some in
    let end : ℕ = b * 8 + c.min.result in
    let within : end ≤ length texts = omega (arith, c.min.ensures, s.counted, known.0) in
    let block : IsBlock v.body.now c.get.result (b * 8) end texts =
    block_of_entry v.starts v.body.now texts b c.get.result (b * 8) end s.is c.get.ensures known.0 within (omega arith) in
    let not_above : slice_cmp nat_cmp (text_at texts (8 * b)) text ≢ Greater = known.1 in
    if_none_then c.find_equal.result (c.find_equal.ensures.absent texts block) (λ none i h.
    elim (cases_lt i (b * 8)) [
      | inl before ↦ earlier_differs (text_at texts i) (text_at texts (8 * b)) text (rising_at texts i (8 * b) s.is.rising (omega arith) known.0) not_above
      | inr from ↦
          elim (cases_lt i end) [
            | inl inside ↦ none i from inside
            | inr past ↦
                (let later : ℕ = i / 8 in
                let next : b < later = omega (arith, c.min.ensures, s.counted, past) in
                let above : slice_cmp nat_cmp (text_at texts (8 * later)) text ≡ Greater = known.2 later next (omega arith) in
                elim (cases_eq (8 * later) i) [
                  | inl same ↦ greater_differs (text_at texts i) text (ap (λ n. slice_cmp nat_cmp (text_at texts n) text) (sym same) ∙ above)
                  | inr other ↦ greater_differs (text_at texts i) text
                      (greater_later (text_at texts (8 * later)) (text_at texts i) text (rising_at texts (8 * later) i s.is.rising (omega arith) h) above)
                ])
          ]
    ])
