use Rattle.std.proofs.Common.{◌≡◌, ◌+◌, ◌-◌, ◌<◌, ◌≤◌, ℕ, [], length, take, arith, sym, ap, ◌∙◌, slice_get, None, rules}
use Rattle.std.proofs.lemmas.List.{take_all}
use Rattle.ts_front.specs.Made.{made_by}
use Rattle.ts_front.proofs.MadeLemmas.{get_past, get_before}
use Rattle.ts_front.proofs.MadeByLemmas.{made_none, made_more}
use Rattle.ts_front.proofs.made.byte_of_made.Goals as goal

none_there : (at : ℕ) → slice_get {X = ℕ} [] at ≡ None
none_there at = search rules

pub loop-count-init : goal.loop-count-init
loop-count-init c =
    let pieces = c.args.pieces.now in
    let all : length pieces ≤ length pieces = omega arith in
    record { within = all; same = ap (λ ps. slice_get (made_by ps) c.args.at) (sym (take_all (length pieces) pieces all)) }

pub loop-count-preserved : goal.loop-count-preserved
loop-count-preserved c =
    let pieces = c.args.pieces.now in
    let index = c.loop-count.count - 1 in
    let here : index < length pieces = omega arith in
    let next : index + 1 ≡ c.loop-count.count = omega arith in
    record {
      within = omega arith;
      same = c.loop-count.invariant.same
          ∙ ap (λ n. slice_get (made_by (take n pieces)) c.args.at) (sym next)
          ∙ ap (λ t. slice_get t c.args.at) (made_more pieces index _ here)
          ∙ get_before _ (made_by (take index pieces)) _ c.args.at (c.requires index _ here) c.if-at-piece.false;
    }

pub returns-then-at-piece : goal.returns-then-at-piece
returns-then-at-piece c =
    let pieces = c.args.pieces.now in
    let index = c.loop-count.count - 1 in
    let here : index < length pieces = omega arith in
    let next : index + 1 ≡ c.loop-count.count = omega arith in
    c.byte_at.ensures
    ∙ sym (c.loop-count.invariant.same
    ∙ ap (λ n. slice_get (made_by (take n pieces)) c.args.at) (sym next)
    ∙ ap (λ t. slice_get t c.args.at) (made_more pieces index _ here)
    ∙ get_past _ (made_by (take index pieces)) _ c.args.at (c.requires index _ here) c.if-at-piece.true)

pub returns : goal.returns
returns c =
    let pieces = c.args.pieces.now in
    let none : c.loop-count.count ≡ 0 = omega arith in
    sym (c.loop-count.invariant.same ∙ ap (λ n. slice_get (made_by (take n pieces)) c.args.at) none ∙ ap (λ t. slice_get t c.args.at) made_none ∙ none_there c.args.at)
