use Rattle.std.proofs.Common.{◌≤◌, [], length, take, arith, sym, ap, subst, ◌∙◌}
use Rattle.std.proofs.lemmas.List.{take_all}
use Rattle.std.specs.Cmp.Lexicographic.{slice_cmp}
use Rattle.std.specs.Ordering.{nat_cmp}
use Rattle.ts_front.specs.Made.{made_by}
use Rattle.ts_front.specs.Pieces.{Compares}
use Rattle.ts_front.proofs.SharedLemmas.{shared_le_right}
use Rattle.ts_front.proofs.MadeByLemmas.{made_none, made_more}
use Rattle.ts_front.proofs.made.compare_made.Goals as goal

pub loop-piece-init : goal.loop-piece-init
loop-piece-init c =
    let text = c.args.text.now in
    let found = c.compare_texts-found in
    record {
      shares = omega (arith, found.ensures.shares, shared_le_right [] text);
      compares = subst (λ t. Compares t text found.result.shared found.result.order) (sym made_none) found.ensures;
    }

pub loop-piece-preserved : goal.loop-piece-preserved
loop-piece-preserved c =
    let pieces = c.args.pieces.now in
    let index = c.loop-piece.piece-index in
    let found = c.go_on-found in
    record {
      shares = found.ensures.inside;
      compares =
          subst (λ t. Compares t c.args.text.now found.result.shared found.result.order) (sym (made_more pieces index _ c.loop-piece-test.true))
          (found.ensures.compares (made_by (take index pieces)) (c.requires index _ c.loop-piece-test.true) c.loop-piece.invariant.compares);
    }

pub returns : goal.returns
returns c =
    let pieces = c.args.pieces.now in
    let all : length pieces ≤ c.loop-piece.piece-index = omega arith in
    c.loop-piece.invariant.compares.ordered ∙ ap (λ ps. slice_cmp nat_cmp (made_by ps) c.args.text.now) (take_all c.loop-piece.piece-index pieces all)
