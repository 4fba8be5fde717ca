use Rattle.std.proofs.Common.{◌≡◌, ℕ, ◌-◌, List, [], arith, sym, ◌∙◌, ap, subst}
use Rattle.std.specs.Cmp.Lexicographic.{slice_cmp}
use Rattle.std.specs.Ordering.{nat_cmp}
use Rattle.ts_front.specs.Shared.{text_at}
use Rattle.ts_front.specs.Pieces.{IsBlock, Compares}
use Rattle.ts_front.proofs.SharedLemmas.{shared_le_right}
use Rattle.ts_front.proofs.BlockLemmas.{last_of, last_start, last_later, Step, block_step, block_inside, block_read}
use Rattle.ts_front.proofs.compare.compare_last.Goals as goal

pub loop-i-init : goal.loop-i-init
loop-i-init c =
    let text = c.args.text.now in
    let found = c.compare_texts-found in
    record {
      shares = omega (arith, found.ensures.shares, shared_le_right [] text);
      placed = (λ texts block. block.placed);
      compares = (λ texts block. subst (λ t. Compares t text found.result.shared found.result.order) (sym (last_start texts c.args.first)) found.ensures);
    }

pub loop-i-preserved : goal.loop-i-preserved
loop-i-preserved c =
    let i = c.loop-i.i in
    let body = c.args.body.now in
    let text = c.args.text.now in
    let piece = c.in-Some.piece in
    let found = c.go_on-found.result in
    let step : (texts : List (List ℕ)) → IsBlock body c.args.place c.args.first c.args.end texts → Step texts c.args.first i c.in-Some.next piece.shared piece.suffix.now =
    λ texts block. block_step body c.args.place c.args.first c.args.end texts i c.loop-i.at c.in-Some.next piece.shared piece.suffix.now block
    c.requires.within (omega arith) c.loop-i-test.true (c.loop-i.invariant.placed texts block) c.in-Some.ensures.some in
    record {
      shares = c.go_on-found.ensures.inside;
      placed = (λ texts block. (step texts block).goes_on);
      compares = (λ texts block.
          let here = step texts block in
          subst (λ t. Compares t text found.shared found.order) here.made
          (c.go_on-found.ensures.compares (last_of texts c.args.first i) here.fits (c.loop-i.invariant.compares texts block)));
    }

pub piece_at-requires : goal.piece_at-requires
piece_at-requires c =
    block_inside c.args.body.now c.args.place c.args.first c.args.end c.requires.block.0 c.loop-i.i c.loop-i.at c.requires.block.1 c.loop-i-test.true
    (c.loop-i.invariant.placed c.requires.block.0 c.requires.block.1)

pub unreachable-requires : goal.unreachable-requires
unreachable-requires c =
    block_read c.args.body.now c.args.place c.args.first c.args.end c.requires.block.0 c.loop-i.i c.loop-i.at c.requires.block.1 (omega arith) c.loop-i-test.true
    (c.loop-i.invariant.placed c.requires.block.0 c.requires.block.1) c.in_default.ensures.none

pub returns : goal.returns
returns c = λ texts block.
    let whole : c.loop-i.i ≡ c.args.end = omega arith in
    let known = c.loop-i.invariant.compares texts block in
    known.ordered ∙ ap (λ t. slice_cmp nat_cmp t c.args.text.now)
    (last_later texts c.args.first c.loop-i.i (omega arith) ∙ ap (λ k. text_at texts (k - 1)) whole)
