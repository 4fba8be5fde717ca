use Rattle.std.proofs.Common.{◌≡◌, ℕ, ◌+◌, ◌-◌, ◌≤◌, ◌++◌, List, [], length, take, arith, sym, ◌∙◌, ap, append-nil, append_assoc, length-append}
use Rattle.ts_log.specs.Buffer.{Extends}
use Rattle.ts_front.specs.Shared.{text_at}
use Rattle.ts_front.specs.Pieces.{IsBlock}
use Rattle.ts_front.proofs.MadeLemmas.{take_past}
use Rattle.ts_front.proofs.BlockLemmas.{last_of, last_start, last_later, Step, block_step, block_inside, block_read}
use Rattle.ts_front.proofs.append.append_last.Goals as goal

pub loop-i-init : goal.loop-i-init
loop-i-init c = record {
  kept = ([], sym (append-nil c.args.into.now.items));
  placed = (λ texts block. block.placed);
  written = (λ texts block. sym (ap (λ t. c.args.into.now.items ++ t) (last_start texts c.args.first) ∙ append-nil c.args.into.now.items));
}

cut_keeps : (old now : List ℕ) (n : ℕ) → Extends old now → length old ≤ n → Extends old (take n now)
cut_keeps old now n more h = (take (n - length old) more.0, ap (take n) more.1 ∙ take_past old more.0 n h)

-- a start of what a buffer holds after its old bytes, and more
cut_makes : (old now last suffix : List ℕ) (kept s : ℕ) → now ≡ old ++ last → kept ≡ length old
    → take (kept + s) now ++ suffix ≡ old ++ (take s last ++ suffix)
cut_makes old now last suffix kept s e k =
    ap (λ t. take (kept + s) t ++ suffix) e ∙ ap (λ t. t ++ suffix) (take_past old last (kept + s) (omega arith))
    ∙ append_assoc old (take (kept + s - length old) last) suffix
    ∙ ap (λ a. old ++ (take a last ++ suffix)) (let a : kept + s - length old ≡ s = omega arith in a)

pub piece_at-requires : goal.piece_at-requires
piece_at-requires c =
    block_inside c.args.body.now c.args.place c.args.first c.args.end c.requires.block.0 c.loop-i.i c.loop-i.at c.requires.block.1 c.loop-i-test.true
    (c.loop-i.invariant.placed c.requires.block.0 c.requires.block.1)

pub unreachable-requires : goal.unreachable-requires
unreachable-requires c =
    block_read c.args.body.now c.args.place c.args.first c.args.end c.requires.block.0 c.loop-i.i c.loop-i.at c.requires.block.1 (omega arith) c.loop-i-test.true
    (c.loop-i.invariant.placed c.requires.block.0 c.requires.block.1) c.in_default.ensures.none

pub overflow_add-kept : goal.overflow_add-kept
overflow_add-kept c =
    let texts = c.requires.block.0 in
    let block = c.requires.block.1 in
    let piece = c.in-Some.piece in
    let first = c.args.first in
    let last = last_of texts first c.loop-i.i in
    let here : Step texts first c.loop-i.i c.in-Some.next piece.shared piece.suffix.now =
    block_step c.args.body.now c.args.place first c.args.end texts c.loop-i.i c.loop-i.at c.in-Some.next piece.shared piece.suffix.now block
    c.requires.within (omega arith) c.loop-i-test.true (c.loop-i.invariant.placed texts block) c.in-Some.ensures.some in
    record {
      fits = omega (
        arith,
        here.fits,
        ap length (c.loop-i.invariant.written texts block),
        length-append c.args.into.now.items last,
        c.len-kept.ensures,
        c.args.into.now.ok,
        c.loop-i.into.ok,
        c.loop-i.into.small,
      );
    }

pub returns-in_err-extend_from_slice-clause-kept : goal.returns-in_err-extend_from_slice-clause-kept
returns-in_err-extend_from_slice-clause-kept c =
    let old = c.args.into.now.items in
    let cut_at = c.len-kept.result + c.in-Some.piece.shared in
    let enough : length old ≤ cut_at = omega (arith, c.len-kept.ensures, c.args.into.now.ok) in
    let cut = cut_keeps old c.loop-i.into.items cut_at c.loop-i.invariant.kept enough in
    (cut.0, c.in_err-extend_from_slice.ensures.items ∙ c.truncate.ensures.items ∙ cut.1)

pub loop-i-preserved : goal.loop-i-preserved
loop-i-preserved c =
    let i = c.loop-i.i in
    let first = c.args.first in
    let body = c.args.body.now in
    let piece = c.in-Some.piece in
    let old = c.args.into.now.items in
    let now = c.loop-i.into.items in
    let cut_at = c.len-kept.result + piece.shared in
    let enough : length old ≤ cut_at = omega (arith, c.len-kept.ensures, c.args.into.now.ok) in
    let cut = cut_keeps old now cut_at c.loop-i.invariant.kept enough in
    let after : c.extend_from_slice.new.self.items ≡ take cut_at now ++ piece.suffix.now =
    c.in_ok-extend_from_slice.ensures.items ∙ ap (λ t. t ++ piece.suffix.now) c.truncate.ensures.items in
    let step : (texts : List (List ℕ)) → IsBlock body c.args.place first c.args.end texts → Step texts first i c.in-Some.next piece.shared piece.suffix.now =
    λ texts block. block_step body c.args.place first c.args.end texts i c.loop-i.at c.in-Some.next piece.shared piece.suffix.now block
    c.requires.within (omega arith) c.loop-i-test.true (c.loop-i.invariant.placed texts block) c.in-Some.ensures.some in
    record {
      kept = (cut.0 ++ piece.suffix.now, after ∙ ap (λ t. t ++ piece.suffix.now) cut.1 ∙ append_assoc old cut.0 piece.suffix.now);
      placed = (λ texts block. (step texts block).goes_on);
      written = (λ texts block.
          let here = step texts block in
          let last = last_of texts first i in
          let known : now ≡ old ++ last = c.loop-i.invariant.written texts block in
          let kept : c.len-kept.result ≡ length old = omega (arith, c.len-kept.ensures, c.args.into.now.ok) in
          after ∙ cut_makes old now last piece.suffix.now c.len-kept.result piece.shared known kept
          ∙ ap (λ t. old ++ t) here.made);
    }

pub returns-clause-written : goal.returns-clause-written
returns-clause-written c = λ texts block.
    let whole : c.loop-i.i ≡ c.args.end = omega arith in
    c.loop-i.invariant.written texts block
    ∙ ap (λ t. c.args.into.now.items ++ t) (last_later texts c.args.first c.loop-i.i (omega arith) ∙ ap (λ k. text_at texts (k - 1)) whole)
