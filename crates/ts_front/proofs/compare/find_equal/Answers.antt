use Rattle.std.proofs.Common.{◌≡◌, ℕ, ◌<◌, ◌+◌, ◌-◌, ◌≤◌, ◌++◌, List, [], ◌%◌, ◌==◌, inl, inr, length, take, drop, arith, sym, ◌∙◌, ap, subst}
use Rattle.ts_front.specs.Shared.{text_at}
use Rattle.std.specs.declared.cmp.Ordering.{Ordering}
use Rattle.ts_front.specs.Dictionary.{place_of}
use Rattle.ts_front.specs.Pieces.{IsBlock, Compares, piece_bytes}
use Rattle.std.proofs.lemmas.Bool.{cases_lt}
use Rattle.ts_front.proofs.OrderLemmas.{same_text, other_text}
use Rattle.ts_front.proofs.SharedLemmas.{shared_le_right}
use Rattle.ts_front.proofs.BlockLemmas.{last_of, last_start, last_next, Step, block_step, block_inside, block_read}
use Rattle.ts_front.proofs.compare.find_equal.Goals as goal

pub loop-i-init : goal.loop-i-init
loop-i-init c =
    let text = c.args.text.now in
    let found = c.compare_texts-found in
    record {
      shares = omega (arith, found.ensures.shares, shared_le_right [] text);
      placed = (λ texts block. block.placed);
      compares = (λ texts block. subst (λ t. Compares t text found.result.shared found.result.order) (sym (last_start texts c.args.first)) found.ensures);
      passed = (λ texts block k low high. absurd (omega arith));
    }

pub piece_at-requires : goal.piece_at-requires
piece_at-requires c =
    block_inside c.args.body.now c.args.place c.args.first c.args.end c.requires.block.0 c.loop-i.i c.loop-i.at c.requires.block.1 c.loop-i-test.true
    (c.loop-i.invariant.placed c.requires.block.0 c.requires.block.1)

pub unreachable-requires : goal.unreachable-requires
unreachable-requires c =
    block_read c.args.body.now c.args.place c.args.first c.args.end c.requires.block.0 c.loop-i.i c.loop-i.at c.requires.block.1 (omega arith) c.loop-i-test.true
    (c.loop-i.invariant.placed c.requires.block.0 c.requires.block.1) c.in_default.ensures.none

here : (body text : List ℕ) (place first end i at next shared : ℕ) (suffix : List ℕ) (before after : ℕ) (earlier later : Ordering)
    → end ≤ first + 8 → first ≤ i → i < end
    → (at ≤ next) × (next ≤ length body) × (take (next - at) (drop at body) ≡ piece_bytes (i % 8 == 0) shared suffix) × (i % 8 ≡ 0 → shared ≡ 0)
    → ((texts : List (List ℕ)) → IsBlock body place first end texts → at ≡ place_of texts i)
    → ((texts : List (List ℕ)) → IsBlock body place first end texts → Compares (last_of texts first i) text before earlier)
    → ((entry : List ℕ) → shared ≤ length entry → Compares entry text before earlier → Compares (take shared entry ++ suffix) text after later)
    → (texts : List (List ℕ)) → IsBlock body place first end texts
    → (next ≡ place_of texts (i + 1)) × Compares (last_of texts first (i + 1)) text after later
here body text place first end i at next shared suffix before after earlier later few low high read placed compares goes texts block =
    let step : Step texts first i next shared suffix =
    block_step body place first end texts i at next shared suffix block few low high (placed texts block) read in
    (step.goes_on, subst (λ t. Compares t text after later) step.made (goes (last_of texts first i) step.fits (compares texts block)))

pub returns-then-is_eq-clause-found : goal.returns-then-is_eq-clause-found
returns-then-is_eq-clause-found c = λ texts block.
    let i = c.loop-i.i in
    let low : c.args.first ≤ i = omega arith in
    let both = here c.args.body.now c.args.text.now c.args.place c.args.first c.args.end i c.loop-i.at c.in-Some.next c.in-Some.piece.shared c.in-Some.piece.suffix.now
    c.loop-i.found.shared c.go_on-found.result.shared c.loop-i.found.order c.go_on-found.result.order
    c.requires.within low c.loop-i-test.true c.in-Some.ensures.some c.loop-i.invariant.placed c.loop-i.invariant.compares c.go_on-found.ensures.compares texts block in (
      low,
      c.loop-i-test.true,
      sym (last_next texts c.args.first i low) ∙ same_text c.go_on-found.result.order (last_of texts c.args.first (i + 1)) c.args.text.now both.1.ordered (sym c.is_eq.ensures ∙ c.if-is_eq.true),
    )

pub loop-i-preserved : goal.loop-i-preserved
loop-i-preserved c =
    let i = c.loop-i.i in
    let low : c.args.first ≤ i = omega arith in
    let both = here c.args.body.now c.args.text.now c.args.place c.args.first c.args.end i c.loop-i.at c.in-Some.next c.in-Some.piece.shared c.in-Some.piece.suffix.now
    c.loop-i.found.shared c.go_on-found.result.shared c.loop-i.found.order c.go_on-found.result.order
    c.requires.within low c.loop-i-test.true c.in-Some.ensures.some c.loop-i.invariant.placed c.loop-i.invariant.compares c.go_on-found.ensures.compares in
    record {
      shares = c.go_on-found.ensures.inside;
      placed = (λ texts block. (both texts block).0);
      compares = (λ texts block. (both texts block).1);
      passed = (λ texts block k from before.
          elim (cases_lt k i) [
            | inl below ↦ c.loop-i.invariant.passed texts block k from below
            | inr top ↦
                (let same : k ≡ i = omega arith in
                let other = other_text c.go_on-found.result.order (last_of texts c.args.first (i + 1)) c.args.text.now (both texts block).1.ordered (sym c.is_eq.ensures ∙ c.if-is_eq.false) in
                λ e. other (last_next texts c.args.first i low ∙ ap (text_at texts) (sym same) ∙ e))
          ]);
    }
