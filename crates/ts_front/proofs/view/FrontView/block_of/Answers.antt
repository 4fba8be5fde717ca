use Rattle.std.proofs.Common.{◌≡◌, ◌≢◌, ℕ, ◌+◌, ◌-◌, ◌*◌, ◌/◌, length, sym, ◌∙◌, ap, arith, true, false}
use Rattle.std.specs.Cmp.Lexicographic.{slice_cmp}
use Rattle.std.specs.Ordering.{nat_cmp}
use Rattle.std.specs.declared.cmp.Ordering.TheVariants.{Greater}
use Rattle.ts_front.proofs.RisingLemmas.{length-block_starts}
use Rattle.ts_front.proofs.ViewLemmas.{Shows, shows, above_from}
use Rattle.std.specs.Prelude.{Bool, IsTrue, List}
use Rattle.ts_front.specs.Shared.{text_at}
use Rattle.ts_front.proofs.view.FrontView.block_of.Goals as goal

-- what is not above stands before the next place
below_here : (texts : List (List ℕ)) (text : List ℕ) (m : ℕ) (above : Bool) → (slice_cmp nat_cmp (text_at texts (8 * m)) text ≡ Greater → IsTrue above)
    → above ≡ false → slice_cmp nat_cmp (text_at texts (8 * (m + 1 - 1))) text ≢ Greater
below_here texts text m above tells not greater =
    let same : m ≡ m + 1 - 1 = omega arith in
    let both : true ≡ false = sym (tells (ap (λ n. slice_cmp nat_cmp (text_at texts (8 * n)) text) same ∙ greater)) ∙ not in
    absurd (cc)

pub loop-low-init : goal.loop-low-init
loop-low-init c =
    let v = c.self.inside in
    let texts = c.args.self.now in
    let s : Shows v.starts v.body.now v.count texts = shows v.starts v.body.now v.count texts c.self.view_is c.self.invariant in
    let many : c.len-high.result ≡ (length texts + 7) / 8 = c.len-high.ensures ∙ ap length s.is.starts_are ∙ length-block_starts texts in
    record {
      begins = omega arith;
      ends = omega arith;
      below = (λ none. absurd (omega arith));
      above = (λ k high low. absurd (omega arith));
    }

pub loop-low-preserved-then-first_above : goal.loop-low-preserved-then-first_above
loop-low-preserved-then-first_above c =
    let v = c.self.inside in
    let texts = c.args.self.now in
    let s : Shows v.starts v.body.now v.count texts = shows v.starts v.body.now v.count texts c.self.view_is c.self.invariant in
    let known = c.loop-low.invariant in
    let middle : ℕ = c.loop-low.low + (c.loop-low.high - c.loop-low.low) / 2 in
    let first : ℕ = c.loop-low.low + (middle - c.loop-low.low) / 2 in
    record {
      begins = known.begins;
      ends = omega (arith, known.ends);
      below = known.below;
      above = above_from texts c.args.text.now first s.is.rising (c.is_above-first_above.ensures.0 c.if-first_above.true);
    }

pub loop-low-preserved-then-middle_above : goal.loop-low-preserved-then-middle_above
loop-low-preserved-then-middle_above c =
    let v = c.self.inside in
    let texts = c.args.self.now in
    let s : Shows v.starts v.body.now v.count texts = shows v.starts v.body.now v.count texts c.self.view_is c.self.invariant in
    let known = c.loop-low.invariant in
    let middle : ℕ = c.loop-low.low + (c.loop-low.high - c.loop-low.low) / 2 in
    let first : ℕ = c.loop-low.low + (middle - c.loop-low.low) / 2 in
    record {
      begins = omega (arith, known.ends);
      ends = omega (arith, known.ends);
      below = (λ _. below_here texts c.args.text.now first c.is_above-first_above.result c.is_above-first_above.ensures.1 c.if-first_above.false);
      above = above_from texts c.args.text.now middle s.is.rising (c.is_above-middle_above.ensures.0 c.if-middle_above.true);
    }

pub loop-low-preserved-then-last_above : goal.loop-low-preserved-then-last_above
loop-low-preserved-then-last_above c =
    let v = c.self.inside in
    let texts = c.args.self.now in
    let s : Shows v.starts v.body.now v.count texts = shows v.starts v.body.now v.count texts c.self.view_is c.self.invariant in
    let known = c.loop-low.invariant in
    let middle : ℕ = c.loop-low.low + (c.loop-low.high - c.loop-low.low) / 2 in
    let last : ℕ = middle + (c.loop-low.high - middle) / 2 in
    record {
      begins = omega (arith, known.ends);
      ends = omega (arith, known.ends);
      below = (λ _. below_here texts c.args.text.now middle c.is_above-middle_above.result c.is_above-middle_above.ensures.1 c.if-middle_above.false);
      above = above_from texts c.args.text.now last s.is.rising (c.is_above-last_above.ensures.0 c.if-last_above.true);
    }

pub loop-low-preserved : goal.loop-low-preserved
loop-low-preserved c =
    let v = c.self.inside in
    let texts = c.args.self.now in
    let s : Shows v.starts v.body.now v.count texts = shows v.starts v.body.now v.count texts c.self.view_is c.self.invariant in
    let known = c.loop-low.invariant in
    let middle : ℕ = c.loop-low.low + (c.loop-low.high - c.loop-low.low) / 2 in
    let last : ℕ = middle + (c.loop-low.high - middle) / 2 in
    record {
      begins = omega (arith, known.ends);
      ends = known.ends;
      below = (λ _. below_here texts c.args.text.now last c.is_above-last_above.result c.is_above-last_above.ensures.1 c.if-last_above.false);
      above = known.above;
    }
