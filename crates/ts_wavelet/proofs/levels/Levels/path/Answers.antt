use Rattle.std.proofs.Common.{◌≡◌, ℕ, ◌+◌, ◌-◌, ◌*◌, ◌/◌, ◌^◌, ◌<◌, refl, sym, ap, subst, ◌∙◌, arith, inl, inr}
use Rattle.std.proofs.lemmas.Bool.{cases_lt}
use Rattle.std.proofs.lemmas.List.{length-set}
use Rattle.ts_wavelet.specs.Sequence.{occurrences}
use Rattle.ts_wavelet.specs.Nodes.{tops_in, digit_of, IsSpot, IsRung}
use Rattle.ts_wavelet.proofs.Trees.{tree_of_bits, length-tops}
use Rattle.ts_wavelet.proofs.Descents.{level_fits, first_spot, spot_order, by_digit, wide_none, leaf_node}
use Rattle.ts_wavelet.proofs.Paths.{next_rung}
use Rattle.ts_wavelet.proofs.levels.Levels.path.Goals as goal

pub returns-then-is_wide-clause-passed : goal.returns-then-is_wide-clause-passed
returns-then-is_wide-clause-passed c =
    let t = c.args.self.now in
    let tree = tree_of_bits t.width t.bits t.len t.whole in
    sym (wide_none t.width (tops_in t.len t.bits t.width) c.args.p c.args.j tree.fits (c.is_wide.ensures.0 (cc)) (omega (arith, length-tops t.len t.bits t.width)))

pub returns-then-is_wide-clause-count : goal.returns-then-is_wide-clause-count
returns-then-is_wide-clause-count c =
    let t = c.args.self.now in
    let tree = tree_of_bits t.width t.bits t.len t.whole in
    sym (wide_none t.width (tops_in t.len t.bits t.width) c.args.p t.len tree.fits (c.is_wide.ensures.0 (cc)) (omega (arith, length-tops t.len t.bits t.width)))

pub loop-l-init : goal.loop-l-init
loop-l-init c =
    let t = c.args.self.now in
    let fits : c.args.p < 2 ^ t.width = elim (cases_lt c.args.p (2 ^ t.width)) [
      | inl less ↦ less
      | inr more ↦ let wide = c.is_wide.ensures.1 more in absurd (cc)
    ] in
    let tree = tree_of_bits t.width t.bits t.len t.whole in
    record {
      spot = first_spot t.width t.bits (tops_in t.len t.bits t.width) tree c.args.p c.args.j _ _ _ fits (omega (arith, length-tops t.len t.bits t.width))
          c.top-spot.ensures.start (c.top-spot.ensures.end ∙ sym (length-tops t.len t.bits t.width)) c.top-spot.ensures.place;
      starts = refl;
      ones = refl;
      near = refl;
      rungs = λ k h. absurd (omega arith);
    }

pub ones_before-before-requires-clause-within : goal.ones_before-before-requires-clause-within
ones_before-before-requires-clause-within c =
    let t = c.args.self.now in
    let order = spot_order _ _ _ _ _ _ _ c.loop-l.invariant.spot in
    omega (arith, length-tops t.len t.bits t.width, order.after, order.before, order.within)

pub overflow_add-path : goal.overflow_add-path
overflow_add-path c =
    let t = c.args.self.now in
    let order = spot_order _ _ _ _ _ _ _ c.loop-l.invariant.spot in
    omega (arith, level_fits c.loop-l.l t.width t.len c.loop-l-test.true, t.fits, length-tops t.len t.bits t.width, order.after, order.before, order.within)

pub overflow_add-path-in-loop-l : goal.overflow_add-path-in-loop-l
overflow_add-path-in-loop-l c =
    let t = c.args.self.now in
    let order = spot_order _ _ _ _ _ _ _ c.loop-l.invariant.spot in
    omega (arith, level_fits c.loop-l.l t.width t.len c.loop-l-test.true, t.fits, length-tops t.len t.bits t.width, order.after, order.before, order.within)

pub step-spot-requires-clause-within : goal.step-spot-requires-clause-within
step-spot-requires-clause-within c =
    let t = c.args.self.now in
    omega (arith, length-tops t.len t.bits t.width, (spot_order _ _ _ _ _ _ _ c.loop-l.invariant.spot).within)

pub loop-l-preserved : goal.loop-l-preserved
loop-l-preserved c =
    let t = c.args.self.now in
    let tree = tree_of_bits t.width t.bits t.len t.whole in
    let next = c.step-spot.ensures (tops_in t.len t.bits t.width) (c.args.p / 2 ^ (t.width - c.loop-l.l)) c.args.j tree (length-tops t.len t.bits t.width) c.loop-l.invariant.spot in
    let digit = by_digit c.args.p (t.width - c.loop-l.l) (t.width - (c.loop-l.l + 1)) (omega arith) in
    let v : 2 * (c.args.p / 2 ^ (t.width - c.loop-l.l)) + digit_of c.digit-digit.result ≡ c.args.p / 2 ^ (t.width - (c.loop-l.l + 1)) = omega (arith, digit, c.digit-digit.ensures) in
    let rung : IsRung t.width t.len t.bits c.args.p c.loop-l.l (c.loop-l.l * t.len + c.loop-l.spot.start) c.ones_before-before.result = record {
      begins = ap (λ (m : ℕ). c.loop-l.l * t.len + m) c.loop-l.invariant.spot.node.starts;
      counted = c.ones_before-before.ensures;
    } in
    record {
      spot = subst (λ (v : ℕ). IsSpot (tops_in t.len t.bits t.width) (t.width - (c.loop-l.l + 1)) v c.step-spot.result.start c.step-spot.result.end c.args.j c.step-spot.result.place) v next;
      starts = length-set c.loop-l.path.starts c.loop-l.l _ ∙ c.loop-l.invariant.starts;
      ones = length-set c.loop-l.path.ones c.loop-l.l _ ∙ c.loop-l.invariant.ones;
      near = length-set c.loop-l.path.near c.loop-l.l _ ∙ c.loop-l.invariant.near;
      rungs = next_rung t.width t.len t.bits c.args.p c.loop-l.l _ _ c.loop-l.path.starts c.loop-l.path.ones
          (omega (arith, c.loop-l.invariant.starts, t.narrow)) (omega (arith, c.loop-l.invariant.ones, t.narrow)) rung c.loop-l.invariant.rungs;
    }

pub returns-clause-count : goal.returns-clause-count
returns-clause-count c =
    let t = c.args.self.now in
    leaf_node (tops_in t.len t.bits t.width) _ c.args.p _ _ (omega arith) c.loop-l.invariant.spot.node
    ∙ ap (occurrences (tops_in t.len t.bits t.width) c.args.p) (length-tops t.len t.bits t.width)
