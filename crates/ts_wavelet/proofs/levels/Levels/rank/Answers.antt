use Rattle.std.proofs.Common.{◌≡◌, ℕ, ◌+◌, ◌-◌, ◌*◌, ◌/◌, ◌^◌, ◌<◌, sym, subst, ◌∙◌, arith, inl, inr}
use Rattle.std.proofs.lemmas.Bool.{cases_lt}
use Rattle.ts_wavelet.specs.Nodes.{tops_in, digit_of, IsSpot}
use Rattle.ts_wavelet.proofs.Trees.{tree_of_bits, length-tops}
use Rattle.ts_wavelet.proofs.Descents.{first_spot, spot_order, by_digit, wide_none, leaf_count}
use Rattle.ts_wavelet.proofs.levels.Levels.rank.Goals as goal

pub returns-then-is_wide : goal.returns-then-is_wide
returns-then-is_wide c =
    let t = c.args.self.now in
    let tree = tree_of_bits t.width t.bits t.len t.whole in
    sym (wide_none t.width (tops_in t.len t.bits t.width) c.args.p c.args.j tree.fits (c.is_wide.ensures.0 (cc)) (omega (arith, length-tops t.len t.bits t.width)))

pub loop-l-init : goal.loop-l-init
loop-l-init c =
    let t = c.args.self.now in
    let fits : c.args.p < 2 ^ t.width = elim (cases_lt c.args.p (2 ^ t.width)) [
      | inl less ↦ less
      | inr more ↦ let wide = c.is_wide.ensures.1 more in absurd (cc)
    ] in
    let tree = tree_of_bits t.width t.bits t.len t.whole in
    first_spot t.width t.bits (tops_in t.len t.bits t.width) tree c.args.p c.args.j _ _ _ fits (omega (arith, length-tops t.len t.bits t.width))
    c.top-spot.ensures.start (c.top-spot.ensures.end ∙ sym (length-tops t.len t.bits t.width)) c.top-spot.ensures.place

pub step-spot-requires-clause-within : goal.step-spot-requires-clause-within
step-spot-requires-clause-within c =
    let t = c.args.self.now in
    omega (arith, length-tops t.len t.bits t.width, (spot_order _ _ _ _ _ _ _ c.loop-l.invariant).within)

pub loop-l-preserved : goal.loop-l-preserved
loop-l-preserved c =
    let t = c.args.self.now in
    let tree = tree_of_bits t.width t.bits t.len t.whole in
    let next = c.step-spot.ensures (tops_in t.len t.bits t.width) (c.args.p / 2 ^ (t.width - c.loop-l.l)) c.args.j tree (length-tops t.len t.bits t.width) c.loop-l.invariant in
    let digit = by_digit c.args.p (t.width - c.loop-l.l) (t.width - (c.loop-l.l + 1)) (omega arith) in
    let v : 2 * (c.args.p / 2 ^ (t.width - c.loop-l.l)) + digit_of c.digit-digit.result ≡ c.args.p / 2 ^ (t.width - (c.loop-l.l + 1)) = omega (arith, digit, c.digit-digit.ensures) in
    subst (λ (v : ℕ). IsSpot (tops_in t.len t.bits t.width) (t.width - (c.loop-l.l + 1)) v c.step-spot.result.start c.step-spot.result.end c.args.j c.step-spot.result.place) v next

pub returns : goal.returns
returns c =
    let t = c.args.self.now in
    leaf_count (tops_in t.len t.bits t.width) _ c.args.p _ _ c.args.j _ (omega arith) c.loop-l.invariant

pub ones_before-before-requires-clause-within : goal.ones_before-before-requires-clause-within
ones_before-before-requires-clause-within c =
    let t = c.args.self.now in
    let order = spot_order _ _ _ _ _ _ _ c.loop-l.invariant in
    omega (arith, length-tops t.len t.bits t.width, order.after, order.before, order.within)
