use Rattle.std.proofs.Common.{◌≡◌, ℕ, ◌+◌, ◌-◌, ◌*◌, ◌/◌, ◌^◌, false, get_or, sym, ap, subst, ◌∙◌, arith}
use Rattle.std.proofs.lemmas.Option.{get_or_from_slice_get}
use Rattle.std.proofs.Math.Nat.{div-eq_of_lt}
use Rattle.std.specs.Int.{bit_at}
use Rattle.ts_bits.proofs.Ranks.{rank-mono}
use Rattle.ts_wavelet.specs.Nodes.{tops_in, digit_of, IsSpot}
use Rattle.ts_wavelet.proofs.Trees.{tree_of_bits, length-tops}
use Rattle.ts_wavelet.proofs.Descents.{level_fits, first_spot, spot_order, by_digit, number_fits, bit_of_number, bool_byte-digit, whole_number}
use Rattle.ts_wavelet.proofs.levels.Levels.at.Goals as goal

pub loop-l-init : goal.loop-l-init
loop-l-init c =
    let t = c.args.self.now in
    let tree = tree_of_bits t.width t.bits t.len t.whole in
    let s : t.width - 0 ≡ t.width = omega arith in
    record {
      top = sym (ap (λ (s : ℕ). get_or (tops_in t.len t.bits t.width) c.args.j 0 / 2 ^ s) s ∙ div-eq_of_lt (tree.fits c.args.j));
      spot = first_spot t.width t.bits (tops_in t.len t.bits t.width) tree (get_or (tops_in t.len t.bits t.width) c.args.j 0) c.args.j _ _ _ (tree.fits c.args.j) (omega (arith, length-tops t.len t.bits t.width))
          c.top-spot.ensures.start (c.top-spot.ensures.end ∙ sym (length-tops t.len t.bits t.width)) c.top-spot.ensures.place;
    }

pub overflow_mul-l : goal.overflow_mul-l
overflow_mul-l c =
    let t = c.args.self.now in
    omega (arith, level_fits c.loop-l.l t.width t.len c.loop-l-test.true, t.fits)

pub overflow_add-l : goal.overflow_add-l
overflow_add-l c =
    let t = c.args.self.now in
    let order = spot_order _ _ _ _ _ _ _ c.loop-l.invariant.spot in
    omega (arith, level_fits c.loop-l.l t.width t.len c.loop-l-test.true, t.fits, length-tops t.len t.bits t.width, order.before, order.within)

pub get_rank-digit-requires : goal.get_rank-digit-requires
get_rank-digit-requires c =
    let t = c.args.self.now in
    let tree = tree_of_bits t.width t.bits t.len t.whole in
    (bit_of_number t.width t.bits (tops_in t.len t.bits t.width) tree t.len (t.width - c.loop-l.l) (t.width - (c.loop-l.l + 1)) c.loop-l.l _ _ c.args.j _
    (length-tops t.len t.bits t.width) (omega arith) (omega arith) c.loop-l.invariant.spot (omega (arith, length-tops t.len t.bits t.width))).0

pub narrowed-spot-requires-clause-within : goal.narrowed-spot-requires-clause-within
narrowed-spot-requires-clause-within c =
    let t = c.args.self.now in
    omega (arith, length-tops t.len t.bits t.width, (spot_order _ _ _ _ _ _ _ c.loop-l.invariant.spot).within)

pub overflow_mul-number : goal.overflow_mul-number
overflow_mul-number c =
    let t = c.args.self.now in
    let tree = tree_of_bits t.width t.bits t.len t.whole in
    omega (arith, c.loop-l.invariant.top, number_fits (get_or (tops_in t.len t.bits t.width) c.args.j 0) (t.width - c.loop-l.l) (t.width - (c.loop-l.l + 1)) t.width (omega arith) (tree.fits c.args.j) t.narrow)

pub overflow_add-number : goal.overflow_add-number
overflow_add-number c =
    let t = c.args.self.now in
    let tree = tree_of_bits t.width t.bits t.len t.whole in
    let bit = bit_of_number t.width t.bits (tops_in t.len t.bits t.width) tree t.len (t.width - c.loop-l.l) (t.width - (c.loop-l.l + 1)) c.loop-l.l _ _ c.args.j _
    (length-tops t.len t.bits t.width) (omega arith) (omega arith) c.loop-l.invariant.spot (omega (arith, length-tops t.len t.bits t.width)) in
    let read : digit_of c.get_rank-digit.result.0 ≡ bit_at (get_or (tops_in t.len t.bits t.width) c.args.j 0) (t.width - (c.loop-l.l + 1)) =
    ap digit_of (sym (get_or_from_slice_get t.bits _ c.get_rank-digit.result.0 false c.get_rank-digit.ensures.bit)) ∙ bit.1 in
    omega (arith, c.loop-l.invariant.top, c.from.ensures, bool_byte-digit c.get_rank-digit.result.0, read, number_fits (get_or (tops_in t.len t.bits t.width) c.args.j 0) (t.width - c.loop-l.l) (t.width - (c.loop-l.l + 1)) t.width (omega arith) (tree.fits c.args.j) t.narrow)

pub loop-l-preserved : goal.loop-l-preserved
loop-l-preserved c =
    let t = c.args.self.now in
    let tree = tree_of_bits t.width t.bits t.len t.whole in
    let bit = bit_of_number t.width t.bits (tops_in t.len t.bits t.width) tree t.len (t.width - c.loop-l.l) (t.width - (c.loop-l.l + 1)) c.loop-l.l _ _ c.args.j _
    (length-tops t.len t.bits t.width) (omega arith) (omega arith) c.loop-l.invariant.spot (omega (arith, length-tops t.len t.bits t.width)) in
    let read : digit_of c.get_rank-digit.result.0 ≡ bit_at (get_or (tops_in t.len t.bits t.width) c.args.j 0) (t.width - (c.loop-l.l + 1)) =
    ap digit_of (sym (get_or_from_slice_get t.bits _ c.get_rank-digit.result.0 false c.get_rank-digit.ensures.bit)) ∙ bit.1 in
    let x : ℕ = get_or (tops_in t.len t.bits t.width) c.args.j 0 in
    let next = c.narrowed-spot.ensures (tops_in t.len t.bits t.width) (get_or (tops_in t.len t.bits t.width) c.args.j 0 / 2 ^ (t.width - c.loop-l.l)) c.args.j tree (length-tops t.len t.bits t.width) c.loop-l.invariant.spot in
    let digit = by_digit (get_or (tops_in t.len t.bits t.width) c.args.j 0) (t.width - c.loop-l.l) (t.width - (c.loop-l.l + 1)) (omega arith) in
    let v : 2 * (get_or (tops_in t.len t.bits t.width) c.args.j 0 / 2 ^ (t.width - c.loop-l.l)) + digit_of c.get_rank-digit.result.0 ≡ get_or (tops_in t.len t.bits t.width) c.args.j 0 / 2 ^ (t.width - (c.loop-l.l + 1)) = omega (arith, digit, read) in
    record {
      top = omega (arith, c.loop-l.invariant.top, v, c.from.ensures, bool_byte-digit c.get_rank-digit.result.0);
      spot = subst (λ (v : ℕ). IsSpot (tops_in t.len t.bits t.width) (t.width - (c.loop-l.l + 1)) v c.narrowed-spot.result.start c.narrowed-spot.result.end c.args.j c.narrowed-spot.result.place) v next;
    }

pub returns : goal.returns
returns c =
    let t = c.args.self.now in
    whole_number (tops_in t.len t.bits t.width) c.args.j (t.width - c.loop-l.l) c.loop-l.number (omega (arith, length-tops t.len t.bits t.width)) (omega arith) c.loop-l.invariant.top

pub ones_before-before-requires-clause-within : goal.ones_before-before-requires-clause-within
ones_before-before-requires-clause-within c =
    let t = c.args.self.now in
    let order = spot_order _ _ _ _ _ _ _ c.loop-l.invariant.spot in
    omega (arith, length-tops t.len t.bits t.width, order.after, order.before, order.within)

pub ones_in-ones-requires-clause-within : goal.ones_in-ones-requires-clause-within
ones_in-ones-requires-clause-within c =
    let t = c.args.self.now in
    omega (arith, length-tops t.len t.bits t.width, (spot_order _ _ _ _ _ _ _ c.loop-l.invariant.spot).within)

pub overflow_sub-here : goal.overflow_sub-here
overflow_sub-here c =
    let t = c.args.self.now in
    let order = spot_order _ _ _ _ _ _ _ c.loop-l.invariant.spot in
    let mono = rank-mono t.bits (c.loop-l.l * t.len + c.loop-l.spot.start) (c.loop-l.l * t.len + c.loop-l.spot.place) (omega (arith, order.after)) in
    omega (arith, mono.0, c.get_rank-digit.ensures.rank, c.ones_before-before.ensures)
