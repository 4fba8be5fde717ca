use Rattle.std.proofs.Common.{◌≡◌, ℕ, ◌+◌, ◌++◌, ◌∷◌, [], drop, get_or, refl, sym, ap, ◌∙◌}
use Rattle.std.proofs.lemmas.List.{drop_more, drop_all}
use Rattle.std.proofs.lemmas.Nat.Bits.{shr_and_one}
use Rattle.ts_wavelet.proofs.Counts.{half}
use Rattle.ts_wavelet.proofs.Parting.{parted, parted_all, parted_end, IsFlushed, flushed, kept, took_one, took_zero}
use Rattle.ts_wavelet.proofs.write.part.Goals as goal
use Rattle.ts_wavelet.proofs.write.part.Goals.{then-top-last+in_ok-extend_from_slice, else-top-last, then-x-shift-eq1+in_ok-push, else-x-shift-eq1+in_ok-push-2}

pub loop-x-init : goal.loop-x-init
loop-x-init c = rw (c.in_ok-parted.ensures.items, c.new-ones.ensures.items) refl

pub loop-x-preserved : goal.loop-x-preserved
loop-x-preserved c =
    let x : ℕ = get_or c.args.order.now c.loop-x.x-index 0 in
    let rest = drop (c.loop-x.x-index + 1) c.args.order.now in
    let all = parted c.args.shift 0 [] c.args.order.now in
    let split = drop_more c.args.order.now c.loop-x.x-index 0 c.loop-x-test.true in
    let before : c.loop-x.parted.items ++ parted c.args.shift c.loop-x.last c.loop-x.ones.items (get_or c.args.order.now c.loop-x.x-index 0 ∷ drop (c.loop-x.x-index + 1) c.args.order.now) ≡ parted c.args.shift 0 [] c.args.order.now =
    ap (λ ys. c.loop-x.parted.items ++ parted c.args.shift c.loop-x.last c.loop-x.ones.items ys) (sym split) ∙ c.loop-x.invariant in
    let top = half (get_or c.args.order.now c.loop-x.x-index 0) c.args.shift in
    let bit = shr_and_one (get_or c.args.order.now c.loop-x.x-index 0) c.args.shift in
    let stage : IsFlushed c.args.shift (get_or c.args.order.now c.loop-x.x-index 0) (drop (c.loop-x.x-index + 1) c.args.order.now) (parted c.args.shift 0 [] c.args.order.now) c.if-top-last.last c.if-top-last.ones.items c.if-top-last.parted.items =
    elim c.if-top-last.branch [
      | then-top-last+in_ok-extend_from_slice w ↦
          flushed c.args.shift (get_or c.args.order.now c.loop-x.x-index 0) c.loop-x.last c.if-top-last.last (drop (c.loop-x.x-index + 1) c.args.order.now) (parted c.args.shift 0 [] c.args.order.now) c.loop-x.ones.items c.loop-x.parted.items c.if-top-last.ones.items c.if-top-last.parted.items
          (λ is. w.if-top-last.true (sym top ∙ is)) (w.last-is ∙ sym top)
          (ap (λ v. v.items) w.parted-is ∙ w.in_ok-extend_from_slice.ensures.items ∙ ap (λ ys. c.loop-x.parted.items ++ ys) w.deref.ensures.value)
          (ap (λ v. v.items) w.ones-is ∙ w.clear.ensures.items) before
      | else-top-last w ↦
          kept c.args.shift (get_or c.args.order.now c.loop-x.x-index 0) c.loop-x.last c.if-top-last.last (drop (c.loop-x.x-index + 1) c.args.order.now) (parted c.args.shift 0 [] c.args.order.now) c.loop-x.ones.items c.loop-x.parted.items c.if-top-last.ones.items c.if-top-last.parted.items
          (top ∙ w.if-top-last.false) w.last-is (ap (λ v. v.items) w.parted-is) (ap (λ v. v.items) w.ones-is) before
    ] in
    elim c.if-x-shift-eq1.branch [
      | then-x-shift-eq1+in_ok-push w ↦
          took_one c.args.shift (get_or c.args.order.now c.loop-x.x-index 0) c.if-top-last.last (drop (c.loop-x.x-index + 1) c.args.order.now) (parted c.args.shift 0 [] c.args.order.now) c.if-top-last.ones.items c.if-top-last.parted.items c.if-x-shift-eq1.ones.items c.if-x-shift-eq1.parted.items
          stage (sym bit ∙ w.if-x-shift-eq1.true) (ap (λ v. v.items) w.parted-is) (ap (λ v. v.items) w.ones-is ∙ w.in_ok-push.ensures.items)
      | else-x-shift-eq1+in_ok-push-2 w ↦
          took_zero c.args.shift (get_or c.args.order.now c.loop-x.x-index 0) c.if-top-last.last (drop (c.loop-x.x-index + 1) c.args.order.now) (parted c.args.shift 0 [] c.args.order.now) c.if-top-last.ones.items c.if-top-last.parted.items c.if-x-shift-eq1.ones.items c.if-x-shift-eq1.parted.items
          stage (λ is. w.if-x-shift-eq1.false (bit ∙ is)) (ap (λ v. v.items) w.parted-is ∙ w.in_ok-push-2.ensures.items) (ap (λ v. v.items) w.ones-is)
    ]

pub returns : goal.returns
returns c = λ sequence n is.
    let none = drop_all c.loop-x.x-index c.args.order.now c.loop-x-test.false in
    let left = ap (parted c.args.shift c.loop-x.last c.loop-x.ones.items) none ∙ parted_end c.args.shift c.loop-x.last c.loop-x.ones.items in
    c.in_ok-extend_from_slice-2.ensures.items ∙ ap (λ ys. c.loop-x.parted.items ++ ys) (c.deref-2.ensures.value ∙ sym left) ∙ c.loop-x.invariant
    ∙ ap (parted c.args.shift 0 []) is ∙ parted_all sequence c.args.shift n
