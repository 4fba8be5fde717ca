use Rattle.std.proofs.Common.{◌≡◌, ℕ, suc, ◌+◌, ◌-◌, ◌*◌, sym, ap, subst, ◌∙◌, arith}
use Rattle.ts_bits.specs.Rank.{ones_between}
use Rattle.ts_wavelet.specs.Nodes.{digit_of, IsSpot}
use Rattle.ts_wavelet.proofs.Descents.{step_bounds, step_one, step_zero}
use Rattle.ts_wavelet.proofs.levels.Levels.narrowed.Goals as goal

pub overflow_sub-middle : goal.overflow_sub-middle
overflow_sub-middle c =
    let b = step_bounds c.args.self.now.bits (c.args.l * c.args.self.now.len) c.args.spot.start c.args.spot.end c.args.spot.place c.requires.after c.requires.order in
    omega (arith, b.most)

pub overflow_add-result : goal.overflow_add-result
overflow_add-result c =
    let b = step_bounds c.args.self.now.bits (c.args.l * c.args.self.now.len) c.args.spot.start c.args.spot.end c.args.spot.place c.requires.after c.requires.order in
    omega (arith, b.most, b.most_here, b.fewer, b.rises_here)

pub overflow_sub-result : goal.overflow_sub-result
overflow_sub-result c =
    let b = step_bounds c.args.self.now.bits (c.args.l * c.args.self.now.len) c.args.spot.start c.args.spot.end c.args.spot.place c.requires.after c.requires.order in
    omega (arith, b.most_here)

pub returns-then-digit : goal.returns-then-digit
returns-then-digit c = λ sequence top j tree len spot.
    let t = c.args.self.now in
    let e : c.args.l + suc (c.args.self.now.width - (c.args.l + 1)) ≡ c.args.self.now.width = omega arith in
    let s : c.args.self.now.width - c.args.l ≡ suc (c.args.self.now.width - (c.args.l + 1)) = omega arith in
    let spot' = subst (λ (s : ℕ). IsSpot sequence s top c.args.spot.start c.args.spot.end j c.args.spot.place) s spot in
    let all = c.requires.ones ∙ ap (λ (m : ℕ). ones_between t.bits (c.args.l * m + c.args.spot.start) (c.args.l * m + c.args.spot.end)) (sym len) in
    let here = c.requires.here ∙ ap (λ (m : ℕ). ones_between t.bits (c.args.l * m + c.args.spot.start) (c.args.l * m + c.args.spot.place)) (sym len) in
    let done = step_one t.width t.bits sequence tree (c.args.self.now.width - (c.args.l + 1)) c.args.l top c.args.spot.start c.args.spot.end j c.args.spot.place
    c.args.ones c.args.ones_here e spot' all here in
    let v : 2 * top + 1 ≡ 2 * top + digit_of c.args.digit = omega (arith, ap digit_of c.if-digit.true) in
    subst (λ (v : ℕ). IsSpot sequence (c.args.self.now.width - (c.args.l + 1)) v (c.args.spot.end - c.args.ones) c.args.spot.end j (c.args.spot.end - c.args.ones + c.args.ones_here)) v done

pub returns-else-digit : goal.returns-else-digit
returns-else-digit c = λ sequence top j tree len spot.
    let t = c.args.self.now in
    let e : c.args.l + suc (c.args.self.now.width - (c.args.l + 1)) ≡ c.args.self.now.width = omega arith in
    let s : c.args.self.now.width - c.args.l ≡ suc (c.args.self.now.width - (c.args.l + 1)) = omega arith in
    let spot' = subst (λ (s : ℕ). IsSpot sequence s top c.args.spot.start c.args.spot.end j c.args.spot.place) s spot in
    let all = c.requires.ones ∙ ap (λ (m : ℕ). ones_between t.bits (c.args.l * m + c.args.spot.start) (c.args.l * m + c.args.spot.end)) (sym len) in
    let here = c.requires.here ∙ ap (λ (m : ℕ). ones_between t.bits (c.args.l * m + c.args.spot.start) (c.args.l * m + c.args.spot.place)) (sym len) in
    let done = step_zero t.width t.bits sequence tree (c.args.self.now.width - (c.args.l + 1)) c.args.l top c.args.spot.start c.args.spot.end j c.args.spot.place
    c.args.ones c.args.ones_here e spot' all here in
    let v : 2 * top ≡ 2 * top + digit_of c.args.digit = omega (arith, ap digit_of c.if-digit.false) in
    subst (λ (v : ℕ). IsSpot sequence (c.args.self.now.width - (c.args.l + 1)) v c.args.spot.start (c.args.spot.end - c.args.ones) j (c.args.spot.place - c.args.ones_here)) v done
