use Rattle.std.proofs.Common.{◌≡◌, ◌-◌, ◌*◌, ◌/◌, ◌<◌, ◌≤◌, ◌^◌, ℕ, sym, ap, subst, ◌∙◌, arith, false, true, count_ones}
use Rattle.std.proofs.Math.Nat.{div-div-eq-div-mul}
use Rattle.std.proofs.Math.Nat.{pow-succ'}
use Rattle.ts_bits.specs.BitKinds.{before_place}
use Rattle.ts_bits.proofs.search.is_place.Goals as goal

half : (word place : ℕ) → place < 64 → word / 2 ^ (63 - place) / 2 ≡ word / 2 ^ (64 - place)
half word place h =
    let twice : 2 ^ (63 - place) * 2 ≡ 2 * 2 ^ (63 - place) = omega arith in
    div-div-eq-div-mul word (2 ^ (63 - place)) 2
    ∙ ap (λ (x : ℕ). word / x) (twice ∙ sym (pow-succ' 2 (63 - place)) ∙ ap (λ (m : ℕ). 2 ^ m) (omega arith))

pub returns-then-before-n-clause-low : goal.returns-then-before-n-clause-low
returns-then-before-n-clause-low c =
    let is : c.from-before.result ≡ count_ones (c.args.word / 2 ^ (64 - c.args.place)) = c.from-before.ensures ∙ ap count_ones (half c.args.word c.args.place c.requires) in
    λ _. subst (λ kind. before_place kind c.args.word c.args.place ≤ c.args.n) (sym c.if-kind.true) (omega (arith, is, c.if-before-n.true))

pub returns-then-saturating_sub-n-clause-low : goal.returns-then-saturating_sub-n-clause-low
returns-then-saturating_sub-n-clause-low c =
    let is : c.from-before.result ≡ count_ones (c.args.word / 2 ^ (64 - c.args.place)) = c.from-before.ensures ∙ ap count_ones (half c.args.word c.args.place c.requires) in
    λ _. subst (λ kind. before_place kind c.args.word c.args.place ≤ c.args.n) (sym c.if-kind.false) (omega (arith, is, c.saturating_sub.ensures, c.if-saturating_sub-n.true))
