use Rattle.std.proofs.Common.{◌≡◌, ◌≤◌, ◌<◌, length, refl, sym, ◌∙◌, subst, arith, inl, inr, true≢false}
use Rattle.std.proofs.lemmas.Bool.{cases_lt, false≢true}
use Rattle.ts_part.proofs.RiseLemmas.{IsAboveAt, above_read, above_rise, above_there, rise_above}
use Rattle.ts_part.proofs.sayable.terms_rise.Goals as goal

pub loop-i-init : goal.loop-i-init
loop-i-init c = λ k some low. absurd (omega (arith, some, low))

pub returns-then-not-is_below : goal.returns-then-not-is_below
returns-then-not-is_below c =
    let terms = c.args.terms.now in
    let i = c.loop-i.i in
    let some : 1 ≤ i = c.loop-i.auto.i in
    let low : i < length terms = c.loop-i-test.true in (
      (λ h. absurd (false≢true h)),
      (λ rising. absurd (true≢false (sym (c.is_below.ensures.1
          (above_read terms i c.index-terms-i.result c.index-terms-i-in-loop-i.result low c.index-terms-i.is c.index-terms-i-in-loop-i.is (rise_above terms i rising some low)))
          ∙ c.if-not-is_below.true))),
    )

pub loop-i-preserved : goal.loop-i-preserved
loop-i-preserved c = λ k some low.
    let terms = c.args.terms.now in
    let i = c.loop-i.i in
    elim (cases_lt k i) [
      | inl before ↦ c.loop-i.invariant k some before
      | inr last ↦
          (let at : i ≡ k = omega (arith, low) in
          subst (IsAboveAt terms) at (above_there terms i c.index-terms-i.result c.index-terms-i-in-loop-i.result c.loop-i-test.true c.index-terms-i.is
          c.index-terms-i-in-loop-i.is (c.is_below.ensures.0 c.if-not-is_below.false)))
    ]

pub returns : goal.returns
returns c = (
  (λ _. above_rise c.args.terms.now (λ k some low. c.loop-i.invariant k some (omega (arith, low, c.loop-i-test.false)))),
  (λ _. refl),
)
