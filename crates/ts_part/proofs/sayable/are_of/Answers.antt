use Rattle.std.proofs.Common.{◌≡◌, refl, sym, ◌∙◌, ap, subst, arith, true≢false}
use Rattle.std.proofs.lemmas.Bool.{false≢true}
use Rattle.std.proofs.lemmas.List.{take_all}
use Rattle.std.proofs.lemmas.List.Elements.{All-more}
use Rattle.ts_model.specs.TextTerm.{TextTerm}
use Rattle.ts_part.specs.Part.{AreOf}
use Rattle.ts_part.proofs.sayable.are_of.Goals as goal

pub loop-i-init : goal.loop-i-init
loop-i-init c = λ k d h. absurd (omega arith)

pub returns-then-not-is_of : goal.returns-then-not-is_of
returns-then-not-is_of c =
    let terms = c.args.terms.now in
    let term = c.index-terms-i.result in (
      (λ h. absurd (false≢true h)),
      (λ all. absurd (true≢false (sym (c.is_of.ensures.1 (ap (λ (t : TextTerm). t.kind) c.index-terms-i.is ∙ all c.loop-i.i term c.loop-i-test.true)) ∙ c.if-not-is_of.true))),
    )

pub loop-i-preserved : goal.loop-i-preserved
loop-i-preserved c =
    let terms = c.args.terms.now in
    let term = c.index-terms-i.result in
    All-more (λ (t : TextTerm). t.kind ≡ c.args.kind) terms c.loop-i.i term c.loop-i-test.true c.loop-i.invariant
    (ap (λ (t : TextTerm). t.kind) (sym c.index-terms-i.is) ∙ c.is_of.ensures.0 c.if-not-is_of.false)

pub returns : goal.returns
returns c = (
  (λ _. subst (AreOf c.args.kind) (take_all c.loop-i.i c.args.terms.now c.loop-i-test.false) c.loop-i.invariant),
  (λ _. refl),
)
