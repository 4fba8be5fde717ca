use Rattle.std.proofs.Common.{refl, sym, ◌∙◌, subst, arith, inl, inr, true≢false}
use Rattle.std.proofs.lemmas.Bool.{cases_order, false≢true}
use Rattle.ts_plane.specs.Follows.{FollowsAt}
use Rattle.ts_plane.proofs.FollowLemmas.{plane_follows, follows_plane}
use Rattle.ts_plane.proofs.order.is_plane_list.Goals as goal

pub returns-then-not-follows_at : goal.returns-then-not-follows_at
returns-then-not-follows_at c = (
  (λ h. absurd (false≢true h)),
  (λ h. absurd (true≢false (sym (c.follows_at.ensures.1 (plane_follows c.args.triples.now c.loop-i.i h (omega (arith, c.loop-i-test.true)))) ∙ c.if-not-follows_at.true))),
)

pub loop-i-preserved : goal.loop-i-preserved
loop-i-preserved c = λ k h. elim (cases_order k c.loop-i.i) [
  | inl same ↦ subst (FollowsAt c.args.triples.now) (sym same) (c.follows_at.ensures.0 c.if-not-follows_at.false)
  | inr other ↦ elim other [
    | inl less ↦ c.loop-i.invariant k less
    | inr more ↦ absurd (omega (arith, h, more))
  ]
]

pub returns : goal.returns
returns c = (
  (λ _. follows_plane c.args.triples.now (λ i within. c.loop-i.invariant i (omega (arith, within, c.loop-i-test.false)))),
  (λ _. refl),
)
