use Rattle.std.proofs.Common.{◌≡◌, ◌+◌, ◌⊎◌, inl, inr, arith, subst, Contains}
use Rattle.std.proofs.lemmas.Bool.{both_ways}
use Rattle.ts_plane.proofs.RowSteps.{confirmed, refuted}
use Rattle.ts_part.specs.Merged.{HasEach}
use Rattle.ts_part.proofs.MergedLemmas.{each_up}
use Rattle.ts_part.proofs.together.are_in_either.Goals as goal
use Rattle.ts_part.proofs.together.are_in_either.Goals.{else-not-in_one-via-then-not-in_one+else-not-in_other, else-not-in_one-via-else-not-in_one}

pub returns-then-not-in_other : goal.returns-then-not-in_other
returns-then-not-in_other c = refuted (λ each. elim (each (c.loop-before.before + 1) (omega arith) (omega arith)) [
  | inl a ↦ both_ways c.step_to-in_one.result.0 c.if-not-in_one.true (c.step_to-in_one.ensures.there.1 a)
  | inr b ↦ both_ways c.step_to-in_other.result.0 c.if-not-in_other.true (c.step_to-in_other.ensures.there.1 b)
])

pub loop-before-preserved : goal.loop-before-preserved
loop-before-preserved c = record {
  one = c.step_to-in_one.ensures.next;
  other = c.step_to-in_other.ensures.next;
  each = each_up (λ number. Contains c.args.one.now number ⊎ Contains c.args.other.now number) c.args.low c.loop-before.before c.loop-before.invariant.each
      (elim c.else-not-in_one.branch [
        | else-not-in_one-via-then-not-in_one+else-not-in_other w ↦ inr (c.step_to-in_other.ensures.there.0 w.if-not-in_other.false)
        | else-not-in_one-via-else-not-in_one w ↦ inl (c.step_to-in_one.ensures.there.0 w.if-not-in_one.false)
      ]);
}

pub returns : goal.returns
returns c =
    let all : c.loop-before.before ≡ c.args.high = omega arith in
    confirmed (subst (HasEach (λ number. Contains c.args.one.now number ⊎ Contains c.args.other.now number) c.args.low) all c.loop-before.invariant.each)
