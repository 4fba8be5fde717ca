use Rattle.std.proofs.Common.{◌≡◌, ◌+◌, ◌*◌, ℕ, ◌<◌, subst, arith, inl, inr}
use Rattle.std.proofs.lemmas.Bool.{cases_lt}
use Rattle.ts_bits.specs.BitKinds.{before_place}
use Rattle.ts_bits.proofs.search.steps_within.Goals as goal

pub returns-clause-high : goal.returns-clause-high
returns-clause-high c = elim (cases_lt (c.loop-j.steps + 1) 8) [
  | inl less ↦ c.loop-j.invariant.above (omega arith)
  | inr last ↦
      let seven : c.loop-j.steps ≡ 7 = omega arith in
      let e : c.args.from + 8 * c.args.step ≡ c.args.from + c.args.step * (c.loop-j.steps + 1) = rw seven (omega arith) in
      subst (λ (p : ℕ). c.args.n < before_place c.args.kind c.args.word p) e c.requires.high
]
