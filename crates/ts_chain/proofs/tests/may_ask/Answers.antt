use Rattle.std.proofs.Common.{◌≤◌, arith}
use Rattle.std.proofs.lemmas.List.Elements.{All-from_get_or}
use Rattle.std.proofs.lemmas.Map.Keys.{sorted_from_strictly_increasing}
use Rattle.ts_chain.proofs.tests.may_ask.Goals as goal

pub returns-clause-rise : goal.returns-clause-rise
returns-clause-rise c = λ _. sorted_from_strictly_increasing c.args.ids.now (λ k h. c.loop-i.invariant.rise k (omega (arith, h, c.loop-i-test.false)))

pub returns-clause-within : goal.returns-clause-within
returns-clause-within c = λ _. All-from_get_or (λ id. (1 ≤ id) × (id ≤ c.args.total)) c.args.ids.now 0 (λ k h. c.loop-i.invariant.within k (omega (arith, h, c.loop-i-test.false)))
