use Rattle.std.proofs.Common.{◌-◌, ◌∙◌, ap, take, arith}
use Rattle.std.specs.FinMap.{get}
use Rattle.ts_site.specs.Call.{settled_files}
use Rattle.ts_site.specs.Newest.{newest_after}
use Rattle.ts_site.proofs.MomentLemmas.{oldest_step, all_lie_front}
use Rattle.ts_site.proofs.crash.oldest_range.Goals as goal

pub returns-in-Range-clause-range : goal.returns-in-Range-clause-range
returns-in-Range-clause-range c store =
    c.loop-i.invariant.rest store
    ∙ oldest_step store c.args.calls.now c.loop-i.i c.index-calls-i.result (settled_files store c.args.settled.now) c.args.name.now c.loop-i-test.true c.loop-i.invariant.within c.index-calls-i.is
    ∙ c.in-Range.ensures.gives store _

pub loop-i-preserved : goal.loop-i-preserved
loop-i-preserved c = record {
  within = omega arith;
  rest = λ store. c.loop-i.invariant.rest store
      ∙ oldest_step store c.args.calls.now c.loop-i.i c.index-calls-i.result (settled_files store c.args.settled.now) c.args.name.now c.loop-i-test.true c.loop-i.invariant.within c.index-calls-i.is
      ∙ c.in-Before.ensures.gives store _;
}

pub returns-in-Settled-clause-range : goal.returns-in-Settled-clause-range
returns-in-Settled-clause-range c store =
    c.loop-i.invariant.rest store
    ∙ oldest_step store c.args.calls.now c.loop-i.i c.index-calls-i.result (settled_files store c.args.settled.now) c.args.name.now c.loop-i-test.true c.loop-i.invariant.within c.index-calls-i.is
    ∙ c.in-Settled.ensures.gives store _
    ∙ ap (λ folder. get folder c.args.name.now) (newest_after store (take (c.loop-i.i - 1) c.args.calls.now) (settled_files store c.args.settled.now))
    ∙ c.range_of.ensures.range store

pub returns-in-Settled-clause-within : goal.returns-in-Settled-clause-within
returns-in-Settled-clause-within c size files calls =
    c.range_of.ensures.within size files (all_lie_front size (c.loop-i.i - 1) c.args.calls.now calls)
