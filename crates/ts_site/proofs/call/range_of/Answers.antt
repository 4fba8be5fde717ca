use Rattle.std.proofs.Common.{◌-◌, List, ◌∙◌, ap, take, arith}
use Rattle.std.specs.FinMap.{get}
use Rattle.ts_site.specs.Folder.{no_files}
use Rattle.ts_site.specs.Call.{folder_after, with_files}
use Rattle.ts_site.specs.declared.call.Call.{Call}
use Rattle.ts_site.proofs.CallLemmas.{take_last, folder_after-push}
use Rattle.ts_site.proofs.call.range_of.Goals as goal

pub returns-in-Range-clause-range : goal.returns-in-Range-clause-range
returns-in-Range-clause-range c store =
    let base = with_files store c.args.settled.now no_files in
    c.loop-i.invariant.rest store
    ∙ ap (λ (calls : List Call). get (folder_after store calls base) c.loop-i.wanted.now) (take_last c.args.calls.now c.loop-i.i c.index-calls-i.result c.loop-i-test.true c.loop-i.invariant.within c.index-calls-i.is)
    ∙ ap (λ folder. get folder c.loop-i.wanted.now) (folder_after-push store (take (c.loop-i.i - 1) c.args.calls.now) c.index-calls-i.result base)
    ∙ c.in-Range.ensures.gives store _

pub returns-in-Absent-clause-range : goal.returns-in-Absent-clause-range
returns-in-Absent-clause-range c store =
    let base = with_files store c.args.settled.now no_files in
    c.loop-i.invariant.rest store
    ∙ ap (λ (calls : List Call). get (folder_after store calls base) c.loop-i.wanted.now) (take_last c.args.calls.now c.loop-i.i c.index-calls-i.result c.loop-i-test.true c.loop-i.invariant.within c.index-calls-i.is)
    ∙ ap (λ folder. get folder c.loop-i.wanted.now) (folder_after-push store (take (c.loop-i.i - 1) c.args.calls.now) c.index-calls-i.result base)
    ∙ c.in-Absent.ensures.gives store _

pub loop-i-preserved : goal.loop-i-preserved
loop-i-preserved c = record {
  within = omega arith;
  rest = λ store.
      let base = with_files store c.args.settled.now no_files in
      c.loop-i.invariant.rest store
      ∙ ap (λ (calls : List Call). get (folder_after store calls base) c.loop-i.wanted.now) (take_last c.args.calls.now c.loop-i.i c.index-calls-i.result c.loop-i-test.true c.loop-i.invariant.within c.index-calls-i.is)
      ∙ ap (λ folder. get folder c.loop-i.wanted.now) (folder_after-push store (take (c.loop-i.i - 1) c.args.calls.now) c.index-calls-i.result base)
      ∙ c.in-Before.ensures.gives store _;
}
