use Rattle.std.proofs.Common.{ap, sym, subst, Result}
use Rattle.ts_site.specs.declared.disk.Failed.{Failed}
use Rattle.ts_site.specs.declared.plan.CallKind.TheVariants as kind
use Rattle.ts_site.specs.Crash.{CrashState, settled}
use Rattle.ts_site.specs.Recorder.{MemoryState, first_files}
use Rattle.ts_site.specs.MemorySite.{memory_state, plans_of, planned, after_settling, DoesDiskCall}
use Rattle.ts_site.specs.Newest.{newest_after}
use Rattle.ts_site.proofs.memory_site.MemorySiteDisk.barrier.Goals as goal

pub returns-clause-made : goal.returns-clause-made
returns-clause-made c =
    let site = c.args.self.now in
    let old = memory_state site in
    let plan = planned kind.Barrier (plans_of site) in
    let all = after_settling (settled old.folder) old in
    let made = subst (λ (crash : CrashState). DoesDiskCall plan c.make-made.result 0 (after_settling crash old) old old (memory_state c.make-made.new.self))
    (ap settled (newest_after site.recorder.store.items site.recorder.calls.items (settled (first_files site.recorder)))) c.make-made.ensures.made in
    subst (λ (r : Result (Unit {0}) Failed). DoesDiskCall plan r 0 all old old (memory_state c.answer.new.self)) (sym c.answer.ensures.answer)
    (subst (λ (new : MemoryState). DoesDiskCall plan c.make-made.result 0 all old old new) (sym c.answer.ensures.state) made)
