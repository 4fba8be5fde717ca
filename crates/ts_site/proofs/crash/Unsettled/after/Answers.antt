use Rattle.std.proofs.Common.{List, sym, ◌∙◌, ap, subst, take}
use Rattle.std.proofs.lemmas.List.{take_all}
use Rattle.ts_site.specs.Call.{crash_after}
use Rattle.ts_site.specs.Crash.{CrashState, settled}
use Rattle.ts_site.specs.Unsettled.{AreUnsettled}
use Rattle.ts_site.specs.declared.call.Call.{Call}
use Rattle.ts_site.proofs.CallLemmas.{take_next}
use Rattle.ts_site.proofs.MomentLemmas.{crash_after-push}
use Rattle.ts_site.proofs.crash.Unsettled.after.Goals as goal

pub loop-call-preserved : goal.loop-call-preserved
loop-call-preserved c store folder =
    let next = ap (λ (calls : List Call). crash_after store calls (settled folder)) (take_next c.args.calls.now c.loop-call.call-index c.call-item.result c.loop-call-test.true c.call-item.is)
    ∙ crash_after-push store (take c.loop-call.call-index c.args.calls.now) c.call-item.result (settled folder) in
    subst (λ (state : CrashState). AreUnsettled state c.follow.new.self) (sym next) (c.in_ok-follow.ensures store _ (c.loop-call.invariant store folder))

pub returns : goal.returns
returns c store folder =
    subst (λ (calls : List Call). AreUnsettled (crash_after store calls (settled folder)) c.loop-call.unsettled) (take_all c.loop-call.call-index c.args.calls.now c.loop-call-test.false) (c.loop-call.invariant store folder)
