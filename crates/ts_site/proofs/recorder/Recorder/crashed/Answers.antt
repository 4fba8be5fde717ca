use Rattle.std.proofs.Common.{◌≡◌, ◌+◌, [], List, refl, sym, ◌∙◌, ap, subst, take}
use Rattle.std.proofs.lemmas.List.{take_all}
use Rattle.ts_site.specs.declared.call.Call.{Call}
use Rattle.ts_site.specs.declared.call.Stored.{Stored}
use Rattle.ts_site.specs.declared.recorder.Recorder.{Recorder}
use Rattle.ts_site.specs.Call.{crash_after}
use Rattle.ts_site.specs.Crash.{settled}
use Rattle.ts_site.specs.Left.{crash_leaves}
use Rattle.ts_site.specs.Recorder.{first_files, memory_calls, memory_state, with_left}
use Rattle.ts_site.specs.Unsettled.{AreUnsettled}
use Rattle.ts_site.proofs.CallLemmas.{take_next_so}
use Rattle.ts_site.proofs.LeftLemmas.{AreLeftOf, is_known, left_none, left_more, left_same, left_all, stored_more, named_more, unnamed_more, fresh_left}
use Rattle.ts_site.specs.Newest.{newest_after}
use Rattle.ts_site.proofs.recorder.Recorder.crashed.Goals as goal
use Rattle.ts_site.proofs.recorder.Recorder.crashed.Goals.{in-Some+in_ok-leave-2, in_default}

pub loop-stored-init : goal.loop-stored-init
loop-stored-init c =
    let site = c.args.self.now in
    record {
      no_calls = c.in_ok-left.ensures.no_calls;
      fresh = c.in_ok-left.ensures.state ∙ ap (λ folder. Rattle.ts_site.specs.Recorder.fresh folder site.all_calls site.all_bytes) (sym (ap (λ s. s.folder) c.in_ok-left.ensures.state));
      unsettled = subst (λ (calls : List Call). AreUnsettled (crash_after site.store.items calls (settled (first_files site))) c.in_ok-unsettled.unsettled) c.deref.ensures.value (c.in_ok-unsettled.ensures site.store.items (first_files site));
      left = left_none (is_known [] []) c.args.choice (memory_state site) (memory_state c.in_ok-left.left).folder (ap (λ s. s.folder) c.in_ok-left.ensures.state) (λ q. refl);
    }

pub loop-stored-preserved : goal.loop-stored-preserved
loop-stored-preserved c =
    let site = c.args.self.now in
    let files = site.settled.items in
    let name = c.stored-item.result.name in
    let old = memory_state c.loop-stored.left in
    let new = memory_state c.leave.new.left in
    let next = take_next_so c.deref-stored-items.result.now files c.loop-stored.stored-index c.stored-item.result c.deref-stored-items.ensures.value c.loop-stored-test.true c.stored-item.is in
    record {
      no_calls = c.in_ok-leave.ensures.no_calls;
      fresh = fresh_left site.all_calls site.all_bytes old new name (crash_leaves c.args.choice (memory_state site) name) c.in_ok-leave.ensures.file c.loop-stored.invariant.fresh;
      unsettled = c.loop-stored.invariant.unsettled;
      left = left_more (is_known (take c.loop-stored.stored-index files) []) (is_known (take (c.loop-stored.stored-index + 1) files) []) c.args.choice (memory_state site) old new name c.in_ok-leave.ensures.file
          (stored_more (take c.loop-stored.stored-index files) (take (c.loop-stored.stored-index + 1) files) c.stored-item.result next) c.loop-stored.invariant.left;
    }

pub loop-call-init : goal.loop-call-init
loop-call-init c =
    let site = c.args.self.now in
    let files = site.settled.items in
    let all = ap (take c.loop-stored.stored-index) (sym c.deref-stored-items.ensures.value) ∙ take_all c.loop-stored.stored-index c.deref-stored-items.result.now c.loop-stored-test.false ∙ c.deref-stored-items.ensures.value in
    record {
      no_calls = c.loop-stored.invariant.no_calls;
      fresh = c.loop-stored.invariant.fresh;
      unsettled = c.loop-stored.invariant.unsettled;
      left = subst (λ (some : List Stored). AreLeftOf (is_known some []) c.args.choice (memory_state site) (memory_state c.loop-stored.left).folder) all c.loop-stored.invariant.left;
    }

pub loop-call-preserved : goal.loop-call-preserved
loop-call-preserved c =
    let site = c.args.self.now in
    let files = site.settled.items in
    let calls = site.calls.items in
    let i = c.loop-call.call-index in
    let old = memory_state c.loop-call.left in
    let new = memory_state c.match-named_by.left in
    let next = take_next_so c.deref-call-items.result.now calls i c.call-item.result c.deref-call-items.ensures.value c.loop-call-test.true c.call-item.is in
    elim c.match-named_by.branch [
      | in-Some+in_ok-leave-2 w ↦
          let name = w.in-Some.name.now in
          let left : new ≡ with_left name (crash_leaves c.args.choice (memory_state site) name) old = ap memory_state w.left-is ∙ w.in_ok-leave-2.ensures.file in
          record {
            no_calls = ap memory_calls w.left-is ∙ w.in_ok-leave-2.ensures.no_calls;
            fresh = fresh_left site.all_calls site.all_bytes old new name (crash_leaves c.args.choice (memory_state site) name) left c.loop-call.invariant.fresh;
            unsettled = c.loop-call.invariant.unsettled;
            left = left_more (is_known files (take i calls)) (is_known files (take (i + 1) calls)) c.args.choice (memory_state site) old new name left
                (λ q found. named_more files (take i calls) (take (i + 1) calls) c.call-item.result name next (sym w.in-Some.ensures) q found) c.loop-call.invariant.left;
          }
      | in_default w ↦ record {
        no_calls = ap memory_calls w.left-is ∙ c.loop-call.invariant.no_calls;
        fresh = subst (λ (left : Recorder). memory_state left ≡ Rattle.ts_site.specs.Recorder.fresh (memory_state left).folder site.all_calls site.all_bytes) (sym w.left-is) c.loop-call.invariant.fresh;
        unsettled = c.loop-call.invariant.unsettled;
        left = subst (λ (left : Recorder). AreLeftOf (is_known files (take (i + 1) calls)) c.args.choice (memory_state site) (memory_state left).folder) (sym w.left-is)
            (left_same (is_known files (take i calls)) (is_known files (take (i + 1) calls)) c.args.choice (memory_state site) old.folder
            (unnamed_more files (take i calls) (take (i + 1) calls) c.call-item.result next (sym w.in_default.ensures)) c.loop-call.invariant.left);
      }
    ]

pub returns-clause-files : goal.returns-clause-files
returns-clause-files c =
    let site = c.args.self.now in
    let store = site.store.items in
    let calls = site.calls.items in
    let all = ap (take c.loop-call.call-index) (sym c.deref-call-items.ensures.value) ∙ take_all c.loop-call.call-index c.deref-call-items.result.now c.loop-call-test.false ∙ c.deref-call-items.ensures.value in
    left_all store site.settled.items calls c.args.choice (memory_state site) (memory_state c.loop-call.left).folder refl (sym (newest_after store calls (settled (first_files site))))
    (subst (λ (some : List Call). AreLeftOf (is_known site.settled.items some) c.args.choice (memory_state site) (memory_state c.loop-call.left).folder) all c.loop-call.invariant.left)
