use Rattle.std.proofs.Common.{◌≡◌, ◌++◌, [], ◌∷◌, true, List, refl, sym, ◌∙◌, ap, arith}
use Rattle.std.specs.Prelude.{is_ok}
use Rattle.ts_site.specs.Call.{folder_after, said_after}
use Rattle.ts_site.specs.Crash.{settled}
use Rattle.ts_site.specs.Recorder.{first_files, memory_state, has_room}
use Rattle.ts_site.specs.Room.{has_place, taken, passed}
use Rattle.ts_site.specs.declared.call.Call.{Call}
use Rattle.ts_site.proofs.CallLemmas.{folder_after-push}
use Rattle.ts_site.proofs.MemoryLemmas.{made, room_taken}
use Rattle.ts_site.proofs.MomentLemmas.{crash_pushed, past_pushed, said_after-push, said_by_silent, silent_says_in, says_pushed, lies_pushed}
use Rattle.ts_site.proofs.recorder.Recorder.make.Goals as goal

pub invariant_of-self-2-clause-said_within : goal.invariant_of-self-2-clause-said_within
invariant_of-self-2-clause-said_within c =
    let site = c.args.self.now in
    let ok : is_ok c.push.result ≡ true = c.push.ensures.succeeds (omega (arith, site.room_for_calls, c.if-not-take.ensures.calls)) in
    says_pushed site.told.len site.calls.items c.push.new.self.items c.args.call (rw ok at c.push.ensures.items) site.said_within (silent_says_in c.args.call site.told.len c.requires.silent)

pub invariant_of-self-2-clause-called : goal.invariant_of-self-2-clause-called
invariant_of-self-2-clause-called c =
    let site = c.args.self.now in
    let ok : is_ok c.push.result ≡ true = c.push.ensures.succeeds (omega (arith, site.room_for_calls, c.if-not-take.ensures.calls)) in
    lies_pushed site.store.len site.calls.items c.push.new.self.items c.args.call (rw ok at c.push.ensures.items) site.called (c.requires.lies site.store.len)

pub invariant_of-self-2-clause-said_all : goal.invariant_of-self-2-clause-said_all
invariant_of-self-2-clause-said_all c =
    let site = c.args.self.now in
    let ok : is_ok c.push.result ≡ true = c.push.ensures.succeeds (omega (arith, site.room_for_calls, c.if-not-take.ensures.calls)) in
    let pushed : c.push.new.self.items ≡ site.calls.items ++ c.args.call ∷ [] = rw ok at c.push.ensures.items in
    ap (λ (calls : List Call). said_after calls 0) pushed ∙ said_after-push site.calls.items c.args.call 0 ∙ said_by_silent c.args.call (said_after site.calls.items 0) c.requires.silent ∙ site.said_all

pub returns-clause-made : goal.returns-clause-made
returns-clause-made c =
    let site = c.args.self.now in
    let store = site.store.items in
    let base = first_files site in
    let pushed : c.push.new.self.items ≡ site.calls.items ++ c.args.call ∷ [] = rw c.unwrap.ensures at c.push.ensures.items in
    let room : c.take.new.self ≡ taken 0 site.room =
    room_taken (has_place site.room 0) c.take.new.self (taken 0 site.room) (passed site.room) c.take.ensures.left (sym c.if-not-take.ensures.place) in
    let folder = ap (λ (calls : List Call). folder_after store calls base) pushed ∙ folder_after-push store site.calls.items c.args.call base in
    let crash = crash_pushed store site.calls.items c.push.new.self.items c.args.call (settled base) pushed in
    let past = past_pushed store site.told.items site.calls.items c.push.new.self.items c.args.call (settled base) pushed (site.said_all ∙ site.told.ok.0) in
    made _ (has_room (memory_state site) 0) (sym c.if-not-take.ensures.place) (
      refl,
      λ i. record {
        folder = folder i;
        told = site.told.items;
        calls_left = (room i).calls;
        bytes_left = (room i).bytes;
        disk_faults = site.disk_faults;
        say_faults = site.say_faults;
        all_calls = site.all_calls;
        all_bytes = site.all_bytes;
        until_stop = (room i).until_stop;
        crash = crash i;
        past = past i;
      },
    )
