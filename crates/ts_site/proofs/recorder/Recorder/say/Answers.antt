use Rattle.std.proofs.Common.{◌≡◌, ◌++◌, [], ◌∷◌, ℕ, ◌≤◌, true, List, length, take, IsTrue, refl, sym, ◌∙◌, ap, subst, arith, append-nil}
use Rattle.std.specs.Prelude.{is_ok}
use Rattle.std.specs.List.{list_all}
use Rattle.std.proofs.lemmas.Bool.{le-leb}
use Rattle.ts_site.specs.Call.{folder_after, said_after, call_lies_in, call_says_in}
use Rattle.ts_site.specs.Crash.{settled}
use Rattle.ts_site.specs.Recorder.{first_files, memory_state, has_room}
use Rattle.ts_site.specs.Room.{has_place, taken, passed}
use Rattle.ts_site.specs.declared.call.Call.{Call}
use Rattle.ts_site.specs.declared.call.Call.TheVariants.{Say}
use Rattle.ts_site.proofs.CallLemmas.{folder_after-push}
use Rattle.ts_site.proofs.MemoryLemmas.{made, room_taken}
use Rattle.ts_site.proofs.MomentLemmas.{crash_pushed, past_grown, said_after-push, says_pushed, all_say_longer, lies_pushed}
use Rattle.ts_site.proofs.recorder.Recorder.say.Goals as goal

-- the calls with one more
pushed_so : (c : goal.After-push) → c.push.new.self.items ≡ c.args.self.now.calls.items ++ Say c.len.result ∷ []
pushed_so c =
    let ok : is_ok c.push.result ≡ true = c.push.ensures.succeeds (omega (arith, c.args.self.now.room_for_calls, c.if-not-take.ensures.calls)) in
    rw ok at c.push.ensures.items

pub invariant_of-self-2-clause-said_within : goal.invariant_of-self-2-clause-said_within
invariant_of-self-2-clause-said_within c =
    let site = c.args.self.now in
    let size = c.extend_from_slice.new.self.len in
    let grows : site.told.len ≤ size = omega (arith, rw c.unwrap.ensures at c.extend_from_slice.ensures.len) in
    says_pushed size site.calls.items c.push.new.self.items (Say c.len.result) (pushed_so c) (all_say_longer site.told.len size site.calls.items grows site.said_within)
    (le-leb c.len.result size (omega (arith, c.len.ensures)))

pub invariant_of-self-2-clause-said_all : goal.invariant_of-self-2-clause-said_all
invariant_of-self-2-clause-said_all c =
    ap (λ (calls : List Call). said_after calls 0) (pushed_so c) ∙ said_after-push c.args.self.now.calls.items (Say c.len.result) 0 ∙ c.len.ensures

pub invariant_of-self-2-clause-called : goal.invariant_of-self-2-clause-called
invariant_of-self-2-clause-called c =
    let site = c.args.self.now in
    lies_pushed site.store.len site.calls.items c.push.new.self.items (Say c.len.result) (pushed_so c) site.called refl

pub returns-clause-made : goal.returns-clause-made
returns-clause-made c =
    let site = c.args.self.now in
    let store = site.store.items in
    let base = first_files site in
    let piece = take c.args.kept c.args.piece.now in
    let call = Say c.len.result in
    let told : c.extend_from_slice.new.self.items ≡ site.told.items ++ piece = rw c.unwrap.ensures at c.extend_from_slice.ensures.items in
    let pushed : c.push.new.self.items ≡ site.calls.items ++ call ∷ [] = rw c.unwrap-2.ensures at c.push.ensures.items in
    let room : c.take.new.self ≡ taken (length c.args.piece.now) site.room =
    room_taken (has_place site.room (length c.args.piece.now)) c.take.new.self (taken (length c.args.piece.now) site.room) (passed site.room) c.take.ensures.left (sym c.if-not-take.ensures.place) in
    let folder = ap (λ (calls : List Call). folder_after store calls base) pushed ∙ folder_after-push store site.calls.items call base in
    let crash = crash_pushed store site.calls.items c.push.new.self.items call (settled base) pushed in
    let past = past_grown store store [] site.told.items c.extend_from_slice.new.self.items piece site.calls.items c.push.new.self.items call (settled base) (sym (append-nil store)) told pushed (site.said_all ∙ site.told.ok.0)
    (subst (λ (n : ℕ). IsTrue (list_all (call_lies_in n) site.calls.items)) site.store.ok.0 site.called)
    (subst (λ (n : ℕ). IsTrue (list_all (call_says_in n) site.calls.items)) site.told.ok.0 site.said_within) in
    made _ (has_room (memory_state site) (length c.args.piece.now)) (sym c.if-not-take.ensures.place) (
      refl,
      λ i. record {
        folder = folder i;
        told = told i;
        calls_left = (room i).calls;
        bytes_left = (room i).bytes;
        disk_faults = site.disk_faults;
        say_faults = site.say_faults;
        all_calls = site.all_calls;
        all_bytes = site.all_bytes;
        until_stop = (room i).until_stop;
        crash = crash i;
        past = past i;
      },
    )
