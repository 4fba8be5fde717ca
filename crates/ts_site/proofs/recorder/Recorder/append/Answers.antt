use Rattle.std.proofs.Common.{◌≡◌, ◌≤◌, ◌+◌, ◌-◌, ◌++◌, [], ◌∷◌, true, List, ℕ, Some, Option, length, take, IsTrue, refl, sym, ◌∙◌, ap, subst, arith, append-nil}
use Rattle.std.specs.Prelude.{is_ok, option_map, slice_range, IfSome}
use Rattle.std.specs.List.{list_all}
use Rattle.std.specs.FinMap.{get}
use Rattle.ts_site.specs.Folder.{Folder, no_files, length_at}
use Rattle.ts_site.specs.Call.{content, folder_after, crash_after, said_after, moments_before, with_files, lies_in, call_lies_in, call_says_in}
use Rattle.ts_site.specs.Crash.{CrashState, settled, written}
use Rattle.ts_site.specs.Recorder.{memory_state, has_room}
use Rattle.ts_site.specs.Room.{has_place, taken, passed}
use Rattle.ts_site.specs.declared.call.Call.{Call}
use Rattle.ts_site.specs.declared.call.Call.TheVariants.{Append}
use Rattle.ts_site.specs.declared.call.Stored.{Stored}
use Rattle.ts_site.proofs.StoreLemmas.{calls_lie_pushed, all_lie_longer, with_files_same}
use Rattle.ts_site.proofs.MemoryLemmas.{made, room_taken, folder_appended, length_found, content_stored, appended_reads}
use Rattle.ts_site.proofs.MomentLemmas.{past_grown, crash_grown, said_after-push, says_pushed}
use Rattle.ts_site.proofs.recorder.Recorder.append.Goals as goal

-- the call that is recorded
abbrev stored_of : goal.After-push → Stored
stored_of c = record { name = c.copy-name.result; start = c.store_longer-start.result.0; end = c.store_longer-start.result.1 }

pushed_so : (c : goal.After-push) → c.push.new.self.items ≡ c.args.self.now.calls.items ++ Append (stored_of c) ∷ []
pushed_so c =
    let ok : is_ok c.push.result ≡ true = c.push.ensures.succeeds (omega (arith, c.args.self.now.room_for_calls, c.if-not-take.ensures.calls)) in
    rw ok at c.push.ensures.items

pub invariant_of-self-2-clause-called : goal.invariant_of-self-2-clause-called
invariant_of-self-2-clause-called c =
    let site = c.args.self.now in
    let longer = c.store_longer-start.ensures in
    calls_lie_pushed site.store.len c.store_longer-start.new.store.len site.calls.items c.push.new.self.items (stored_of c) longer.longer
    (omega (arith, longer.longer, longer.start, longer.end)) (omega (arith, longer.end)) (pushed_so c) site.called

pub invariant_of-self-2-clause-stored : goal.invariant_of-self-2-clause-stored
invariant_of-self-2-clause-stored c =
    let site = c.args.self.now in
    all_lie_longer site.store.len c.store_longer-start.new.store.len site.settled.items c.store_longer-start.ensures.longer site.stored

pub invariant_of-self-2-clause-said_within : goal.invariant_of-self-2-clause-said_within
invariant_of-self-2-clause-said_within c =
    let site = c.args.self.now in
    says_pushed site.told.len site.calls.items c.push.new.self.items (Append (stored_of c)) (pushed_so c) site.said_within refl

pub invariant_of-self-2-clause-said_all : goal.invariant_of-self-2-clause-said_all
invariant_of-self-2-clause-said_all c =
    let site = c.args.self.now in
    ap (λ (calls : List Call). said_after calls 0) (pushed_so c) ∙ said_after-push site.calls.items (Append (stored_of c)) 0 ∙ site.said_all

pub returns-clause-made : goal.returns-clause-made
returns-clause-made c =
    let site = c.args.self.now in
    let store = site.store.items in
    let longer = c.store_longer-start.new.store.items in
    let name = c.args.name.now in
    let piece = take c.args.kept c.args.bytes.now in
    let start = c.unwrap-start.result.0 in
    let end = c.unwrap-start.result.1 in
    let base = with_files store site.settled.items no_files in
    let old = folder_after store site.calls.items base in
    let range : get old name ≡ option_map (λ r. slice_range store r.0 r.1) c.range_of.result =
    subst (λ (calls : List Call). get (folder_after store calls base) name ≡ option_map (λ r. slice_range store r.0 r.1) c.range_of.result) c.deref-2.ensures.value
    (subst (λ (files : List Stored). get (folder_after store c.deref-2.result.now (with_files store files no_files)) name ≡ option_map (λ r. slice_range store r.0 r.1) c.range_of.result) c.deref.ensures.value
    (c.range_of.ensures.range store)) in
    let found : get old name ≡ Some (slice_range store start end) = range ∙ ap (option_map (λ r. slice_range store r.0 r.1)) c.unwrap-start.ensures in
    let in_range : IfSome c.range_of.result (λ r. (r.0 ≤ r.1) × (r.1 ≤ site.store.len)) =
    c.range_of.ensures.within site.store.len
    (subst (λ (files : List Stored). IsTrue (list_all (lies_in site.store.len) files)) (sym c.deref.ensures.value) site.stored)
    (subst (λ (calls : List Call). IsTrue (list_all (call_lies_in site.store.len) calls)) (sym c.deref-2.ensures.value) site.called) in
    let bounds = subst (λ (r : Option (ℕ × ℕ)). IfSome r (λ p. (p.0 ≤ p.1) × (p.1 ≤ site.store.len))) c.unwrap-start.ensures in_range in
    let ordered : start ≤ end = bounds.0 in
    let long : site.store.len ≡ length store = site.store.ok.0 in
    let within : end ≤ length store = omega (arith, bounds.1, long) in
    let size : length_at old name ≡ end - start = length_found old name store start end found ordered within in
    let uses = length_at old name + length c.args.bytes.now in
    let place : has_place site.room uses ≡ true = ap (λ n. has_place site.room (n + length c.args.bytes.now)) size ∙ sym c.if-not-take.ensures.place in
    let taken_bytes : c.take.new.self ≡ taken (end - start + length c.args.bytes.now) site.room =
    room_taken (has_place site.room (end - start + length c.args.bytes.now)) c.take.new.self (taken (end - start + length c.args.bytes.now) site.room) (passed site.room) c.take.ensures.left (sym c.if-not-take.ensures.place) in
    let room : c.take.new.self ≡ taken uses site.room = taken_bytes ∙ ap (λ n. taken (n + length c.args.bytes.now) site.room) (sym size) in
    let stored : Stored = record { name = c.copy-name.result; start = c.store_longer-start.result.0; end = c.store_longer-start.result.1 } in
    let pushed : c.push.new.self.items ≡ site.calls.items ++ Append stored ∷ [] = rw c.unwrap.ensures at c.push.ensures.items in
    let grown : longer ≡ store ++ (slice_range store start end ++ piece) = c.store_longer-start.ensures.items in
    let from : stored.start ≡ length store = c.store_longer-start.ensures.start ∙ long in
    let to : stored.end ≡ length longer = c.store_longer-start.ensures.end ∙ c.store_longer-start.new.store.ok.0 in
    let files_lie : IsTrue (list_all (lies_in (length store)) site.settled.items) = subst (λ (n : ℕ). IsTrue (list_all (lies_in n) site.settled.items)) long site.stored in
    let calls_lie : IsTrue (list_all (call_lies_in (length store)) site.calls.items) = subst (λ (n : ℕ). IsTrue (list_all (call_lies_in n) site.calls.items)) long site.called in
    let calls_say : IsTrue (list_all (call_says_in (length site.told.items)) site.calls.items) = subst (λ (n : ℕ). IsTrue (list_all (call_says_in n) site.calls.items)) site.told.ok.0 site.said_within in
    let first : with_files longer site.settled.items no_files ≡ base =
    ap (λ s. with_files s site.settled.items no_files) grown ∙ with_files_same store (slice_range store start end ++ piece) site.settled.items no_files files_lie in
    let folder = folder_appended store longer piece site.settled.items site.calls.items c.push.new.self.items name c.copy-name.result
    start end c.store_longer-start.result.0 c.store_longer-start.result.1 grown from to c.copy-name.ensures pushed files_lie calls_lie found in
    let before : CrashState = crash_after store site.calls.items (settled base) in
    let content_is : content longer stored ≡ slice_range store start end ++ piece = content_stored store longer (slice_range store start end ++ piece) stored grown from to in
    let crash =
    ap (λ (files : Folder). crash_after longer c.push.new.self.items (settled files)) first
    ∙ crash_grown store longer (slice_range store start end ++ piece) site.calls.items c.push.new.self.items (Append stored) (settled base) grown pushed calls_lie
    ∙ ap (λ (bytes : List ℕ). written stored.name (Some bytes) before) content_is
    ∙ ap (λ (n : List ℕ). written n (Some (slice_range store start end ++ piece)) before) c.copy-name.ensures
    ∙ ap (λ (file : Option (List ℕ)). written name file before) (sym (appended_reads old name (slice_range store start end) piece found)) in
    let past =
    ap (λ (files : Folder). moments_before longer site.told.items c.push.new.self.items (settled files) 0 []) first
    ∙ past_grown store longer (slice_range store start end ++ piece) site.told.items site.told.items [] site.calls.items c.push.new.self.items (Append stored) (settled base) grown
    (sym (append-nil site.told.items)) pushed (site.said_all ∙ site.told.ok.0) calls_lie calls_say in
    made _ (has_room (memory_state site) uses) place (
      refl,
      λ i. record {
        folder = folder i;
        told = site.told.items;
        calls_left = (room i).calls;
        bytes_left = (room i).bytes;
        disk_faults = site.disk_faults;
        say_faults = site.say_faults;
        all_calls = site.all_calls;
        all_bytes = site.all_bytes;
        until_stop = (room i).until_stop;
        crash = crash i;
        past = past i;
      },
    )
