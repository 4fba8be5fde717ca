use Rattle.std.proofs.Common.{◌≡◌, ◌++◌, [], ◌∷◌, true, List, ℕ, length, IsTrue, sym, ◌∙◌, ap, subst, arith}
use Rattle.std.specs.Prelude.{is_ok}
use Rattle.std.specs.List.{list_all}
use Rattle.std.specs.FinMap.{insert}
use Rattle.ts_site.specs.Folder.{Folder, no_files}
use Rattle.ts_site.specs.Call.{folder_after, crash_after, moments_before, with_files, lies_in}
use Rattle.ts_site.specs.Crash.{CrashState, settled}
use Rattle.ts_site.specs.declared.call.Call.{Call}
use Rattle.ts_site.specs.declared.call.Stored.{Stored}
use Rattle.ts_site.proofs.StoreLemmas.{files_lie_pushed, all_calls_lie_longer}
use Rattle.ts_site.proofs.MemoryLemmas.{folder_set}
use Rattle.ts_site.proofs.recorder.Recorder.put_file.Goals as goal

pub invariant_of-self-2-clause-stored : goal.invariant_of-self-2-clause-stored
invariant_of-self-2-clause-stored c =
    let site = c.args.self.now in
    let stored : Stored = record { name = c.copy-name.result; start = c.store_longer-start.result.0; end = c.store_longer-start.result.1 } in
    let ok : is_ok c.push.result ≡ true = c.push.ensures.succeeds (omega (arith, c.in_ok-reserve.ensures.ok)) in
    let pushed : c.push.new.self.items ≡ site.settled.items ++ stored ∷ [] = rw ok at c.push.ensures.items ∙ ap (λ (files : List Stored). files ++ stored ∷ []) c.reserve.ensures.items in
    let longer = c.store_longer-start.ensures in
    files_lie_pushed site.store.len c.store_longer-start.new.store.len site.settled.items c.push.new.self.items stored (omega (arith, longer.longer, c.reserve-2.ensures.len))
    (omega (arith, longer.longer, longer.start, longer.end)) (omega (arith, longer.end)) pushed site.stored

pub invariant_of-self-2-clause-called : goal.invariant_of-self-2-clause-called
invariant_of-self-2-clause-called c =
    let site = c.args.self.now in
    all_calls_lie_longer site.store.len c.store_longer-start.new.store.len site.calls.items (omega (arith, c.store_longer-start.ensures.longer, c.reserve-2.ensures.len)) site.called

-- with no call made, all is settled and there was no moment before
folder_first : (store : List ℕ) (calls : List Call) (files : Folder) → calls ≡ [] → folder_after store calls files ≡ files
folder_first store calls files none = ap (λ (cs : List Call). folder_after store cs files) none

crash_first : (store : List ℕ) (calls : List Call) (files : Folder) → calls ≡ [] → crash_after store calls (settled files) ≡ settled files
crash_first store calls files none = ap (λ (cs : List Call). crash_after store cs (settled files)) none

past_first : (store told : List ℕ) (calls : List Call) (state : CrashState) → calls ≡ [] → moments_before store told calls state 0 [] ≡ []
past_first store told calls state none = ap (λ (cs : List Call). moments_before store told cs state 0 []) none

pub returns-clause-ok : goal.returns-clause-ok
returns-clause-ok c =
    let site = c.args.self.now in
    let store = site.store.items in
    let longer = c.store_longer-start.new.store.items in
    let stored : Stored = record { name = c.copy-name.result; start = c.store_longer-start.result.0; end = c.store_longer-start.result.1 } in
    let before = with_files store site.settled.items no_files in
    let after = with_files longer c.push.new.self.items no_files in
    let pushed : c.push.new.self.items ≡ site.settled.items ++ stored ∷ [] = rw c.unwrap.ensures at c.push.ensures.items ∙ ap (λ (files : List Stored). files ++ stored ∷ []) c.reserve.ensures.items in
    let grown : longer ≡ store ++ c.args.bytes.now = c.store_longer-start.ensures.items ∙ ap (λ store. store ++ c.args.bytes.now) c.reserve-2.ensures.items in
    let from : c.store_longer-start.result.0 ≡ length store = c.store_longer-start.ensures.start ∙ c.reserve-2.ensures.len ∙ site.store.ok.0 in
    let set : after ≡ insert before c.args.name.now c.args.bytes.now = folder_set store longer c.args.bytes.now site.settled.items c.push.new.self.items c.args.name.now c.copy-name.result
    c.store_longer-start.result.0 c.store_longer-start.result.1 grown from (c.store_longer-start.ensures.end ∙ c.store_longer-start.new.store.ok.0) c.copy-name.ensures pushed
    (subst (λ (n : ℕ). IsTrue (list_all (lies_in n) site.settled.items)) site.store.ok.0 site.stored) in
    let old : folder_after store site.calls.items before ≡ before = folder_first store site.calls.items before c.requires in
    let now : after ≡ insert (folder_after store site.calls.items before) c.args.name.now c.args.bytes.now = set ∙ ap (λ (f : Folder). insert f c.args.name.now c.args.bytes.now) (sym old) in
    let folder = folder_first longer site.calls.items after c.requires ∙ now in
    let crash = crash_first longer site.calls.items after c.requires ∙ ap settled now in
    let past = past_first longer site.told.items site.calls.items (settled after) c.requires ∙ sym (past_first store site.told.items site.calls.items (settled before) c.requires) in
    λ i. record {
      folder = folder i;
      told = site.told.items;
      calls_left = site.room.calls;
      bytes_left = site.room.bytes;
      disk_faults = site.disk_faults;
      say_faults = site.say_faults;
      all_calls = site.all_calls;
      all_bytes = site.all_bytes;
      until_stop = site.room.until_stop;
      crash = crash i;
      past = past i;
    }
