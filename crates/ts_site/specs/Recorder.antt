-- What a recorder of a folder and an output tells.
use Rattle.std.specs.Prelude.{◌≡◌, ℕ, ◌+◌, ◌-◌, ◌^◌, min, nat_lt, nat_le, not, ◌&&◌, Bool, if◌then◌else◌, List, [], ◌∷◌, ◌++◌, Option, Some, None, Result, Ok, Err, MatchBool}
use Rattle.std.specs.FinMap.{get, insert}
use Rattle.ts_site.specs.declared.disk.Failed.{Failed}
use Rattle.ts_site.specs.declared.call.Call.{Call}
use Rattle.ts_site.specs.declared.call.Call.TheVariants.{Append}
use Rattle.ts_site.specs.declared.recorder.Recorder.{Recorder}
use Rattle.ts_site.specs.Crash.{CrashState, settled, written}
use Rattle.ts_site.specs.Folder.{Folder, no_files, appended}
use Rattle.ts_site.specs.Call.{happens, folder_after, crash_happens, crash_after, moments_before, with_files}
use Rattle.ts_site.specs.Moments.{Moment}
use Rattle.ts_site.specs.Room.{is_stopped, nearer_stop}

-- The folder as it reads, the bytes said, the calls and bytes that are left, the counts of faults, the calls and bytes that there were room for
-- at first, and how many calls come before a planned stop, where one is planned. Last, what a crash leaves, now and at each moment before.
pub record MemoryState : Type 0 where
  pub folder : Folder
  pub told : List ℕ
  pub calls_left : ℕ
  pub bytes_left : ℕ
  pub disk_faults : ℕ
  pub say_faults : ℕ
  pub all_calls : ℕ
  pub all_bytes : ℕ
  pub until_stop : Option ℕ
  pub crash : CrashState
  pub past : List Moment

-- the files that were there from the start
abbrev pub first_files : Recorder → Folder
first_files site = with_files site.store.items site.settled.items no_files

abbrev pub memory_state : Recorder → MemoryState
memory_state site = record {
  folder = folder_after site.store.items site.calls.items (first_files site);
  told = site.told.items;
  calls_left = site.room.calls;
  bytes_left = site.room.bytes;
  disk_faults = site.disk_faults;
  say_faults = site.say_faults;
  all_calls = site.all_calls;
  all_bytes = site.all_bytes;
  until_stop = site.room.until_stop;
  crash = crash_after site.store.items site.calls.items (settled (first_files site));
  past = moments_before site.store.items site.told.items site.calls.items (settled (first_files site)) 0 [];
}

-- the state of a site that was just made, with these files
abbrev pub fresh : Folder → ℕ → ℕ → MemoryState
fresh folder calls bytes = record {
  folder = folder;
  told = [];
  calls_left = calls;
  bytes_left = bytes;
  disk_faults = 0;
  say_faults = 0;
  all_calls = calls;
  all_bytes = bytes;
  until_stop = None;
  crash = settled folder;
  past = [];
}

-- the calls that were made, the first of them first
abbrev pub memory_calls : Recorder → List Call
memory_calls site = site.calls.items

-- the calls with one more, where it was made
abbrev pub calls_with : Bool → Call → List Call → List Call
calls_with is_made call calls = if is_made then calls ++ call ∷ [] else calls

-- one fault more, in a number of 64 bits
abbrev pub one_more : ℕ → ℕ
one_more count = min (count + 1) (2 ^ 64 - 1)

-- whether a call can be made that uses these bytes: the stop hasn't come, and there is room
abbrev pub has_room : MemoryState → ℕ → Bool
has_room state bytes = not (is_stopped state.until_stop) && (nat_lt 0 state.calls_left && nat_le bytes state.bytes_left)

-- this moment
abbrev pub present : MemoryState → Moment
present state = record { crash = state.crash; told = state.told }

-- the state once a call has made this of the folder and of what a crash leaves
abbrev pub changed : Folder → CrashState → MemoryState → MemoryState
changed folder crash state = record state { folder = folder; crash = crash; past = present state ∷ state.past }

-- the state once a call has said a piece
abbrev pub said : List ℕ → MemoryState → MemoryState
said piece state = record state { told = state.told ++ piece; past = present state ∷ state.past }

-- the state that a call comes to
abbrev pub after_call : List ℕ → Call → MemoryState → MemoryState
after_call store call old = changed (happens store call old.folder) (crash_happens store call old.crash) old

abbrev pub after_append : List ℕ → List ℕ → MemoryState → MemoryState
after_append name bytes old = changed (appended old.folder name bytes) (written name (get (appended old.folder name bytes) name) old.crash) old

-- the state with one more settled file
abbrev pub with_settled : List ℕ → List ℕ → MemoryState → MemoryState
with_settled name bytes old = record old { folder = insert old.folder name bytes; crash = settled (insert old.folder name bytes) }

abbrev pub with_left : List ℕ → Option (List ℕ) → MemoryState → MemoryState
with_left name None old = old
with_left name (Some bytes) old = with_settled name bytes old

-- the room for a call that uses these bytes is taken
abbrev pub used : ℕ → MemoryState → MemoryState
used bytes state = record state { calls_left = state.calls_left - 1; bytes_left = state.bytes_left - bytes; until_stop = nearer_stop state.until_stop }

-- a call came and found no room
abbrev pub refused : MemoryState → MemoryState
refused state = record state { until_stop = nearer_stop state.until_stop }

-- one fault of the disk, or of the output, more
abbrev pub disk_fault : MemoryState → MemoryState
disk_fault state = record state { disk_faults = one_more state.disk_faults }

abbrev pub say_fault : MemoryState → MemoryState
say_fault state = record state { say_faults = one_more state.say_faults }

-- A call on the disk that uses these bytes and comes to this state. Where it can't be made it fails, and nothing is done.
abbrev pub MakesDiskCall : Result (Unit {0}) Failed → ℕ → MemoryState → MemoryState → MemoryState → Type 0
MakesDiskCall result bytes done old new =
    MatchBool (has_room old bytes)
    ((result ≡ Ok tt) × (new ≡ used bytes done))
    ((result ≡ Err (record {})) × (new ≡ disk_fault (refused old)))

-- The same of a call that uses these bytes and says a piece.
abbrev pub MakesSayCall : Result (Unit {0}) Failed → ℕ → List ℕ → MemoryState → MemoryState → Type 0
MakesSayCall result bytes piece old new =
    MatchBool (has_room old bytes)
    ((result ≡ Ok tt) × (new ≡ used bytes (said piece old)))
    ((result ≡ Err (record {})) × (new ≡ say_fault (refused old)))

-- the state once a call that was made fails: a fault is counted where none was
abbrev pub spoiled : Result (Unit {0}) Failed → MemoryState → MemoryState
spoiled (Ok done) made = disk_fault made
spoiled (Err failed) made = made

abbrev pub spoiled_say : Result (Unit {0}) Failed → MemoryState → MemoryState
spoiled_say (Ok done) made = say_fault made
spoiled_say (Err failed) made = made

-- an append to a file is recorded as such, where it was made
abbrev pub RecordsAppend : Bool → List ℕ → List Call → List Call → Type 0
RecordsAppend is_made name old new =
    MatchBool is_made ((start end : ℕ) × (new ≡ old ++ Append (record { name = name; start = start; end = end }) ∷ [])) (new ≡ old)
