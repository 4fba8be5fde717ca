-- What the calls of a site in memory did to its folder.
use Rattle.std.specs.Prelude.{ℕ, List, [], ◌∷◌, Bool, true, false, ◌&&◌, nat_le, take, Some, slice_range}
use Rattle.std.specs.FinMap.{insert, remove}
use Rattle.ts_site.specs.declared.call.Stored.{Stored}
use Rattle.ts_site.specs.declared.call.Call.{Call}
use Rattle.ts_site.specs.declared.call.Call.TheVariants.{Create, Append, Sync, Rename, Remove, SyncNames, Barrier, Say}
use Rattle.ts_site.specs.Crash.{CrashState, newest, settled, written, synced, renamed, removed, names_settled}
use Rattle.ts_site.specs.Folder.{Folder, no_files, moved}
use Rattle.ts_site.specs.Moments.{Moment}

-- the bytes of a stored file
abbrev pub content : List ℕ → Stored → List ℕ
content store stored = slice_range store stored.start stored.end

-- the folder after a call
abbrev pub happens : List ℕ → Call → Folder → Folder
happens store (Create name) folder = insert folder name []
happens store (Append stored) folder = insert folder stored.name (content store stored)
happens store (Sync name) folder = folder
happens store (Rename from to) folder = moved folder from to
happens store (Remove name) folder = remove folder name
happens store SyncNames folder = folder
happens store Barrier folder = folder
happens store (Say end) folder = folder

-- the folder after calls, the first of them first
abbrev pub folder_after : List ℕ → List Call → Folder → Folder
folder_after store [] folder = folder
folder_after store (call ∷ calls) folder = folder_after store calls (happens store call folder)

-- what a crash leaves after a call
abbrev pub crash_happens : List ℕ → Call → CrashState → CrashState
crash_happens store (Create name) state = written name (Some []) state
crash_happens store (Append stored) state = written stored.name (Some (content store stored)) state
crash_happens store (Sync name) state = synced name state
crash_happens store (Rename from to) state = renamed from to state
crash_happens store (Remove name) state = removed name state
crash_happens store SyncNames state = names_settled state
crash_happens store Barrier state = settled (newest state)
crash_happens store (Say end) state = state

abbrev pub crash_after : List ℕ → List Call → CrashState → CrashState
crash_after store [] state = state
crash_after store (call ∷ calls) state = crash_after store calls (crash_happens store call state)

-- how many bytes were said by the end of a call
abbrev pub said_by : Call → ℕ → ℕ
said_by (Say end) count = end
said_by _ count = count

abbrev pub is_silent : Call → Bool
is_silent (Say end) = false
is_silent _ = true

abbrev pub said_after : List Call → ℕ → ℕ
said_after [] count = count
said_after (call ∷ calls) count = said_after calls (said_by call count)

-- The moments before the last one: one before each call. The latest of them stands first, and before them all the earlier ones.
abbrev pub moments_before : List ℕ → List ℕ → List Call → CrashState → ℕ → List Moment → List Moment
moments_before store told [] state count earlier = earlier
moments_before store told (call ∷ calls) state count earlier =
    moments_before store told calls (crash_happens store call state) (said_by call count) (record { crash = state; told = take count told } ∷ earlier)

-- the folder with stored files, of which the last of a name counts
abbrev pub with_files : List ℕ → List Stored → Folder → Folder
with_files store [] folder = folder
with_files store (stored ∷ others) folder = with_files store others (insert folder stored.name (content store stored))

-- these files, all settled
abbrev pub settled_files : List ℕ → List Stored → CrashState
settled_files store files = settled (with_files store files no_files)

-- whether the bytes lie in a store of this length
abbrev pub lies_in : ℕ → Stored → Bool
lies_in size stored = nat_le stored.start stored.end && nat_le stored.end size

abbrev pub call_lies_in : ℕ → Call → Bool
call_lies_in size (Append stored) = lies_in size stored
call_lies_in size _ = true

-- whether the bytes that a call had said by its end are among so many
abbrev pub call_says_in : ℕ → Call → Bool
call_says_in size (Say end) = nat_le end size
call_says_in size _ = true
