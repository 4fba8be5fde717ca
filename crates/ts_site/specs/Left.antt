-- What a crash leaves of a site in memory, by a choice.
use Rattle.std.specs.Prelude.{◌≡◌, ℕ, ◌/◌, List, take, length, Option, None, option_map, if◌then◌else◌}
use Rattle.std.specs.FinMap.{get}
use Rattle.ts_site.specs.declared.crash.CrashChoice.{CrashChoice}
use Rattle.ts_site.specs.declared.crash.CrashChoice.TheVariants.{Oldest, Newest, Torn}
use Rattle.ts_site.specs.Crash.{is_loose}
use Rattle.ts_site.specs.Folder.{Folder}
use Rattle.ts_site.specs.Recorder.{MemoryState}

-- the half of a piece that comes first
abbrev pub first_half : List ℕ → List ℕ
first_half piece = take (length piece / 2) piece

-- What a crash leaves under a name. The oldest folder has no unsettled renames, removals and files, the newest has all, and the torn one
-- has of each unsettled file the first half.
abbrev pub crash_leaves : CrashChoice → MemoryState → List ℕ → Option (List ℕ)
crash_leaves Oldest state name = if is_loose state.crash name then None else get state.crash.oldest name
crash_leaves Newest state name = get state.folder name
crash_leaves Torn state name = option_map (λ bytes. if is_loose state.crash name then first_half bytes else bytes) (get state.folder name)

-- a folder with exactly that
abbrev pub AreLeft : CrashChoice → MemoryState → Folder → Type 0
AreLeft choice state left = (name : List ℕ) → get left name ≡ crash_leaves choice state name
