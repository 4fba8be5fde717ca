-- The newest names are those that read, and what reads may be left by a crash.
use Rattle.std.specs.Prelude.{◌≡◌, ℕ, List, [], ◌∷◌, ◌++◌, map, Some, Contains, refl}
use Rattle.std.proofs.Common.{ap, subst, ◌∙◌, inr}
use Rattle.std.specs.FinMap.{remove}
use Rattle.std.proofs.lemmas.List.Elements.{Contains-append_right, Contains-push}
use Rattle.ts_site.specs.declared.call.Call.{Call}
use Rattle.ts_site.specs.declared.call.Call.TheVariants.{Create, Append, Sync, Rename, Remove, SyncNames, Barrier, Say}
use Rattle.ts_site.specs.declared.memory_site.MemorySite.{MemorySite}
use Rattle.ts_site.specs.Call.{content, happens, folder_after, crash_happens, crash_after}
use Rattle.ts_site.specs.Crash.{CrashState, IsImage, last_of, newest, settled, with_file}
use Rattle.ts_site.specs.Folder.{Folder, moved}
use Rattle.ts_site.specs.MemorySite.{outside_of}
use Rattle.ts_site.specs.Outside.{IsHonest}
use Rattle.ts_site.specs.Recorder.{first_files}

-- the last of a list of folders
pub last_of-push : (folder : Folder) (later : List Folder) (next : Folder) → last_of folder (later ++ next ∷ []) ≡ next
last_of-push folder [] next = refl
last_of-push folder (other ∷ later) next = last_of-push other later next

last_of-map : (f : Folder → Folder) (folder : Folder) (later : List Folder) → last_of (f folder) (map f later) ≡ f (last_of folder later)
last_of-map f folder [] = refl
last_of-map f folder (next ∷ later) = last_of-map f next later

pub last_stands : (folder : Folder) (later : List Folder) → Contains (folder ∷ later) (last_of folder later)
last_stands folder [] = Contains-push [] folder
last_stands folder (next ∷ later) = Contains-append_right (folder ∷ []) (next ∷ later) (last_of next later) (last_stands next later)

-- after each call the newest names are those that read
pub newest_happens : (store : List ℕ) (call : Call) (state : CrashState) → newest (crash_happens store call state) ≡ happens store call (newest state)
newest_happens store (Create name) state = last_of-map (with_file name (Some [])) state.oldest state.later
newest_happens store (Append stored) state = last_of-map (with_file stored.name (Some (content store stored))) state.oldest state.later
newest_happens store (Sync name) state = refl
newest_happens store (Rename from to) state = last_of-push state.oldest state.later (moved (newest state) from to)
newest_happens store (Remove name) state = last_of-push state.oldest state.later (remove (newest state) name)
newest_happens store SyncNames state = refl
newest_happens store Barrier state = refl
newest_happens store (Say end) state = refl

pub newest_after : (store : List ℕ) (calls : List Call) (state : CrashState) → newest (crash_after store calls state) ≡ folder_after store calls (newest state)
newest_after store [] state = refl
newest_after store (call ∷ calls) state = newest_after store calls (crash_happens store call state) ∙ ap (folder_after store calls) (newest_happens store call state)

-- what reads may be left by a crash
newest_is_image : (state : CrashState) → IsImage state (newest state)
newest_is_image state = (newest state, last_stands state.oldest state.later, λ name. inr refl)

pub memory_reads : (site : MemorySite) → IsHonest (outside_of site) → IsImage (outside_of site).crash (outside_of site).folder
memory_reads site honest = subst (IsImage (outside_of site).crash) (newest_after site.recorder.store.items site.recorder.calls.items (settled (first_files site.recorder))) (newest_is_image (outside_of site).crash)
