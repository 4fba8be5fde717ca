-- What a crash leaves of a folder, and what each call makes of that.
use Rattle.std.specs.Prelude.{◌≡◌, ◌⊎◌, ℕ, Bool, not, ◌&&◌, ◌||◌, if◌then◌else◌, List, [], ◌∷◌, ◌++◌, map, filter, Option, None, Some, Contains, IsTrue}
use Rattle.std.specs.List.{list_any}
use Rattle.std.specs.Str.{bytes_eq}
use Rattle.std.specs.FinMap.{get, insert, remove}
use Rattle.ts_site.specs.declared.crash.Tie.{Tie}
use Rattle.ts_site.specs.Folder.{Folder, moved}

-- What a crash may leave: the folder without the unsettled renames and removals; the folder after each of them, the first of them
-- first; the names of the files whose bytes a sync settles; and the renames of such files, whose bytes a barrier alone settles.
pub record CrashState : Type 0 where
  pub oldest : Folder
  pub later : List Folder
  pub loose : List (List ℕ)
  pub ties : List Tie

-- whether the name is one of the two, which are different
abbrev pub ties_name : List ℕ → Tie → Bool
ties_name name tie = not (bytes_eq tie.from tie.to) && (bytes_eq tie.from name || bytes_eq tie.to name)

-- whether the bytes of a name are unsettled
abbrev pub is_loose : CrashState → List ℕ → Bool
is_loose state name = list_any (λ other. bytes_eq other name) state.loose || list_any (ties_name name) state.ties

-- A folder that a crash may leave: the names are as after some front of the unsettled renames and removals, each name with unsettled bytes
-- is absent or holds any bytes, and every other name has its bytes.
abbrev pub IsImage : CrashState → Folder → Type 0
IsImage state image =
    (names : Folder) × Contains (state.oldest ∷ state.later) names
    × ((name : List ℕ) → IsTrue (is_loose state name) ⊎ (get image name ≡ get names name))

-- each folder that a crash may leave is like that
abbrev pub EachImage : (Folder → Type 0) → CrashState → Type 0
EachImage P state = (image : Folder) → IsImage state image → P image

-- a crash leaves in the one state only what it may leave in the other
abbrev pub AddsNone : CrashState → CrashState → Type 0
AddsNone new old = EachImage (IsImage old) new

-- all is settled
abbrev pub settled : Folder → CrashState
settled folder = record { oldest = folder; later = []; loose = []; ties = [] }

abbrev pub last_of : Folder → List Folder → Folder
last_of folder [] = folder
last_of folder (next ∷ later) = last_of next later

-- the folder after all renames and removals
abbrev pub newest : CrashState → Folder
newest state = last_of state.oldest state.later

-- a folder with this under a name, whatever stood there
abbrev pub with_file : List ℕ → Option (List ℕ) → Folder → Folder
with_file name None folder = remove folder name
with_file name (Some bytes) folder = insert folder name bytes

abbrev pub without : List ℕ → List (List ℕ) → List (List ℕ)
without name names = filter (λ other. not (bytes_eq other name)) names

-- A file was made or went on, and reads so: its bytes are unsettled, whatever renames and removals a crash leaves.
abbrev pub written : List ℕ → Option (List ℕ) → CrashState → CrashState
written name content state = record state {
  oldest = with_file name content state.oldest;
  later = map (with_file name content) state.later;
  loose = without name state.loose ++ name ∷ [];
}

-- The bytes of a file were settled, and no rename or removal.
abbrev pub synced : List ℕ → CrashState → CrashState
synced name state = record state { loose = without name state.loose }

-- one more rename or removal, after which the names are these
abbrev pub with_names : Folder → CrashState → CrashState
with_names names state = record state { later = state.later ++ names ∷ [] }

-- the renames whose files have unsettled bytes, after one more
abbrev pub ties_after : List ℕ → List ℕ → CrashState → List Tie
ties_after from to state = if is_loose state from || is_loose state to then state.ties ++ record { from = from; to = to } ∷ [] else state.ties

-- A file was moved. Where it has unsettled bytes, or what stood under its new name had, both names stay so until a barrier.
abbrev pub renamed : List ℕ → List ℕ → CrashState → CrashState
renamed from to state = record (with_names (moved (newest state) from to) state) { ties = ties_after from to state }

-- A name was taken away.
abbrev pub removed : List ℕ → CrashState → CrashState
removed name state = with_names (remove (newest state) name) state

-- All renames and removals were settled, and no bytes.
abbrev pub names_settled : CrashState → CrashState
names_settled state = record state { oldest = newest state; later = [] }
