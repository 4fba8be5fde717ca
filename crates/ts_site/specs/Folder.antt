-- A folder, and what a call does to it.
use Rattle.std.specs.Prelude.{◌≡◌, ◌⊎◌, ◌↔◌, ℕ, ◌-◌, min, List, [], ◌∷◌, ◌++◌, length, take, drop, Option, None, Some, Contains, IsTrue, Result, MatchResult, unwrap_or, option_map}
use Rattle.std.specs.Ordering.{nat_cmp}
use Rattle.std.specs.Cmp.Lexicographic.{slice_cmp}
use Rattle.std.specs.FinMap.{FinMap, empty, get, insert, remove, contains_key}

-- the bytes of each file, under its name's bytes
abbrev pub Folder : Type 0
Folder = FinMap (slice_cmp nat_cmp) (List ℕ)

abbrev pub no_files : Folder
no_files = empty

-- no name stands twice in the list
abbrev pub EachOnce : List (List ℕ) → Type 0
EachOnce [] = Unit {0}
EachOnce (name ∷ names) = (Contains names name → ⊥) × EachOnce names

-- each name of the folder once, and nothing else, in any order
pub record AreNamesOf (folder : Folder) (names : List (List ℕ)) : Type 0 where
  pub once : EachOnce names
  pub those : (name : List ℕ) → Contains names name ↔ IsTrue (contains_key folder name)

-- what was in the list stays at its front
abbrev pub Extends : {A : Type 0} → List A → List A → Type 0
Extends {A} old new = (more : List A) × (new ≡ old ++ more)

-- the list goes on with the names of the folder
abbrev pub AppendsNames : Folder → List (List ℕ) → List (List ℕ) → Type 0
AppendsNames folder old new = (names : List (List ℕ)) × AreNamesOf folder names × (new ≡ old ++ names)

-- a read of a file's bytes from a place fills the front of a buffer: as many bytes as stand there and fit
pub record Reads (file : List ℕ) (place count : ℕ) (old new : List ℕ) : Type 0 where
  pub all : count ≡ min (length old) (length file - place)
  pub front : take count new ≡ take count (drop place file)
  pub rest : drop count new ≡ drop count old

-- the same of the file under a name
abbrev pub ReadsFile : Option (List ℕ) → ℕ → ℕ → List ℕ → List ℕ → Type 0
ReadsFile None place count old new = Unit {0}
ReadsFile (Some file) place count old new = Reads file place count old new

-- the length of the file under a name, 0 where it is absent
abbrev pub length_at : Folder → List ℕ → ℕ
length_at folder name = unwrap_or (option_map length (get folder name)) 0

-- the folder with more bytes at the end of a file
abbrev pub appended_file : Folder → List ℕ → List ℕ → Option (List ℕ) → Folder
appended_file folder name more None = folder
appended_file folder name more (Some bytes) = insert folder name (bytes ++ more)

abbrev pub appended : Folder → List ℕ → List ℕ → Folder
appended folder name more = appended_file folder name more (get folder name)

-- the folder with what stands under one name under another, in the place of what stood there
abbrev pub moved_file : Folder → List ℕ → List ℕ → Option (List ℕ) → Folder
moved_file folder from to None = remove folder to
moved_file folder from to (Some bytes) = insert (remove folder from) to bytes

abbrev pub moved : Folder → List ℕ → List ℕ → Folder
moved folder from to = moved_file folder from to (get folder from)

-- the name is absent or holds any bytes, and all else is as it was
abbrev pub IsAnyAt : List ℕ → Folder → Folder → Type 0
IsAnyAt name old new = (new ≡ remove old name) ⊎ ((bytes : List ℕ) × (new ≡ insert old name bytes))

-- the change happened, or nothing did
abbrev pub IsEither : Folder → Folder → Folder → Type 0
IsEither changed old new = (new ≡ changed) ⊎ (new ≡ old)

-- a file is made or goes on: at Ok the folder is the changed one, and after a failure the name holds anything
abbrev pub Writes : {E : Type 0} → Result (Unit {0}) E → List ℕ → Folder → Folder → Folder → Type 0
Writes result name changed old new = MatchResult result (λ _. new ≡ changed) (λ _. IsAnyAt name old new)

-- names change: at Ok the folder is the changed one, and after a failure that happened or not
abbrev pub Renames : {E : Type 0} → Result (Unit {0}) E → Folder → Folder → Folder → Type 0
Renames result changed old new = MatchResult result (λ _. new ≡ changed) (λ _. IsEither changed old new)
