-- A folder in which one file was changed whole, by way of a temporary file.
use Rattle.std.specs.Prelude.{◌≡◌, ◌⊎◌, ℕ, List, codes, Result, MatchResult}
use Rattle.std.specs.FinMap.{insert, remove}
use Rattle.ts_site.specs.Folder.{Folder, IsAnyAt}

-- the name of the temporary file
abbrev pub new_tmp : List ℕ
new_tmp = codes "new.tmp"

-- the folder with these bytes under the name, and no temporary file
abbrev pub replaced : Folder → List ℕ → List ℕ → Folder
replaced folder name bytes = insert (remove folder new_tmp) name bytes

-- the temporary file is absent or holds any bytes and all else is as it was, or the whole change happened
abbrev pub IsReplacedOrNot : List ℕ → List ℕ → Folder → Folder → Type 0
IsReplacedOrNot name bytes old new = IsAnyAt new_tmp old new ⊎ (new ≡ replaced old name bytes)

-- at Ok the whole change happened, and after a failure that or nothing but for the temporary file
abbrev pub Replaces : {T E : Type 0} → Result T E → List ℕ → List ℕ → Folder → Folder → Type 0
Replaces result name bytes old new = MatchResult result (λ _. new ≡ replaced old name bytes) (λ _. IsReplacedOrNot name bytes old new)
