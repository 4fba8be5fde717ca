-- What the system answers of a name.
use Rattle.std.specs.Prelude.{◌≡◌, ◌⊎◌, ◌↔◌, ℕ, List, Option, None, Result, IfSome, IsOkAnd, IsSome}
use Rattle.std.specs.IoError.{error_kind, raw_os_error}
use Rattle.std.specs.declared.io.Error.{Error}
use Rattle.std.specs.declared.io.ErrorKind.{ErrorKind}
use Rattle.std.specs.declared.io.ErrorKind.TheVariants.{FilesystemLoop, InvalidFilename, NotADirectory, NotFound}
use Rattle.ts_site.specs.FileName.{IsFileName}

-- nothing stands under the name, or its links lead to nothing
abbrev pub LeadsNowhere : ErrorKind → Type 0
LeadsNowhere kind = (kind ≡ NotFound) ⊎ (kind ≡ NotADirectory) ⊎ (kind ≡ FilesystemLoop)

-- the library, and not the system, says that a name is no text
abbrev pub IsNoText : Error → Type 0
IsNoText error = (error_kind error ≡ InvalidFilename) × (raw_os_error error ≡ None)

-- the name is found exactly where a file of the store may have it
abbrev pub IsNameOf : {E : Type 0} → List ℕ → Result (Option (List ℕ)) E → Type 0
IsNameOf bytes result = IsOkAnd result (λ name. (IsSome name ↔ IsFileName bytes) × IfSome name (λ name. name ≡ bytes))
