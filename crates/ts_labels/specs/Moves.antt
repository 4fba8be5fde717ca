-- The next label of a name, given the label that it has, or why there is none.
use Rattle.std.specs.Prelude.{ℕ, ◌+◌, ◌-◌, ◌^◌, ◌==◌, if◌then◌else◌, Option, None, Some, Result, Ok, Err}
use Rattle.ts_labels.specs.declared.label.Label.{Label}
use Rattle.ts_labels.specs.declared.label_error.LabelError.{LabelError}
use Rattle.ts_labels.specs.declared.label_error.LabelError.TheVariants.{NoLabel, Stale, VersionEnd, LabelExists}

-- the greatest version
abbrev pub last_version : ℕ
last_version = 2 ^ 64 - 1

-- a new label has version 0 and names no layer
abbrev pub made_label : Option Label → Result Label LabelError
made_label None = Ok (record { version = 0; layer = None })
made_label (Some label) = Err LabelExists

-- a label moves from the version that it has, to the next one
abbrev pub moved_label : Option Label → ℕ → Option ℕ → Result Label LabelError
moved_label None version to = Err NoLabel
moved_label (Some label) version to =
    if version == label.version
    then (if version == last_version then Err VersionEnd else Ok (record { version = version + 1; layer = to }))
    else Err (Stale label.version)
