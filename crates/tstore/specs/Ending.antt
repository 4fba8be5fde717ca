-- What the program writes to the standard error.
use Rattle.std.specs.Prelude.{ℕ, List, [], Option, None, Some}
use Rattle.ts_cli.specs.StopText.{stop_text}
use Rattle.ts_cli.specs.declared.Stop.{Stop}

-- the line of a stop, and nothing where there is none
abbrev pub stop_lines : Option Stop → List ℕ
stop_lines None = []
stop_lines (Some stop) = stop_text stop
