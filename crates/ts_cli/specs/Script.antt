-- What the next command of a script is, and the stops of a script.
use Rattle.std.specs.Prelude.{◌≡◌, ℕ, List, map, Option}
use Rattle.ts_script.specs.Cutting.{lines_to_come}
use Rattle.ts_script.specs.Lines.{line_view}
use Rattle.ts_script.specs.Next.{NextCommandIs}
use Rattle.ts_script.specs.declared.command.Command.{Command}
use Rattle.ts_script.specs.declared.cutter.LineCutter.{LineCutter}
use Rattle.ts_store.specs.declared.stop.Stop.{Stop}
use Rattle.ts_store.specs.declared.stop.Stop.TheVariants.{Usage, Damaged, DiskFault, InputFault, OutputFault, InputLimit, Memory}

-- the next command of the lines to come, whichever they are, or none
abbrev pub GivesNext : LineCutter → List ℕ → LineCutter → List ℕ → Option Command → Type 0
GivesNext old left new left_after asked = (lines : List (List ℕ)) → lines_to_come old left ≡ map line_view lines → NextCommandIs old new left_after lines asked

-- the stops of a script once the folder is open
abbrev pub IsScriptStop : Stop → Type 0
IsScriptStop Usage = ⊥
IsScriptStop (Damaged name) = ⊥
IsScriptStop DiskFault = Unit {0}
IsScriptStop InputFault = Unit {0}
IsScriptStop OutputFault = Unit {0}
IsScriptStop InputLimit = Unit {0}
IsScriptStop Memory = Unit {0}
