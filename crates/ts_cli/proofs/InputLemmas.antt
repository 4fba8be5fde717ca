-- What the lines of an input ask for.
use Rattle.std.proofs.Common.{ℕ, Bool, true, false, IsTrue, true≢false, refl, List, sym}
use Rattle.ts_script.specs.Lines.{lines_of}
use Rattle.ts_script.specs.Commands.{IsCommand}
use Rattle.ts_script.specs.declared.command.Command.{Command}
use Rattle.ts_cli.specs.Asked.{Asks, asking}

-- the command of some lines, which are those of the input where it is told
pub asks_of : (words : List (List ℕ)) (tells : Bool) (left : List ℕ) (asked : Command) → (lines : List (List ℕ)) × IsCommand words 0 lines asked → (IsTrue tells → IsCommand words 0 (lines_of left) asked) → Asks (asking words tells left) asked
asks_of words true left asked some told = (lines_of left, told refl, λ _. refl)
asks_of words false left asked some told = (some.0, some.1, λ tells. absurd (true≢false (sym tells)))
