-- What words and an input ask for.
use Rattle.std.specs.Prelude.{◌≡◌, ◌⊎◌, ℕ, ◌+◌, Bool, IsTrue, List, [], ◌∷◌, All, codes, length}
use Rattle.ts_script.specs.Lines.{lines_of}
use Rattle.ts_script.specs.Commands.{AwaitBody, IsCommand, IsNoCommand}
use Rattle.ts_script.specs.Script.{AreScript, IsNextCommand}
use Rattle.ts_script.specs.declared.command.Command.{Command}

abbrev pub run_words : List (List ℕ)
run_words = codes "run" ∷ []

-- the words are `run` alone: the input is a script
abbrev pub AreRun : List (List ℕ) → Type 0
AreRun words = words ≡ run_words

-- the words are neither a command nor `run`
abbrev pub AreNoWords : List (List ℕ) → Type 0
AreNoWords words = IsNoCommand words × (AreRun words → ⊥)

-- the input is read: it is a script, or the body of a command
abbrev pub ReadInput : List (List ℕ) → Type 0
ReadInput words = AreRun words ⊎ AwaitBody words

-- The commands that words and an input ask for: those of the script that the lines of the input are; or the one that the words are,
-- with the lines of the input as its body where it has one.
abbrev pub AreCommands : List (List ℕ) → List ℕ → List Command → Type 0
AreCommands words input commands =
    (AreRun words × AreScript 0 (lines_of input) commands)
    ⊎ ((asked : Command) × IsCommand words 0 (lines_of input) asked × (commands ≡ asked ∷ []))

-- ---- what was given so far

-- what is asked of a run: its words, and its input where it is told
pub record Asking : Type 0 where
  pub words : List (List ℕ)
  pub tells : Bool
  pub left : List ℕ

abbrev pub asking : List (List ℕ) → Bool → List ℕ → Asking
asking words tells left = record { words = words; tells = tells; left = left }

-- the words, and some lines where they have a body, are this command; where the input is told these are its lines
abbrev pub Asks : Asking → Command → Type 0
Asks a asked = (lines : List (List ℕ)) × IsCommand a.words 0 lines asked × (IsTrue a.tells → lines ≡ lines_of a.left)

-- The commands are the first ones of the script that some lines are. Before these lines `before` lines of the input stand, and behind
-- the commands the rest, with `next` lines before it.
abbrev pub AreFirst : ℕ → List (List ℕ) → List Command → ℕ → List (List ℕ) → Type 0
AreFirst before lines [] next rest = (next ≡ before) × (rest ≡ lines)
AreFirst before lines (asked ∷ commands) next rest =
    (taken : List (List ℕ)) × (behind : List (List ℕ)) × IsNextCommand before lines asked taken behind
    × AreFirst (before + length taken) behind commands next rest

-- some lines of a script are this command
abbrev pub IsOfScript : Command → Type 0
IsOfScript asked = (before : ℕ) × (lines : List (List ℕ)) × (taken : List (List ℕ)) × (rest : List (List ℕ)) × IsNextCommand before lines asked taken rest

-- each command is of a script; where the input is told they are the first ones of the script that its lines are
pub record AreOfScript (a : Asking) (commands : List Command) : Type 0 where
  pub each : All IsOfScript commands
  pub first : IsTrue a.tells → (next : ℕ) × (rest : List (List ℕ)) × AreFirst 0 (lines_of a.left) commands next rest

-- these commands are asked for, and where the input is a script maybe more behind them
abbrev pub AreGiven : Asking → List Command → Type 0
AreGiven a commands = (AreRun a.words × AreOfScript a commands) ⊎ ((asked : Command) × Asks a asked × (commands ≡ asked ∷ []))
