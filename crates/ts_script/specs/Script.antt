-- The commands that the lines of a script are.
use Rattle.std.specs.Prelude.{◌≡◌, ◌⊎◌, ℕ, ◌+◌, ◌<◌, ◌≤◌, Bool, true, false, List, [], ◌∷◌, ◌++◌, length, None, Result, Ok, Err}
use Rattle.ts_model.specs.declared.signed.SignedTriple.{SignedTriple}
use Rattle.ts_nt.specs.Limits.{line_limit}
use Rattle.ts_nt.specs.LineRead.{Answers}
use Rattle.ts_script.specs.Commands.{completed, AwaitBody}
use Rattle.ts_script.specs.Heads.{AreNoHead, HaveTerms, IsHead}
use Rattle.ts_script.specs.LineWords.{words_in}
use Rattle.ts_script.specs.ScriptBody.{AreAll, IsBodyUpTo}
use Rattle.ts_script.specs.declared.body.BodyFault.{BodyFault}
use Rattle.ts_script.specs.declared.command.Command.{Command}
use Rattle.ts_script.specs.declared.command.Command.TheVariants as command
use Rattle.ts_script.specs.declared.head.Head.TheVariants.{Whole, Awaits}
use Rattle.ts_script.specs.declared.opening.Opening.{Opening}
use Rattle.ts_script.specs.declared.script_line.ScriptLine.{ScriptLine}
use Rattle.ts_script.specs.declared.script_line.ScriptLine.TheVariants.{PassedOver, Overlong, NoCommand, Heads}

-- ---- lines between commands

-- the line is within its limit, and blank or a comment
abbrev pub IsPassedOver : List ℕ → Type 0
IsPassedOver line = Answers line None

-- What a line between two commands is: it is passed over; it is over its limit; its words are no command; or they are a command, or the
-- front of one.
abbrev pub LineIs : List ℕ → ScriptLine → Type 0
LineIs line PassedOver = IsPassedOver line
LineIs line Overlong = line_limit < length line
LineIs line NoCommand = (length line ≤ line_limit) × (IsPassedOver line → ⊥) × AreNoHead (words_in line)
LineIs line (Heads head) = (length line ≤ line_limit) × IsHead (words_in line) head

-- ---- bodies

-- the command that a body completes, and `Unfinished` where the script ends within one that has no fault
abbrev pub closed : Opening → ℕ → Bool → Result (List SignedTriple) BodyFault → Command
closed opening number true read = completed opening read
closed opening number false (Ok body) = command.Unfinished number
closed opening number false (Err fault) = completed opening (Err fault)

-- The lines `taken` are the body of a command, with the line that ends it. `number` is the number of the command's line.
abbrev pub IsOfBody : Opening → ℕ → List (List ℕ) → List (List ℕ) → Command → Type 0
IsOfBody opening number taken rest asked =
    (read : Result (List SignedTriple) BodyFault) × (is_closed : Bool) × IsBodyUpTo number taken rest read is_closed × (asked ≡ closed opening number is_closed read)

-- ---- one command

-- what a line with this number and the lines behind it are, where that line is no line that is passed over
abbrev pub IsGiven : ScriptLine → ℕ → List (List ℕ) → List (List ℕ) → Command → Type 0
IsGiven PassedOver number behind rest asked = ⊥
IsGiven Overlong number behind rest asked = (behind ≡ []) × (asked ≡ command.TooLong number)
IsGiven NoCommand number behind rest asked = (behind ≡ []) × (asked ≡ command.BadCommand number)
IsGiven (Heads (Whole whole)) number behind rest asked = (behind ≡ []) × (asked ≡ whole)
IsGiven (Heads (Awaits opening)) number behind rest asked = IsOfBody opening number behind rest asked

-- The first of the lines, `taken`, are the next command: lines that are passed over, the command's line, and the lines that belong to it. Before them
-- `before` lines of the input stand.
pub record IsNextCommand (before : ℕ) (lines : List (List ℕ)) (asked : Command) (taken rest : List (List ℕ)) : Type 0 where
  pub passed : List (List ℕ)
  pub line : List ℕ
  pub behind : List (List ℕ)
  pub kind : ScriptLine
  pub all : lines ≡ taken ++ rest
  pub parts : taken ≡ passed ++ line ∷ behind
  pub over : AreAll IsPassedOver passed
  pub is : LineIs line kind
  pub given : IsGiven kind (before + length passed + 1) behind rest asked

-- the lines are this command, with the lines before it that are passed over, whatever follows them
abbrev pub IsWholeCommand : ℕ → List (List ℕ) → Command → Type 0
IsWholeCommand before taken asked = (behind : List (List ℕ)) → IsNextCommand before (taken ++ behind) asked taken behind

-- the lines don't begin with a whole command
abbrev pub HasNoWholeCommand : ℕ → List (List ℕ) → Type 0
HasNoWholeCommand before lines = (asked : Command) (taken rest : List (List ℕ)) → lines ≡ taken ++ rest → IsWholeCommand before taken asked → ⊥

-- the first of the lines that isn't passed over names terms, or awaits a body
pub record WantMemory (lines : List (List ℕ)) : Type 0 where
  pub passed : List (List ℕ)
  pub line : List ℕ
  pub rest : List (List ℕ)
  pub parts : lines ≡ passed ++ line ∷ rest
  pub over : AreAll IsPassedOver passed
  pub wants : HaveTerms (words_in line) ⊎ AwaitBody (words_in line)

-- ---- scripts

-- the lines, before which `before` lines of the input stand, are these commands
abbrev pub AreScript : ℕ → List (List ℕ) → List Command → Type 0
AreScript before lines [] = AreAll IsPassedOver lines
AreScript before lines (asked ∷ commands) =
    (taken rest : List (List ℕ)) × IsNextCommand before lines asked taken rest × AreScript (before + length taken) rest commands

-- the command isn't one that the script's end leaves unfinished
abbrev pub IsFinished : Command → Type 0
IsFinished asked = (line : ℕ) → asked ≡ command.Unfinished line → ⊥

-- each of the commands is finished
abbrev pub AreFinished : List Command → Type 0
AreFinished [] = Unit {0}
AreFinished (asked ∷ commands) = IsFinished asked × AreFinished commands

-- These commands stand whole in the lines, one after another, and no other one behind them. So nothing that follows the lines changes a
-- command that they have, and a body that goes on isn't one.
abbrev pub AreWholeCommands : ℕ → List (List ℕ) → List Command → Type 0
AreWholeCommands before lines [] = HasNoWholeCommand before lines
AreWholeCommands before lines (asked ∷ commands) =
    (taken rest : List (List ℕ)) × (lines ≡ taken ++ rest) × IsWholeCommand before taken asked × AreWholeCommands (before + length taken) rest commands
