-- The commands that words and lines are.
use Rattle.std.specs.Prelude.{◌≡◌, ◌⊎◌, ℕ, List, Result, Ok, Err}
use Rattle.ts_model.specs.declared.signed.SignedTriple.{SignedTriple}
use Rattle.ts_script.specs.Body.{IsBodyRead}
use Rattle.ts_script.specs.Heads.{IsHead, AreNoHead, HaveTerms}
use Rattle.ts_script.specs.declared.body.BodyFault.{BodyFault}
use Rattle.ts_script.specs.declared.body.BodyFault.TheVariants.{Bad, TooLong}
use Rattle.ts_script.specs.declared.opening.Opening.{Opening}
use Rattle.ts_script.specs.declared.opening.Opening.TheVariants as opening
use Rattle.ts_script.specs.declared.command.Command.{Command}
use Rattle.ts_script.specs.declared.command.Command.TheVariants as command
use Rattle.ts_script.specs.declared.head.Head.{Head}
use Rattle.ts_script.specs.declared.head.Head.TheVariants.{Whole, Awaits}
use Rattle.ts_script.specs.declared.stop.ScriptStop.{ScriptStop}
use Rattle.ts_script.specs.declared.stop.ScriptStop.TheVariants.{Fault, Limit, Memory}

-- the command that a body completes, or the body's first fault
abbrev pub completed : Opening → Result (List SignedTriple) BodyFault → Command
completed opening (Err (Bad line)) = command.BadTriple line
completed opening (Err (TooLong line)) = command.TooLong line
completed opening.Base (Ok body) = command.Base body
completed (opening.Commit at) (Ok body) = command.Commit at body

-- The command of a head: what the words say, or what the lines behind them complete. Before these lines `before` lines of the input
-- stand.
abbrev pub IsCompleted : Head → ℕ → List (List ℕ) → Command → Type 0
IsCompleted (Whole whole) before lines asked = asked ≡ whole
IsCompleted (Awaits opening) before lines asked =
    (read : Result (List SignedTriple) BodyFault) × IsBodyRead before lines read × (asked ≡ completed opening read)

-- the words, and the lines that follow as a body where they await one, are this command
abbrev pub IsCommand : List (List ℕ) → ℕ → List (List ℕ) → Command → Type 0
IsCommand words before lines asked = (head : Head) × IsHead words head × IsCompleted head before lines asked

-- the words are no command, whatever follows
abbrev pub IsNoCommand : List (List ℕ) → Type 0
IsNoCommand words = AreNoHead words

-- the words are this command, which has no body
abbrev pub AsksFor : List (List ℕ) → Command → Type 0
AsksFor words asked = IsHead words (Whole asked)

-- the words are of a command with a body
abbrev pub AwaitBody : List (List ℕ) → Type 0
AwaitBody words = (opening : Opening) × IsHead words (Awaits opening)

-- Why words are given no command. The input fails or is at its limit only where a body is read; memory is wanted only for the terms
-- of words and bodies.
abbrev pub IsStopFor : List (List ℕ) → ScriptStop → Type 0
IsStopFor words Fault = AwaitBody words
IsStopFor words Limit = AwaitBody words
IsStopFor words Memory = AwaitBody words ⊎ HaveTerms words
