-- Words and an input ask for one list of proper commands, or the words are none.
use Rattle.std.proofs.Common.{◌≡◌, ℕ, zero, suc, ◌+◌, length, true, List, [], ◌∷◌, All, inl, inr, refl, sym, subst}
use Rattle.std.proofs.lemmas.List.Elements.{All-cons, All-head, All-nil, All-tail}
use Rattle.ts_script.specs.Lines.{lines_of}
use Rattle.ts_script.specs.Commands.{IsCommand}
use Rattle.ts_script.specs.Script.{AreScript, IsNextCommand}
use Rattle.ts_script.specs.declared.command.Command.{Command}
use Rattle.ts_script.specs.declared.command.Command.TheVariants as command
use Rattle.ts_script.proofs.CommandLaws.{body_of_script, body_of_triples, commit_of_script, commit_of_triples, some_command}
use Rattle.ts_script.proofs.LabelLaws.{label_of_script, label_of_words}
use Rattle.ts_script.proofs.SomeScript.{some_script}
use Rattle.ts_store.specs.KeptState.{IsKeptState, IsProperCommand}
use Rattle.ts_store.specs.State.{State}
use Rattle.ts_store.specs.Step.{step_of}
use Rattle.ts_store.specs.Steps.{after}
use Rattle.ts_store.proofs.KeptLaws.{keeps_state}
use Rattle.ts_cli.specs.Asked.{AreCommands, AreNoWords, asking}
use Rattle.ts_cli.proofs.HeadlineLaws.{all_same}

pub lists_once : (words : List (List ℕ)) (input : List ℕ) (a b : List Command) → AreCommands words input a → AreCommands words input b → a ≡ b
lists_once words input a b one other = all_same (asking words true input) refl a one b other

pub some_list : (words : List (List ℕ)) (input : List ℕ) → ((commands : List Command) → AreCommands words input commands → ⊥) → AreNoWords words
some_list words input none = (
  some_command words 0 (lines_of input) (λ asked is. none (asked ∷ []) (inr (asked, is, refl))),
  λ run. some_script 0 (lines_of input) (λ commands are. none commands (inl (run, are))),
)

-- ---- proper commands

proper_next : (before : ℕ) (lines taken rest : List (List ℕ)) (asked : Command) → IsNextCommand before lines asked taken rest → IsProperCommand asked
proper_next before lines taken rest (command.Base body) is = body_of_script before lines taken rest body is
proper_next before lines taken rest (command.Commit at body) is = commit_of_script before lines taken rest at body is
proper_next before lines taken rest (command.LabelNew name) is = label_of_script before lines taken rest name is
proper_next before lines taken rest _ is = tt

proper_command : (words : List (List ℕ)) (before : ℕ) (lines : List (List ℕ)) (asked : Command) → IsCommand words before lines asked → IsProperCommand asked
proper_command words before lines (command.Base body) is = body_of_triples words before lines body is
proper_command words before lines (command.Commit at body) is = commit_of_triples words before lines at body is
proper_command words before lines (command.LabelNew name) is = label_of_words words before lines name is
proper_command words before lines _ is = tt

proper_script : (before : ℕ) (lines : List (List ℕ)) (commands : List Command) → AreScript before lines commands → All IsProperCommand commands
proper_script before lines [] are = All-nil IsProperCommand
proper_script before lines (asked ∷ commands) (taken, rest, is, later) =
    All-cons IsProperCommand asked commands (proper_next before lines taken rest asked is) (proper_script (before + length taken) rest commands later)

pub proper_all : (words : List (List ℕ)) (input : List ℕ) (commands : List Command) → AreCommands words input commands → All IsProperCommand commands
proper_all words input commands (inl (run, are)) = proper_script 0 (lines_of input) commands are
proper_all words input commands (inr (asked, is, same)) =
    subst (All IsProperCommand) (sym same) (All-cons IsProperCommand asked [] (proper_command words 0 (lines_of input) asked is) (All-nil IsProperCommand))

pub kept_after : (commands : List Command) → All IsProperCommand commands → (state : State) (n : ℕ) → IsKeptState state → IsKeptState (after state commands n)
kept_after [] are state n kept = kept
kept_after (asked ∷ commands) are state zero kept = kept
kept_after (asked ∷ commands) are state (suc n) kept =
    kept_after commands (All-tail IsProperCommand asked commands are) (step_of state asked).state n (keeps_state state asked (All-head IsProperCommand asked commands are) kept)
