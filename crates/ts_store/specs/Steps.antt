-- One command after another.
use Rattle.std.specs.Prelude.{ℕ, zero, suc, Bool, false, ◌||◌, List, [], ◌∷◌, ◌++◌}
use Rattle.ts_script.specs.declared.command.Command.{Command}
use Rattle.ts_store.specs.State.{State}
use Rattle.ts_store.specs.Step.{step_of}

-- the state after the first j commands
abbrev pub after : State → List Command → ℕ → State
after state [] j = state
after state (asked ∷ commands) zero = state
after state (asked ∷ commands) (suc j) = after (step_of state asked).state commands j

-- the replies to the first j commands
abbrev pub answers : State → List Command → ℕ → List ℕ
answers state [] j = []
answers state (asked ∷ commands) zero = []
answers state (asked ∷ commands) (suc j) = (step_of state asked).told ++ answers (step_of state asked).state commands j

-- the reply to the command behind the first j, and nothing where there is none
abbrev pub answer_at : State → List Command → ℕ → List ℕ
answer_at state [] j = []
answer_at state (asked ∷ commands) zero = (step_of state asked).told
answer_at state (asked ∷ commands) (suc j) = answer_at (step_of state asked).state commands j

-- some command is refused
abbrev pub any_refused : State → List Command → Bool
any_refused state [] = false
any_refused state (asked ∷ commands) = (step_of state asked).refused || any_refused (step_of state asked).state commands
