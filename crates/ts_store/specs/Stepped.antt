-- What is left and told by a command.
use Rattle.std.specs.Prelude.{ℕ, Bool, true, false, List, Result, Ok, Err}
use Rattle.ts_script.specs.Replies.{refusal_text}
use Rattle.ts_script.specs.declared.reply.Refusal.{Refusal}
use Rattle.ts_store.specs.State.{State}

-- the state after a command, the bytes of its reply, and whether it was refused
pub record Stepped : Type 0 where
  pub state : State
  pub told : List ℕ
  pub refused : Bool

abbrev pub does : State → List ℕ → Stepped
does state told = record { state = state; told = told; refused = false }

-- a refusal changes nothing
abbrev pub refuses : State → Refusal → Stepped
refuses state given = record { state = state; told = refusal_text given; refused = true }

-- the step over what was looked up, and the refusal where there is none
abbrev pub at_found : {A : Type 0} → State → Result A Refusal → (A → Stepped) → Stepped
at_found state (Ok found) step = step found
at_found state (Err given) step = refuses state given
