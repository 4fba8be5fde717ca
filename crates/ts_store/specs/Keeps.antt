-- What a session stands for.
use Rattle.std.specs.Prelude.{◌≡◌, Option, None}
use Rattle.ts_store.specs.declared.session.Session.{Session}
use Rattle.ts_store.specs.declared.stop.Stop.{Stop}
use Rattle.ts_store.specs.State.{State}

-- the stop that ended it
abbrev pub spent_by : Session → Option Stop
spent_by session = session.spent

-- the state that it has in memory, also once it is spent
abbrev pub state_in : Session → State
state_in session = session.store

-- the session isn't spent, and stands for this state
pub record Keeps (session : Session) (state : State) : Type 0 where
  pub unspent : spent_by session ≡ None
  pub store : state_in session ≡ state
