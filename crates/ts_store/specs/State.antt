-- The state of a store: its history, its labels, the open cursors, and the newest layer that was made in this run.
use Rattle.std.specs.Prelude.{◌≡◌, ℕ, Option, None}
use Rattle.std.specs.FinMap.{empty}
use Rattle.ts_labels.specs.Labels.{Labels}
use Rattle.ts_model.specs.History.{History}
use Rattle.ts_store.specs.Cursors.{Cursors}

pub record State : Type 0 where
  pub history : History
  pub labels : Labels
  pub cursors : Cursors
  pub last : Option ℕ

-- a run begins without a cursor, and no layer was made in it
pub record IsFresh (state : State) : Type 0 where
  pub cursors : state.cursors ≡ empty
  pub last : state.last ≡ None
