-- What each step keeps of a state.
use Rattle.std.specs.Prelude.{◌≡◌, ◌≤◌, All, IsTrue, IfSome}
use Rattle.std.specs.FinMap.{contains_key, keys, len}
use Rattle.ts_model.specs.History.{IsWellKept}
use Rattle.ts_model.specs.Names.{IsLabelName}
use Rattle.ts_model.specs.TextTriple.{IsTriple}
use Rattle.ts_script.specs.declared.command.Command.{Command}
use Rattle.ts_script.specs.declared.command.Command.TheVariants as command
use Rattle.ts_store.specs.Cursors.{most_cursors}
use Rattle.ts_store.specs.Makes.{greatest_of}
use Rattle.ts_store.specs.Named.{AreLabelsOf}
use Rattle.ts_store.specs.Stands.{AreCounted}
use Rattle.ts_store.specs.State.{State}

-- The history is well kept and its terms are counted, the labels may stand beside it, no more cursors are open than may be, and the
-- newest layer of the run, if there is one, has the greatest number.
pub record IsKeptState (state : State) : Type 0 where
  pub kept : IsWellKept state.history
  pub counted : AreCounted state.history
  pub named : AreLabelsOf state.history state.labels
  pub few : len state.cursors ≤ most_cursors
  pub newest : IfSome state.last (λ k. (k ≡ greatest_of (keys state.history)) × IsTrue (contains_key state.history k))

-- the lines of a body are triples, and a label may have the name of a label that is made
abbrev pub IsProperCommand : Command → Type 0
IsProperCommand (command.Base body) = All (λ signed. IsTriple signed.triple) body
IsProperCommand (command.Commit at body) = All (λ signed. IsTriple signed.triple) body
IsProperCommand (command.LabelNew name) = IsLabelName name
IsProperCommand _ = Unit {0}
