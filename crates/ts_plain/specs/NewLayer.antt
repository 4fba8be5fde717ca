-- A layer that joins a history, under a number above all that stand.
use Rattle.std.specs.Prelude.{◌≡◌, ℕ, ◌<◌, ◌≤◌, List, Option, IsTrue}
use Rattle.std.specs.FinMap.{contains_key}
use Rattle.ts_model.specs.TextTriple.{TextTriple}
use Rattle.ts_model.specs.Sets.{members}
use Rattle.ts_model.specs.History.{LayerRecord, History}

-- the number is at least 1 and above that of each layer
pub record IsNewNumber (history : History) (number : ℕ) : Type 0 where
  pub positive : 1 ≤ number
  pub above : (k : ℕ) → IsTrue (contains_key history k) → k < number

-- a layer with these additions over this parent
pub record IsNewLayer (history : History) (number : ℕ) (layer : LayerRecord) (parent : Option ℕ) (additions : List TextTriple) : Type 0 where
  pub number_is_new : IsNewNumber history number
  pub parent_is : layer.parent ≡ parent
  pub additions_are : members layer.additions ≡ additions
