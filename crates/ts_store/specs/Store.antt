-- What a session has in memory: the layers and labels of its folder, the open cursors, and the newest layer of this run.
use Rattle.std.specs.Prelude.{◌≡◌, ℕ, ◌<◌, ◌^◌, List, Option, None, Some, All, IsTrue, false, IfSome}
use Rattle.std.specs.FinMap.{contains_key}
use Rattle.ts_labels.specs.Labels.{Labels}
use Rattle.ts_model.specs.declared.signed.SignedTriple.{SignedTriple}
use Rattle.ts_model.specs.History.{History, LayerRecord, content_at_parent}
use Rattle.ts_model.specs.Sets.{contains}
use Rattle.ts_plain.specs.declared.write.PlainLayer.{PlainLayer}
use Rattle.ts_plain.specs.History.{AreHistory, LayerKeepsRules, history_of}
use Rattle.ts_store.specs.Cursors.{Cursors}
use Rattle.ts_store.specs.Makes.{base_layer, child_layer, next_number}
use Rattle.ts_store.specs.Named.{AreLabelsOf}
use Rattle.ts_store.specs.State.{State}

abbrev pub state_of : List PlainLayer → Labels → Cursors → Option ℕ → State
state_of layers labels cursors last = record { history = history_of layers; labels = labels; cursors = cursors; last = last }

-- the layers are a history, the labels may stand beside it, and the newest layer stands
pub record IsSound (layers : List PlainLayer) (labels : Labels) (last : Option ℕ) : Type 0 where
  pub history : AreHistory layers
  pub named : AreLabelsOf (history_of layers) labels
  pub newest : IfSome last (λ n. IsTrue (contains_key (history_of layers) n))

-- the layer of a body over a parent, or over nothing
abbrev pub changed_layer : History → Option ℕ → List SignedTriple → LayerRecord
changed_layer history None body = base_layer body
changed_layer history (Some k) body = child_layer history k body

-- The layer can be the next one of a history: it has the next number, its parent stands where it has one, has what the layer
-- removes and lacks what it adds.
pub record IsNextLayer (history : History) (layer : PlainLayer) : Type 0 where
  pub number : layer.number ≡ next_number history
  pub fits : layer.number < 2 ^ 32
  pub rules : LayerKeepsRules layer
  pub parent_stands : IfSome layer.parent (λ k. IsTrue (contains_key history k))
  pub removed : All (λ triple. IsTrue (contains (content_at_parent history layer.parent) triple)) layer.removals.items
  pub added : All (λ triple. contains (content_at_parent history layer.parent) triple ≡ false) layer.additions.items
