-- What a command names: a layer, a label, a layer by a label, or a cursor.
use Rattle.std.specs.Prelude.{ℕ, if◌then◌else◌, List, Option, None, Some, Result, Ok, Err}
use Rattle.std.specs.FinMap.{contains_key, get}
use Rattle.ts_labels.specs.declared.label.Label.{Label}
use Rattle.ts_model.specs.TextTriple.{TextTriple}
use Rattle.ts_script.specs.declared.command.LayerRef.{LayerRef}
use Rattle.ts_script.specs.declared.command.LayerRef.TheVariants.{Number, Last}
use Rattle.ts_script.specs.declared.command.Ref.{Ref}
use Rattle.ts_script.specs.declared.command.Ref.TheVariants.{Layer as AtLayer, Label as AtLabel}
use Rattle.ts_script.specs.declared.reply.Refusal.{Refusal}
use Rattle.ts_script.specs.declared.reply.Refusal.TheVariants as refusal
use Rattle.ts_store.specs.State.{State}

-- what is there, and the refusal where nothing is
abbrev pub found_or : {A : Type 0} → Refusal → Option A → Result A Refusal
found_or given None = Err given
found_or given (Some found) = Ok found

-- the number of a layer that stands, or of the newest one
abbrev pub resolve : State → LayerRef → Option ℕ
resolve state (Number n) = if contains_key state.history n then Some n else None
resolve state Last = state.last

abbrev pub find_layer : State → LayerRef → Result ℕ Refusal
find_layer state layer = found_or (refusal.NoLayer layer) (resolve state layer)

abbrev pub find_label : State → List ℕ → Result Label Refusal
find_label state name = found_or (refusal.NoLabel name) (get state.labels name)

-- the layer that a label names
abbrev pub layer_named : List ℕ → Result Label Refusal → Result ℕ Refusal
layer_named name (Err given) = Err given
layer_named name (Ok label) = found_or (refusal.EmptyLabel name) label.layer

abbrev pub find_ref : State → Ref → Result ℕ Refusal
find_ref state (AtLayer layer) = find_layer state layer
find_ref state (AtLabel name) = layer_named name (find_label state name)

abbrev pub some_layer : Result ℕ Refusal → Result (Option ℕ) Refusal
some_layer (Err given) = Err given
some_layer (Ok k) = Ok (Some k)

-- where a label is to move: to a layer that stands, or to none
abbrev pub find_target : State → Option LayerRef → Result (Option ℕ) Refusal
find_target state None = Ok None
find_target state (Some layer) = some_layer (find_layer state layer)

-- what a cursor has still to give
abbrev pub find_cursor : State → List ℕ → Result (List TextTriple) Refusal
find_cursor state name = found_or (refusal.NoCursor name) (get state.cursors name)
