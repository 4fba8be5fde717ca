-- What a command does to a state, and its reply.
use Rattle.std.specs.Prelude.{Bool, true, false, List, ℕ, ◌++◌, length, flat_map, Some}
use Rattle.std.specs.FinMap.{get, keys}
use Rattle.ts_labels.specs.Moves.{made_label, moved_label}
use Rattle.ts_model.specs.TextTriple.{TextTriple}
use Rattle.ts_model.specs.History.{History, additions_at, content_at, parent_at, removals_at}
use Rattle.ts_model.specs.Listing.{in_birth_order, select}
use Rattle.ts_model.specs.Sets.{contains}
use Rattle.ts_nt.specs.TripleLine.{triple_line}
use Rattle.ts_script.specs.Replies.{reply_text}
use Rattle.ts_script.specs.declared.command.Command.{Command}
use Rattle.ts_script.specs.declared.command.Command.TheVariants as command
use Rattle.ts_script.specs.declared.reply.Reply.TheVariants as reply
use Rattle.ts_script.specs.declared.reply.Refusal.TheVariants as refusal
use Rattle.ts_store.specs.Fetches.{closes, fetches, opening, opens}
use Rattle.ts_store.specs.Makes.{base_layer, child_layer, makes, squashed_layer}
use Rattle.ts_store.specs.Puts.{label_line, labels_text, puts}
use Rattle.ts_store.specs.Resolve.{find_cursor, find_label, find_layer, find_ref, find_target}
use Rattle.ts_store.specs.State.{State}
use Rattle.ts_store.specs.Stepped.{Stepped, at_found, does, refuses}

-- ---- replies

-- a line for each triple, and how many they are
abbrev pub listing_text : List TextTriple → List ℕ
listing_text triples = flat_map triple_line triples ++ reply_text (reply.Total (length triples))

abbrev pub has_text : Bool → List ℕ
has_text true = reply_text reply.Yes
has_text false = reply_text reply.No

-- a line for each layer with its parent, rising, and how many they are
abbrev pub layers_text : History → List ℕ
layers_text history = flat_map (λ k. reply_text (reply.LayerParent k (parent_at history k))) (keys history) ++ reply_text (reply.Total (length (keys history)))

-- ---- the step of each command

-- Names are looked up from left to right, and the first that names nothing is refused.
abbrev pub step_of : State → Command → Stepped
step_of state (command.BadCommand line) = refuses state (refusal.BadCommand line)
step_of state (command.BadTriple line) = refuses state (refusal.BadTriple line)
step_of state (command.TooLong line) = refuses state (refusal.TooLong line)
step_of state (command.Unfinished line) = refuses state (refusal.Unfinished line)
step_of state (command.Base body) = makes state (base_layer body)
step_of state (command.Commit at body) = at_found state (find_ref state at) (λ k. makes state (child_layer state.history k body))
step_of state (command.Listing at pattern) = at_found state (find_ref state at) (λ k. does state (listing_text (select state.history k pattern)))
step_of state (command.Has at triple) = at_found state (find_ref state at) (λ k. does state (has_text (contains (content_at state.history k) triple)))
step_of state (command.Count at pattern) = at_found state (find_ref state at) (λ k. does state (reply_text (reply.Count (length (select state.history k pattern)))))
step_of state (command.Added layer) = at_found state (find_layer state layer) (λ k. does state (listing_text (in_birth_order state.history k (additions_at state.history k))))
step_of state (command.Removed layer) = at_found state (find_layer state layer) (λ k. does state (listing_text (in_birth_order state.history k (removals_at state.history k))))
step_of state command.Layers = does state (layers_text state.history)
step_of state command.Labels = does state (labels_text state.labels)
step_of state (command.LabelNew name) = puts state name (made_label (get state.labels name))
step_of state (command.LabelGet name) = at_found state (find_label state name) (λ label. does state (label_line name label))
step_of state (command.LabelSet name version to) =
    at_found state (find_label state name) (λ label. at_found state (find_target state to) (λ layer. puts state name (moved_label (Some label) version layer)))
step_of state (command.Squash at) = at_found state (find_ref state at) (λ k. makes state (squashed_layer state.history k))
step_of state (command.OpenCursor name at pattern) =
    at_found state (find_ref state at) (λ k. at_found state (opening state.cursors name) (λ _. opens state name (select state.history k pattern)))
step_of state (command.Fetch name n) = at_found state (find_cursor state name) (λ left. fetches state name n left)
step_of state (command.CloseCursor name) = at_found state (find_cursor state name) (λ _. closes state name)
