-- Each step tells something.
use Rattle.std.proofs.Common.{ℕ, ◌<◌, Bool, true, false, codes, List, ◌∷◌, ◌++◌, [], length, take, Some, Result, Ok, Err, arith, length-append}
use Rattle.std.specs.Prelude.{flat_map}
use Rattle.std.specs.FinMap.{entries, get, keys, len}
use Rattle.ts_labels.specs.Moves.{made_label, moved_label}
use Rattle.ts_labels.specs.declared.label.Label.{Label}
use Rattle.ts_labels.specs.declared.label_error.LabelError.{LabelError}
use Rattle.ts_model.specs.TextTriple.{TextTriple}
use Rattle.ts_model.specs.History.{additions_at, content_at, parent_at, removals_at}
use Rattle.ts_model.specs.Listing.{in_birth_order, select}
use Rattle.ts_model.specs.Sets.{contains}
use Rattle.ts_nt.specs.TripleLine.{triple_line}
use Rattle.ts_script.specs.Replies.{refusal_text, refusal_words, reply_text}
use Rattle.ts_script.specs.declared.command.Command.{Command}
use Rattle.ts_script.specs.declared.command.Command.TheVariants as command
use Rattle.ts_script.specs.declared.reply.Refusal.{Refusal}
use Rattle.ts_script.specs.declared.reply.Refusal.TheVariants as refusal
use Rattle.ts_script.specs.declared.reply.Reply.TheVariants as reply
use Rattle.ts_store.specs.Fetches.{closes, fetch_end, fetches, opening, opens}
use Rattle.ts_store.specs.Makes.{base_layer, child_layer, makes, squashed_layer}
use Rattle.ts_store.specs.Puts.{label_line, puts, refusal_of}
use Rattle.ts_store.specs.Resolve.{find_cursor, find_label, find_layer, find_ref, find_target}
use Rattle.ts_store.specs.State.{State}
use Rattle.ts_store.specs.Step.{has_text, listing_text, step_of}
use Rattle.ts_store.specs.Stepped.{Stepped, at_found, does}
use Rattle.ts_store.proofs.PrefixLaws.{reply_is_longer}
use Rattle.ts_store.proofs.PublishLaws.{makes_tells}

refusal_tells : (given : Refusal) → 0 < length (refusal_text given)
refusal_tells given = omega (arith, length-append (codes "refused " ++ refusal_words given) (10 ∷ []))

behind_tells : (text last : List ℕ) → 0 < length last → 0 < length (text ++ last)
behind_tells text last longer = omega (arith, longer, length-append text last)

found_tells : {A : Type 0} (state : State) (found : Result A Refusal) (step : A → Stepped) → ((a : A) → 0 < length (step a).told) → 0 < length (at_found state found step).told
found_tells state (Ok a) step tells = tells a
found_tells state (Err given) step tells = refusal_tells given

listing_tells : (triples : List TextTriple) → 0 < length (listing_text triples)
listing_tells triples = behind_tells (flat_map triple_line triples) (reply_text (reply.Total (length triples))) (reply_is_longer (reply.Total (length triples)))

has_tells : (b : Bool) → 0 < length (has_text b)
has_tells true = reply_is_longer reply.Yes
has_tells false = reply_is_longer reply.No

puts_tells : (state : State) (name : List ℕ) (put : Result Label LabelError) → 0 < length (puts state name put).told
puts_tells state name (Ok label) = reply_is_longer (reply.LabelIs name label.version label.layer)
puts_tells state name (Err error) = refusal_tells (refusal_of name error)

pub step_tells : (state : State) (asked : Command) → 0 < length (step_of state asked).told
step_tells state (command.BadCommand number) = refusal_tells (refusal.BadCommand number)
step_tells state (command.BadTriple number) = refusal_tells (refusal.BadTriple number)
step_tells state (command.TooLong number) = refusal_tells (refusal.TooLong number)
step_tells state (command.Unfinished number) = refusal_tells (refusal.Unfinished number)
step_tells state (command.Base body) = makes_tells state (base_layer body)
step_tells state (command.Commit at body) = found_tells state (find_ref state at) (λ k. makes state (child_layer state.history k body)) (λ k. makes_tells state (child_layer state.history k body))
step_tells state (command.Listing at pattern) = found_tells state (find_ref state at) (λ k. does state (listing_text (select state.history k pattern))) (λ k. listing_tells (select state.history k pattern))
step_tells state (command.Has at triple) = found_tells state (find_ref state at) (λ k. does state (has_text (contains (content_at state.history k) triple))) (λ k. has_tells (contains (content_at state.history k) triple))
step_tells state (command.Count at pattern) =
    found_tells state (find_ref state at) (λ k. does state (reply_text (reply.Count (length (select state.history k pattern))))) (λ k. reply_is_longer (reply.Count (length (select state.history k pattern))))
step_tells state (command.Added layer) =
    found_tells state (find_layer state layer) (λ k. does state (listing_text (in_birth_order state.history k (additions_at state.history k)))) (λ k. listing_tells (in_birth_order state.history k (additions_at state.history k)))
step_tells state (command.Removed layer) =
    found_tells state (find_layer state layer) (λ k. does state (listing_text (in_birth_order state.history k (removals_at state.history k)))) (λ k. listing_tells (in_birth_order state.history k (removals_at state.history k)))
step_tells state command.Layers =
    behind_tells (flat_map (λ k. reply_text (reply.LayerParent k (parent_at state.history k))) (keys state.history)) (reply_text (reply.Total (length (keys state.history)))) (reply_is_longer (reply.Total (length (keys state.history))))
step_tells state command.Labels =
    behind_tells (flat_map (λ entry. label_line entry.0 entry.1) (entries state.labels)) (reply_text (reply.Total (len state.labels))) (reply_is_longer (reply.Total (len state.labels)))
step_tells state (command.LabelNew name) = puts_tells state name (made_label (get state.labels name))
step_tells state (command.LabelGet name) = found_tells state (find_label state name) (λ label. does state (label_line name label)) (λ label. reply_is_longer (reply.LabelIs name label.version label.layer))
step_tells state (command.LabelSet name version to) =
    found_tells state (find_label state name) (λ label. at_found state (find_target state to) (λ layer. puts state name (moved_label (Some label) version layer)))
    (λ label. found_tells state (find_target state to) (λ layer. puts state name (moved_label (Some label) version layer)) (λ layer. puts_tells state name (moved_label (Some label) version layer)))
step_tells state (command.Squash at) = found_tells state (find_ref state at) (λ k. makes state (squashed_layer state.history k)) (λ k. makes_tells state (squashed_layer state.history k))
step_tells state (command.OpenCursor name at pattern) =
    found_tells state (find_ref state at) (λ k. at_found state (opening state.cursors name) (λ _. opens state name (select state.history k pattern)))
    (λ k. found_tells state (opening state.cursors name) (λ _. opens state name (select state.history k pattern)) (λ _. reply_is_longer (reply.CursorOpen name)))
step_tells state (command.Fetch name n) =
    found_tells state (find_cursor state name) (λ left. fetches state name n left) (λ left. behind_tells (flat_map triple_line (take n left)) (reply_text (fetch_end n left)) (reply_is_longer (fetch_end n left)))
step_tells state (command.CloseCursor name) = found_tells state (find_cursor state name) (λ _. closes state name) (λ _. reply_is_longer (reply.CursorClosed name))
