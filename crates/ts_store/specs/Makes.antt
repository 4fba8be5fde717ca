-- What a command does that makes a layer.
use Rattle.std.specs.Prelude.{ℕ, ◌+◌, ◌^◌, Bool, ◌&&◌, nat_lt, if◌then◌else◌, max, List, [], ◌∷◌, None, Some}
use Rattle.std.specs.FinMap.{empty, insert, keys}
use Rattle.ts_model.specs.declared.signed.SignedTriple.{SignedTriple}
use Rattle.ts_model.specs.ChainTotals.{terms_at, predicates_at}
use Rattle.ts_model.specs.History.{History, LayerRecord, content_at}
use Rattle.ts_model.specs.NetChange.{net_additions, net_removals}
use Rattle.ts_script.specs.Replies.{reply_text}
use Rattle.ts_script.specs.declared.reply.Reply.TheVariants as reply
use Rattle.ts_script.specs.declared.reply.Refusal.TheVariants as refusal
use Rattle.ts_store.specs.State.{State}
use Rattle.ts_store.specs.Stepped.{Stepped, does, refuses}

-- the greatest of some numbers, 0 where there is none
abbrev pub greatest_of : List ℕ → ℕ
greatest_of [] = 0
greatest_of (n ∷ numbers) = max n (greatest_of numbers)

-- the number of the next layer, whatever its parent
abbrev pub next_number : History → ℕ
next_number history = greatest_of (keys history) + 1

abbrev pub with_layer : History → LayerRecord → History
with_layer history layer = insert history (next_number history) layer

-- a number is left for each term and each predicate of the layer
abbrev pub is_counted_at : History → ℕ → Bool
is_counted_at history k = nat_lt (terms_at history k) (2 ^ 32) && nat_lt (predicates_at history k) (2 ^ 32)

-- a number is left for one layer more, and for its terms and predicates
abbrev pub has_room : History → LayerRecord → Bool
has_room history layer = nat_lt (next_number history) (2 ^ 32) && is_counted_at (with_layer history layer) (next_number history)

-- the state with one layer more, which is now the newest
abbrev pub with_newest : State → LayerRecord → State
with_newest state layer = record { history = with_layer state.history layer; labels = state.labels; cursors = state.cursors; last = Some (next_number state.history) }

-- the layer is made
abbrev pub makes : State → LayerRecord → Stepped
makes state layer =
    if has_room state.history layer
    then does (with_newest state layer) (reply_text (reply.Layer (next_number state.history)))
    else refuses state refusal.Full

-- a layer without a parent, of the net additions of a body
abbrev pub base_layer : List SignedTriple → LayerRecord
base_layer body = record { parent = None; additions = net_additions empty body; removals = empty }

-- a child of layer k, of the net change of a body there
abbrev pub child_layer : History → ℕ → List SignedTriple → LayerRecord
child_layer history k body = record { parent = Some k; additions = net_additions (content_at history k) body; removals = net_removals (content_at history k) body }

-- a layer without a parent, of the triples of layer k
abbrev pub squashed_layer : History → ℕ → LayerRecord
squashed_layer history k = record { parent = None; additions = content_at history k; removals = empty }
