-- What a command does that opens a cursor, fetches from it or closes it.
use Rattle.std.specs.Prelude.{ℕ, nat_lt, if◌then◌else◌, List, ◌++◌, take, drop, length, flat_map, Result, Ok, Err}
use Rattle.std.specs.FinMap.{contains_key, insert, len, remove}
use Rattle.ts_model.specs.TextTriple.{TextTriple}
use Rattle.ts_nt.specs.TripleLine.{triple_line}
use Rattle.ts_script.specs.Replies.{reply_text}
use Rattle.ts_script.specs.declared.reply.Reply.{Reply}
use Rattle.ts_script.specs.declared.reply.Reply.TheVariants as reply
use Rattle.ts_script.specs.declared.reply.Refusal.{Refusal}
use Rattle.ts_script.specs.declared.reply.Refusal.TheVariants as refusal
use Rattle.ts_store.specs.Cursors.{Cursors, most_cursors}
use Rattle.ts_store.specs.State.{State}
use Rattle.ts_store.specs.Stepped.{Stepped, does}

-- a cursor of this name may be opened: none is open under it, and one more may be
abbrev pub opening : Cursors → List ℕ → Result (Unit {0}) Refusal
opening cursors name =
    if contains_key cursors name then Err (refusal.CursorTaken name)
    else (if nat_lt (len cursors) most_cursors then Ok tt else Err refusal.CursorsFull)

-- the state in which these are the open cursors
abbrev pub with_cursors : State → Cursors → State
with_cursors state cursors = record { history = state.history; labels = state.labels; cursors = cursors; last = state.last }

-- a cursor is opened that has these triples to give
abbrev pub opens : State → List ℕ → List TextTriple → Stepped
opens state name triples = does (with_cursors state (insert state.cursors name triples)) (reply_text (reply.CursorOpen name))

-- whether a cursor was at its end before so many triples: it had fewer
abbrev pub fetch_end : ℕ → List TextTriple → Reply
fetch_end n left = if nat_lt (length left) n then reply.AtEnd else reply.More

-- a line for each of the first n triples, and whether they were fewer
abbrev pub fetched_text : ℕ → List TextTriple → List ℕ
fetched_text n left = flat_map triple_line (take n left) ++ reply_text (fetch_end n left)

-- the first n triples of a cursor are given, and the others are left to it
abbrev pub fetches : State → List ℕ → ℕ → List TextTriple → Stepped
fetches state name n left = does (with_cursors state (insert state.cursors name (drop n left))) (fetched_text n left)

-- the cursor is gone
abbrev pub closes : State → List ℕ → Stepped
closes state name = does (with_cursors state (remove state.cursors name)) (reply_text (reply.CursorClosed name))
