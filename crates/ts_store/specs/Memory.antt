-- Where memory may run out.
use Rattle.std.specs.Prelude.{◌⊎◌, ◌≤◌, ◌^◌, Bool, true, false, IsTrue, Result, is_err}
use Rattle.std.specs.FinMap.{contains_key}
use Rattle.ts_script.specs.declared.command.Command.{Command}
use Rattle.ts_script.specs.declared.command.Command.TheVariants as command
use Rattle.ts_script.specs.declared.reply.Refusal.{Refusal}
use Rattle.ts_store.specs.Fetches.{opening}
use Rattle.ts_store.specs.Makes.{next_number}
use Rattle.ts_store.specs.Resolve.{find_cursor, find_layer, find_ref}
use Rattle.ts_store.specs.State.{State}

-- the commands that change no file: all but those that make a layer, and those that make a label or move one
abbrev pub ChangesNoFile : Command → Type 0
ChangesNoFile (command.Base body) = ⊥
ChangesNoFile (command.Commit at body) = ⊥
ChangesNoFile (command.Squash at) = ⊥
ChangesNoFile (command.LabelNew name) = ⊥
ChangesNoFile (command.LabelSet name version to) = ⊥
ChangesNoFile _ = Unit {0}

-- the commands whose reply is a line for each of some triples: memory may run out between two of them
abbrev pub is_listing : Command → Bool
is_listing (command.Listing at pattern) = true
is_listing (command.Added layer) = true
is_listing (command.Removed layer) = true
is_listing (command.Fetch name n) = true
is_listing _ = false

-- nothing was found
abbrev pub IsMissing : {A : Type 0} → Result A Refusal → Type 0
IsMissing found = IsTrue (is_err found)

-- Steps that never want memory: those that are refused by a line, by a name, by the greatest number of a layer, or by the cursors that
-- are open; the layers; of labels all but making one; and closing a cursor.
abbrev pub TakesNoMemory : State → Command → Type 0
TakesNoMemory state (command.BadCommand line) = Unit {0}
TakesNoMemory state (command.BadTriple line) = Unit {0}
TakesNoMemory state (command.TooLong line) = Unit {0}
TakesNoMemory state (command.Unfinished line) = Unit {0}
TakesNoMemory state (command.Base body) = 2 ^ 32 ≤ next_number state.history
TakesNoMemory state (command.Commit at body) = IsMissing (find_ref state at) ⊎ (2 ^ 32 ≤ next_number state.history)
TakesNoMemory state (command.Listing at pattern) = IsMissing (find_ref state at)
TakesNoMemory state (command.Has at triple) = IsMissing (find_ref state at)
TakesNoMemory state (command.Count at pattern) = IsMissing (find_ref state at)
TakesNoMemory state (command.Added layer) = IsMissing (find_layer state layer)
TakesNoMemory state (command.Removed layer) = IsMissing (find_layer state layer)
TakesNoMemory state command.Layers = Unit {0}
TakesNoMemory state command.Labels = Unit {0}
TakesNoMemory state (command.LabelNew name) = IsTrue (contains_key state.labels name)
TakesNoMemory state (command.LabelGet name) = Unit {0}
TakesNoMemory state (command.LabelSet name version to) = Unit {0}
TakesNoMemory state (command.Squash at) = IsMissing (find_ref state at) ⊎ (2 ^ 32 ≤ next_number state.history)
TakesNoMemory state (command.OpenCursor name at pattern) = IsMissing (find_ref state at) ⊎ IsMissing (opening state.cursors name)
TakesNoMemory state (command.Fetch name n) = IsMissing (find_cursor state name)
TakesNoMemory state (command.CloseCursor name) = Unit {0}
