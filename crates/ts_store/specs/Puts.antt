-- What a command does that makes or moves a label, and the lines of labels.
use Rattle.std.specs.Prelude.{ℕ, List, ◌++◌, flat_map, Result, Ok, Err}
use Rattle.std.specs.FinMap.{entries, insert, len}
use Rattle.ts_labels.specs.Labels.{Labels}
use Rattle.ts_labels.specs.declared.label.Label.{Label}
use Rattle.ts_labels.specs.declared.label_error.LabelError.{LabelError}
use Rattle.ts_labels.specs.declared.label_error.LabelError.TheVariants as error
use Rattle.ts_script.specs.Replies.{reply_text}
use Rattle.ts_script.specs.declared.reply.Reply.TheVariants as reply
use Rattle.ts_script.specs.declared.reply.Refusal.{Refusal}
use Rattle.ts_script.specs.declared.reply.Refusal.TheVariants as refusal
use Rattle.ts_store.specs.State.{State}
use Rattle.ts_store.specs.Stepped.{Stepped, does, refuses}

abbrev pub label_line : List ℕ → Label → List ℕ
label_line name label = reply_text (reply.LabelIs name label.version label.layer)

-- a line for each label, rising by the bytes of their names, and how many they are
abbrev pub labels_text : Labels → List ℕ
labels_text labels = flat_map (λ entry. label_line entry.0 entry.1) (entries labels) ++ reply_text (reply.Total (len labels))

abbrev pub refusal_of : List ℕ → LabelError → Refusal
refusal_of name error.NoLabel = refusal.NoLabel name
refusal_of name (error.Stale current) = refusal.Stale name current
refusal_of name error.VersionEnd = refusal.VersionEnd name
refusal_of name error.LabelExists = refusal.LabelExists name

-- the state in which the name has this label
abbrev pub with_label : State → List ℕ → Label → State
with_label state name label = record { history = state.history; labels = insert state.labels name label; cursors = state.cursors; last = state.last }

-- the name has its next label, if there is one
abbrev pub puts : State → List ℕ → Result Label LabelError → Stepped
puts state name (Ok label) = does (with_label state name label) (label_line name label)
puts state name (Err error) = refuses state (refusal_of name error)
