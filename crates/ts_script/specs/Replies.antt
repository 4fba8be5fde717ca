-- What is told of a command, a line each.
use Rattle.std.specs.Prelude.{ℕ, List, [], ◌∷◌, ◌++◌, codes, decimal, Option, Some, None}
use Rattle.ts_model.specs.LayerText.{layer_text}
use Rattle.ts_script.specs.Words.{layer_word}
use Rattle.ts_script.specs.declared.reply.Reply.{Reply}
use Rattle.ts_script.specs.declared.reply.Reply.TheVariants.{Layer, LayerParent, Total, Count, Yes, No, LabelIs, CursorOpen, CursorClosed, More, AtEnd}
use Rattle.ts_script.specs.declared.reply.Refusal.{Refusal}
use Rattle.ts_script.specs.declared.reply.Refusal.TheVariants.{BadCommand, BadTriple, TooLong, Unfinished, NoLayer, NoLabel, EmptyLabel, LabelExists, Stale, VersionEnd, Full, NoCursor, CursorTaken, CursorsFull}

-- a line ends with a line feed
abbrev pub line : List ℕ → List ℕ
line text = text ++ 10 ∷ []

-- the word of a layer's parent, or of the layer that a label names
abbrev pub layer_or_none : Option ℕ → List ℕ
layer_or_none None = codes "none"
layer_or_none (Some number) = layer_text number

abbrev pub reply_text : Reply → List ℕ
reply_text (Layer number) = line (codes "layer " ++ layer_text number)
reply_text (LayerParent number parent) = line (codes "layer " ++ layer_text number ++ codes " parent " ++ layer_or_none parent)
reply_text (Total count) = line (codes "total " ++ decimal count)
reply_text (Count count) = line (codes "count " ++ decimal count)
reply_text Yes = line (codes "yes")
reply_text No = line (codes "no")
reply_text (LabelIs name version layer) = line (codes "label " ++ name ++ 32 ∷ decimal version ++ 32 ∷ layer_or_none layer)
reply_text (CursorOpen name) = line (codes "cursor " ++ name ++ codes " open")
reply_text (CursorClosed name) = line (codes "cursor " ++ name ++ codes " closed")
reply_text More = line (codes "more")
reply_text AtEnd = line (codes "end")

-- the words of a refusal
abbrev pub refusal_words : Refusal → List ℕ
refusal_words (BadCommand number) = codes "bad-command " ++ decimal number
refusal_words (BadTriple number) = codes "bad-triple " ++ decimal number
refusal_words (TooLong number) = codes "too-long " ++ decimal number
refusal_words (Unfinished number) = codes "unfinished " ++ decimal number
refusal_words (NoLayer layer) = codes "no-layer " ++ layer_word layer
refusal_words (NoLabel name) = codes "no-label " ++ name
refusal_words (EmptyLabel name) = codes "empty-label " ++ name
refusal_words (LabelExists name) = codes "label-exists " ++ name
refusal_words (Stale name version) = codes "stale " ++ name ++ 32 ∷ decimal version
refusal_words (VersionEnd name) = codes "version-end " ++ name
refusal_words Full = codes "full"
refusal_words (NoCursor name) = codes "no-cursor " ++ name
refusal_words (CursorTaken name) = codes "cursor-taken " ++ name
refusal_words CursorsFull = codes "cursors-full"

abbrev pub refusal_text : Refusal → List ℕ
refusal_text refusal = line (codes "refused " ++ refusal_words refusal)
