use denote.Shadow.{shadow}
use denote.Text.{Utf8}
use Rattle.std.specs.Prelude.{chars, length}
use Rattle.ts_model.proofs.LabelFronts.{LabelSoFar}
use Rattle.ts_model.proofs.label.after_label_rest.Given as goal

abbrev pub invariant-characters : goal.invariant-characters
invariant-characters l = LabelSoFar (chars l.text) (chars l.after) (chars l.rest) × shadow (Utf8 l.after) × shadow (Utf8 l.rest)

abbrev pub decreases-characters : goal.decreases-characters
decreases-characters l = length l.rest
