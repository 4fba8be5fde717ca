use denote.Shadow.{shadow}
use denote.Text.{Utf8}
use Rattle.std.specs.Prelude.{chars, length}
use Rattle.ts_model.proofs.TagFronts.{OthersSoFar}
use Rattle.ts_model.proofs.tag.after_other_parts.Given as goal

abbrev pub invariant-parts : goal.invariant-parts
invariant-parts l = OthersSoFar (chars l.text) (chars l.rest) × shadow (Utf8 l.rest)

abbrev pub decreases-parts : goal.decreases-parts
decreases-parts l = length (chars l.rest)
