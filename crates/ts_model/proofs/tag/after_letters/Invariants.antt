use denote.Shadow.{shadow}
use denote.Text.{Utf8}
use Rattle.std.specs.Prelude.{IsTrue, chars, length}
use Rattle.ts_model.specs.Characters.{is_letter}
use Rattle.ts_model.proofs.Fronts.{RunSoFar}
use Rattle.ts_model.proofs.tag.after_letters.Given as goal

abbrev pub invariant-letters : goal.invariant-letters
invariant-letters l = RunSoFar (λ c. IsTrue (is_letter c)) (chars l.text) (chars l.rest) × shadow (Utf8 l.rest)

abbrev pub decreases-letters : goal.decreases-letters
decreases-letters l = length l.rest
