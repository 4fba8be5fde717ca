use denote.Shadow.{shadow}
use denote.Text.{Utf8}
use Rattle.std.specs.Prelude.{◌||◌, IsTrue, chars, length}
use Rattle.ts_model.specs.Characters.{is_letter, is_digit}
use Rattle.ts_model.proofs.Fronts.{RunSoFar}
use Rattle.ts_model.proofs.tag.after_letters_and_digits.Given as goal

abbrev pub invariant-characters : goal.invariant-characters
invariant-characters l = RunSoFar (λ c. IsTrue (is_letter c || is_digit c)) (chars l.text) (chars l.rest) × shadow (Utf8 l.rest)

abbrev pub decreases-characters : goal.decreases-characters
decreases-characters l = length l.rest
