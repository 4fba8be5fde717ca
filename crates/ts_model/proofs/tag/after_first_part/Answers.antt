use Rattle.std.proofs.Common.{IsTrue}
use Rattle.ts_model.specs.Characters.{is_letter}
use Rattle.ts_model.proofs.Fronts.{some_part, no_part_left}
use Rattle.ts_model.proofs.tag.after_first_part.Goals as goal

pub returns-then-rest-text : goal.returns-then-rest-text
returns-then-rest-text c = some_part (λ c. IsTrue (is_letter c)) _ _ c.utf8.text c.after_letters-rest.utf8 c.after_letters-rest.ensures c.if-rest-text.true

pub returns-else-rest-text : goal.returns-else-rest-text
returns-else-rest-text c = no_part_left (λ c. IsTrue (is_letter c)) _ _ c.utf8.text c.after_letters-rest.utf8 c.after_letters-rest.ensures c.if-rest-text.false
