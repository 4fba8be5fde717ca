use Rattle.std.proofs.Common.{rules}
use Rattle.ts_model.specs.Literal.{IsTag}
use Rattle.ts_model.proofs.WholeTextLaws.{nothing_left, no_front}
use Rattle.ts_model.proofs.DelimitedLaws.{answers_false, followed, is_empty_text}
use Rattle.ts_model.proofs.canonical_tag.is_tag.Goals as goal

pub returns-in-Some : goal.returns-in-Some
returns-in-Some c = followed (is_empty_text _ _ c.is_empty.ensures) (nothing_left IsTag _ _ (search rules) c.in-Some.ensures)

pub returns-in-None : goal.returns-in-None
returns-in-None c = answers_false (no_front IsTag _ c.in-None.ensures)
