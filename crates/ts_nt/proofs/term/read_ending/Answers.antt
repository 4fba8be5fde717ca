use Rattle.std.proofs.lemmas.Result.{IfOk-weaker}
use Rattle.ts_nt.proofs.LiteralLaws.{ending_from_type, ending_from_tag}
use Rattle.ts_nt.proofs.term.read_ending.Goals as goal

pub returns-in-Some : goal.returns-in-Some
returns-in-Some c = IfOk-weaker c.read_type.result _ _ (λ found h. ending_from_type _ _ _ _ _ c.in-Some.ensures.some h) c.read_type.ensures

pub returns-in-Some-after_char : goal.returns-in-Some-after_char
returns-in-Some-after_char c = IfOk-weaker c.read_tag.result _ _ (λ found h. ending_from_tag _ _ _ _ _ c.in-Some-after_char.ensures.some h) c.read_tag.ensures
