use Rattle.ts_model.proofs.DelimitedLaws.{answers_false}
use Rattle.ts_model.proofs.SpellingLaws.{canonical_text}
use Rattle.ts_model.proofs.canonical.is_canonical.Goals as goal

pub returns-in-Err : goal.returns-in-Err
returns-in-Err c = answers_false (λ is. c.in-Err.ensures.cases.0 (canonical_text c.args.kind c.args.bytes.now is.0))
