use Rattle.ts_chain.proofs.ContentSize.{content_size}
use Rattle.ts_chain.proofs.StepsLink.{steps_total}
use Rattle.ts_chain.proofs.chain.Chain.counts.Goals as goal

pub returns-clause-totals : goal.returns-clause-totals
returns-clause-totals c = λ history k stands. let total = steps_total history k c.args.self.now stands in cc

pub returns-clause-content : goal.returns-clause-content
returns-clause-content c = λ history k stands. let size = content_size history k c.args.self.now stands in cc
