use Rattle.ts_chain.proofs.StreamLemmas.{moved-plane}
use Rattle.ts_chain.proofs.stream.PlaneStream.next.Goals as goal

pub returns-clause-rises : goal.returns-clause-rises
returns-clause-rises c = moved-plane c.args.self.now.head c.named_as-self.result c.args.self.now.comes c.args.self.now.walk c.next.new.self c.next.result c.requires.0 c.named_as-self.ensures c.next.ensures.steps
