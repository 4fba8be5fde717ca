use Rattle.std.proofs.Common.{subst}
use Rattle.ts_chain.specs.Streams.{all_named}
use Rattle.ts_chain.specs.Rising.{AreRising}
use Rattle.ts_chain.proofs.StreamLemmas.{rising-named}
use Rattle.ts_chain.proofs.stream.Stream.of_walk.Goals as goal

pub returns-clause-rises : goal.returns-clause-rises
returns-clause-rises c = (subst (λ l. AreRising (all_named c.args.comes l)) c.in_ok-triple.ensures.steps (rising-named c.args.comes c.args.walk c.requires), tt)
