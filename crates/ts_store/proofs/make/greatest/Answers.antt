use Rattle.ts_store.proofs.NumberLaws.{greatest-some, greatest-none}
use Rattle.ts_store.proofs.make.greatest.Goals as goal

pub returns-in-Some : goal.returns-in-Some
returns-in-Some c = greatest-some c.args.layers.now c.in-Some.layer.now c.requires c.in-Some.ensures.value

pub returns-in-None : goal.returns-in-None
returns-in-None c = greatest-none c.args.layers.now c.requires c.in-None.ensures.value
