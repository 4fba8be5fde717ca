use Rattle.ts_plain.proofs.ChainLaws.{IfNone-standing}
use Rattle.ts_plain.proofs.chain.standing_layer.Goals as goal

pub returns-in-Some-clause-none : goal.returns-in-Some-clause-none
returns-in-Some-clause-none c = IfNone-standing _ c.args.number c.in-Some.number c.requires.stands c.in-Some.is c.layer_at.result c.layer_at.ensures.none
