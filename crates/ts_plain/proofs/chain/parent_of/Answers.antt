use Rattle.ts_plain.proofs.ChainLaws.{IfSome-parent}
use Rattle.ts_plain.proofs.chain.parent_of.Goals as goal

pub standing_layer-requires-clause-stands : goal.standing_layer-requires-clause-stands
standing_layer-requires-clause-stands c = IfSome-parent _ c.requires.history.well_kept c.args.layer.now c.requires.stands
