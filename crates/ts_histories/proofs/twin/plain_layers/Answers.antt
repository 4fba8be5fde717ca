use Rattle.std.proofs.Common.{sym, subst}
use Rattle.ts_plain.specs.History.{AreHistory}
use Rattle.ts_plain.proofs.PlaceLaws.{AreHistory-none}
use Rattle.ts_histories.proofs.twin.plain_layers.Goals as goal

pub loop-layer-init : goal.loop-layer-init
loop-layer-init c = subst AreHistory (sym c.new-plain.ensures.items) AreHistory-none
