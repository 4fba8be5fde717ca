use Rattle.std.proofs.Common.{sym, subst}
use Rattle.ts_plain.specs.History.{AreHistory}
use Rattle.ts_plain.proofs.PlaceLaws.{AreHistory-none}
use Rattle.ts_plain.proofs.tests.history.Goals as goal

pub loop-file-init : goal.loop-file-init
loop-file-init c = subst AreHistory (sym c.new-layers.ensures.items) AreHistory-none
