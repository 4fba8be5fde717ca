use Rattle.std.proofs.Common.{sym}
use Rattle.ts_bits.proofs.Lookups.{holds}
use Rattle.ts_bits.proofs.view.BitView.len.Goals as goal

pub returns : goal.returns
returns c = let h = holds c.args.self.now _ _ _ _ c.self.view_is c.self.invariant.ranked in sym h.len
