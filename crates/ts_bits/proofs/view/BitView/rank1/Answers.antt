use Rattle.std.proofs.Common.{arith}
use Rattle.ts_bits.proofs.Lookups.{holds}
use Rattle.ts_bits.proofs.view.BitView.rank1.Goals as goal

pub rank1-requires-clause-within : goal.rank1-requires-clause-within
rank1-requires-clause-within c =
    let h = holds c.args.self.now _ _ _ _ c.self.view_is c.self.invariant.ranked in omega (arith, h.len)
