use Rattle.std.proofs.Common.{arith}
use Rattle.ts_bits.proofs.Lookups.{holds, bit_is}
use Rattle.ts_bits.proofs.view.BitView.get.Goals as goal

pub word-word-requires : goal.word-word-requires
word-word-requires c = let h = holds c.args.self.now _ _ _ _ c.self.view_is c.self.invariant.ranked in omega (arith, h.len)

pub returns : goal.returns
returns c =
    let h = holds c.args.self.now _ _ _ _ c.self.view_is c.self.invariant.ranked in
    bit_is _ _ _ _ _ h c.args.i c.word-word.result c.requires c.word-word.ensures
