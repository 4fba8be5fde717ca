use Rattle.std.proofs.Common.{true, length, arith}
use Rattle.ts_bits.proofs.BitKinds.{kind_mono, range_brackets}
use Rattle.ts_bits.proofs.view.BitView.select1_in.Goals as goal

pub place_of-requires-clause-some : goal.place_of-requires-clause-some
place_of-requires-clause-some c =
    let mono = kind_mono true c.args.self.now c.args.to (length c.args.self.now) c.requires.within in
    omega (arith, mono)

pub place_of-requires-clause-between : goal.place_of-requires-clause-between
place_of-requires-clause-between c =
    range_brackets true c.args.self.now c.args.from c.args.to c.args.n c.div_ceil.result c.requires.order c.requires.within c.requires.low c.requires.high c.div_ceil.ensures
