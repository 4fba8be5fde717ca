use Rattle.std.proofs.Common.{◌≡◌, ap, ◌∙◌, arith}
use Rattle.ts_bits.specs.BitKinds.{of_kind, kind_rank}
use Rattle.ts_bits.proofs.Ranks.{rank-le}
use Rattle.ts_wavelet.proofs.Descents.{kind_after}
use Rattle.ts_wavelet.proofs.levels.Levels.bit_from.Goals as goal

pub kind_before-before-requires : goal.kind_before-before-requires
kind_before-before-requires c = omega (arith, rank-le c.args.self.now.bits c.args.start, c.requires.ones)

pub returns-clause-after : goal.returns-clause-after
returns-clause-after c =
    let e : c.kind_before-before.result ≡ kind_rank c.args.digit c.args.self.now.bits c.args.start = c.kind_before-before.ensures ∙ ap (of_kind c.args.digit c.args.start) c.requires.ones in
    kind_after c.args.digit c.args.self.now.bits _ c.args.start c.place_near.result c.place_near.ensures (omega (arith, e))
