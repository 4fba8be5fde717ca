use Rattle.std.proofs.Common.{length, ap, arith}
use Rattle.ts_wavelet.proofs.Trees.{length-tops}
use Rattle.ts_wavelet.proofs.view.WaveletView.rank.Goals as goal

pub rank-requires : goal.rank-requires
rank-requires c =
    let t = c.self.inside.levels in
    omega (arith, length-tops t.len t.bits t.width, ap length c.self.view_is)
