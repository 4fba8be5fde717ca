use Rattle.std.proofs.Common.{length, ap, arith}
use Rattle.ts_wavelet.proofs.Trees.{length-tops}
use Rattle.ts_wavelet.proofs.view.WaveletView.places_from.Goals as goal

pub new-requires : goal.new-requires
new-requires c =
    let t = c.self.inside.levels in
    omega (arith, length-tops t.len t.bits t.width, ap length c.self.view_is, c.copy.ensures.len)
