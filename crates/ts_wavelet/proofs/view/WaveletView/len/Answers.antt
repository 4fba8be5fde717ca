use Rattle.std.proofs.Common.{length, sym, ap, ◌∙◌}
use Rattle.ts_wavelet.proofs.Trees.{length-tops}
use Rattle.ts_wavelet.proofs.view.WaveletView.len.Goals as goal

pub returns : goal.returns
returns c =
    let t = c.self.inside.levels in
    sym (length-tops t.len t.bits t.width) ∙ ap length c.self.view_is
