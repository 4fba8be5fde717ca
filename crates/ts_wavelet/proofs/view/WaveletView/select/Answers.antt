use Rattle.ts_wavelet.specs.Nodes.{tops_in}
use Rattle.ts_wavelet.proofs.Trees.{length-tops}
use Rattle.ts_wavelet.proofs.Descents.{select_iff}
use Rattle.ts_wavelet.proofs.view.WaveletView.select.Goals as goal

pub returns-clause-none : goal.returns-clause-none
returns-clause-none c =
    let t = c.self.inside.levels in
    select_iff c.args.self.now (tops_in t.len t.bits t.width) c.args.p c.args.n t.len c.select.result c.self.view_is (length-tops t.len t.bits t.width) c.select.ensures.none c.select.ensures.some
