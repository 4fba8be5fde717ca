use Rattle.std.proofs.Common.{length, sym, ap, ◌∙◌}
use Rattle.ts_log.proofs.ElementLemmas.{length-elements_in}
use Rattle.ts_log.proofs.view.LogView.len.Goals as goal

pub returns : goal.returns
returns c =
    let v = c.self.inside in
    sym (length-elements_in v.width v.count v.words.now) ∙ ap length c.self.view_is
