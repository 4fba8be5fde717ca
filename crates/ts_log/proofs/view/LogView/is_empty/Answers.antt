use Rattle.std.proofs.Common.{◌≡◌, length, sym, ap, ◌∙◌, arith}
use Rattle.std.proofs.lemmas.Bool.Decides.{nat_tests}
use Rattle.ts_log.proofs.ElementLemmas.{length-elements_in}
use Rattle.ts_log.proofs.view.LogView.is_empty.Goals as goal

pub returns : goal.returns
returns c =
    let v = c.self.inside in
    let many : v.count ≡ length c.args.self.now =
    sym (length-elements_in v.width v.count v.words.now) ∙ ap length c.self.view_is in
    rw (← many) (grind (arith, nat_tests))
