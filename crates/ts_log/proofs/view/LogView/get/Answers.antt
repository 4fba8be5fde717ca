use Rattle.std.proofs.Common.{◌≡◌, ◌*◌, ◌^◌, ◌+◌, ◌<◌, ◌≤◌, length, get_or, sym, ap, ◌∙◌, arith}
use Rattle.std.proofs.lemmas.Nat.{mul-le}
use Rattle.ts_log.proofs.ElementLemmas.{length-elements_in, get_or-elements_in}
use Rattle.ts_log.proofs.GroupsLemmas.{Below-from_get_or}
use Rattle.ts_log.proofs.view.LogView.get.Goals as goal

pub element-requires-clause-inside : goal.element-requires-clause-inside
element-requires-clause-inside c =
    let v = c.self.inside in
    let many : v.count ≡ length c.args.self.now =
    sym (length-elements_in v.width v.count v.words.now) ∙ ap length c.self.view_is in
    let before : c.args.i + 1 ≤ v.count = omega arith in
    let within : v.width * (c.args.i + 1) ≤ v.width * v.count = mul-le v.width (c.args.i + 1) v.width v.count (omega arith) before in
    omega (arith, c.self.invariant.room)

pub returns : goal.returns
returns c =
    let v = c.self.inside in
    let many : v.count ≡ length c.args.self.now =
    sym (length-elements_in v.width v.count v.words.now) ∙ ap length c.self.view_is in
    let before : c.args.i < v.count = omega arith in
    let below = Below-from_get_or (2 ^ 8) v.words.now (λ k h. c.self.invariant.bytes_fit k 0 h) in
    c.element.ensures
    ∙ sym (get_or-elements_in v.width v.count c.args.i v.words.now below c.self.invariant.room before)
    ∙ ap (λ xs. get_or xs c.args.i 0) c.self.view_is
