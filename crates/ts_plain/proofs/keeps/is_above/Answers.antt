use Rattle.std.proofs.Common.{◌≡◌, ◌<◌, [], length, refl, arith}
use Rattle.std.proofs.lemmas.List.{nil_from_length}
use Rattle.ts_plain.proofs.PlaceLaws.{lt_true, true_lt, above_the_last, last_is_below, above_none}
use Rattle.ts_plain.proofs.keeps.is_above.Goals as goal

pub returns-in-Some-clause-above : goal.returns-in-Some-clause-above
returns-in-Some-clause-above c =
    let layers = c.args.layers.now in
    let last = c.in-Some.last.now in
    let item = c.in-Some.ensures.item in
    let some : 0 < length layers = omega (arith, item.3.0) in (
      λ h. above_the_last layers last c.args.number some (item.3.1 last) c.requires.numbers_rise (true_lt last.number c.args.number h),
      λ above. lt_true last.number c.args.number (last_is_below layers last c.args.number some (item.3.1 last) above),
    )

pub returns-in-None-clause-above : goal.returns-in-None-clause-above
returns-in-None-clause-above c =
    let item = c.in-None.ensures.item in
    let none : c.args.layers.now ≡ [] = nil_from_length c.args.layers.now (omega arith) in
    (λ h. above_none c.args.layers.now c.args.number none, λ above. refl)
