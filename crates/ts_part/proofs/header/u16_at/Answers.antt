use Rattle.std.proofs.Common.{◌≡◌, ◌+◌, ◌-◌, take, drop, sym, ◌∙◌, ap, arith}
use Rattle.std.specs.Int.{w16, from_be_bytes}
use Rattle.std.proofs.lemmas.List.{length-drop, length-take-le}
use Rattle.ts_part.specs.Read.{number_at}
use Rattle.ts_part.proofs.NumberLemmas.{two_bytes}
use Rattle.ts_part.proofs.header.u16_at.Goals as goal

pub returns : goal.returns
unfolding number_at
returns c =
    let long = length-take-le 2 (drop c.args.place c.args.bytes.now) (omega (arith, length-drop c.args.place c.args.bytes.now)) in
    let two : c.args.place + 2 - c.args.place ≡ 2 = omega arith in
    rw two at c.from_be_bytes.ensures ∙ ap (from_be_bytes w16) (sym (two_bytes (take 2 (drop c.args.place c.args.bytes.now)) long))
