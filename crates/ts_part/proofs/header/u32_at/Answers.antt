use Rattle.std.proofs.Common.{◌≡◌, ◌+◌, ◌-◌, take, drop, sym, ◌∙◌, ap, arith}
use Rattle.std.specs.Int.{w32, from_be_bytes}
use Rattle.std.proofs.lemmas.List.{length-drop, length-take-le}
use Rattle.ts_part.specs.Read.{number_at}
use Rattle.ts_part.proofs.NumberLemmas.{four_bytes}
use Rattle.ts_part.proofs.header.u32_at.Goals as goal

pub returns : goal.returns
unfolding number_at
returns c =
    let long = length-take-le 4 (drop c.args.place c.args.bytes.now) (omega (arith, length-drop c.args.place c.args.bytes.now)) in
    let four : c.args.place + 4 - c.args.place ≡ 4 = omega arith in
    rw four at c.from_be_bytes.ensures ∙ ap (from_be_bytes w32) (sym (four_bytes (take 4 (drop c.args.place c.args.bytes.now)) long))
