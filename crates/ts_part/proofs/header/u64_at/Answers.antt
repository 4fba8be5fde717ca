use Rattle.std.proofs.Common.{◌≡◌, ◌+◌, ◌-◌, take, drop, sym, ◌∙◌, ap, arith}
use Rattle.std.specs.Int.{w64, from_be_bytes}
use Rattle.std.proofs.lemmas.List.{length-drop, length-take-le}
use Rattle.ts_log.proofs.ElementLemmas.{eight_bytes}
use Rattle.ts_part.specs.Read.{number_at}
use Rattle.ts_part.proofs.header.u64_at.Goals as goal

pub returns : goal.returns
unfolding number_at
returns c =
    let long = length-take-le 8 (drop c.args.place c.args.bytes.now) (omega (arith, length-drop c.args.place c.args.bytes.now)) in
    let eight : c.args.place + 8 - c.args.place ≡ 8 = omega arith in
    rw eight at c.from_be_bytes.ensures ∙ ap (from_be_bytes w64) (sym (eight_bytes (take 8 (drop c.args.place c.args.bytes.now)) long))
