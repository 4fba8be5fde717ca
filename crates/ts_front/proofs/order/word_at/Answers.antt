use Rattle.std.proofs.Common.{◌≡◌, ◌-◌, ◌+◌, length, take, drop, get_or, arith, ap, sym, ◌∙◌}
use Rattle.std.proofs.lemmas.List.{length-take-le, length-drop}
use Rattle.ts_log.specs.Groups.{joined}
use Rattle.ts_log.proofs.ElementLemmas.{from_be_bytes-joined, eight_bytes}
use Rattle.ts_front.proofs.order.word_at.Goals as goal

pub returns : goal.returns
returns c =
    let word = take 8 (drop c.args.at c.args.bytes.now) in
    let many : length word ≡ 8 =
    length-take-le 8 (drop c.args.at c.args.bytes.now) (omega (arith, length-drop c.args.at c.args.bytes.now)) in
    let eight : c.args.at + 8 - c.args.at ≡ 8 = omega arith in
    let h = rw eight at c.from_be_bytes.ensures in
    h ∙ from_be_bytes-joined (get_or word 0 0) (get_or word 1 0) (get_or word 2 0) (get_or word 3 0) (get_or word 4 0) (get_or word 5 0) (get_or word 6 0) (get_or word 7 0) ∙ ap (joined 8) (sym (eight_bytes word many))
