use Rattle.std.proofs.Common.{◌≡◌, ◌-◌, length, take, drop, replicate, sym, ◌∙◌, ap, ap₂, arith}
use Rattle.std.proofs.lemmas.Bool.Decides.{Decides-eqb}
use Rattle.std.proofs.lemmas.List.{take_rest, take-replicate}
use Rattle.std.proofs.lemmas.Slice.Eq.{slice_eq-Decides}
use Rattle.ts_bits.specs.BitArray.{zeros_after}
use Rattle.ts_part.specs.Places.{padding}
use Rattle.ts_part.proofs.table.ends_in_zeros.Goals as goal

pub returns-then-zeros-rest : goal.returns-then-zeros-rest
returns-then-zeros-rest c =
    let bytes = c.args.bytes.now in
    let many = c.padding-zeros.result in
    let these = take many (take (length bytes - c.args.size) (drop c.args.size bytes)) in
    let left : these ≡ take (padding c.args.size) (drop c.args.size bytes) =
    ap₂ take c.padding-zeros.ensures (take_rest bytes c.args.size) in
    let right : take many (replicate 8 0) ≡ zeros_after c.args.size =
    take-replicate many 8 0 (omega (arith, c.padding-zeros.ensures)) ∙ ap (λ n. replicate n 0) c.padding-zeros.ensures in
    let same = slice_eq-Decides Decides-eqb these (take many (replicate 8 0)) c.eq.result c.eq.ensures in
    (λ t. sym left ∙ same.0 t ∙ right, λ e. same.1 (left ∙ e ∙ sym right))
