use Rattle.std.proofs.Common.{◌≡◌, ◌-◌, ◌^◌, arith, bit_and, ap, ◌∙◌}
use Rattle.std.proofs.lemmas.Nat.{and_mask}
use Rattle.std.proofs.lemmas.Nat.Bits.{ones_shr}
use Rattle.ts_log.proofs.packed.low_bits.Goals as goal

pub returns : goal.returns
returns c =
    let n = c.args.count in
    ap (λ mask. bit_and c.args.word mask) (ones_shr 64 (64 - n) (omega arith))
    ∙ ap (λ k. bit_and c.args.word (2 ^ k - 1)) (let g : 64 - (64 - n) ≡ n = omega arith in g)
    ∙ and_mask c.args.word n
