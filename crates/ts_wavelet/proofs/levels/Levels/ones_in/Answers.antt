use Rattle.std.proofs.Common.{ℕ, ◌+◌, ◌*◌, ap, arith}
use Rattle.ts_bits.specs.Rank.{rank}
use Rattle.ts_bits.proofs.Ranks.{rank-mono}
use Rattle.ts_wavelet.proofs.levels.Levels.ones_in.Goals as goal

pub returns-then-start-end : goal.returns-then-start-end
returns-then-start-end c =
    let t = c.args.self.now in
    let same = ap (λ (k : ℕ). rank t.bits (c.args.l * t.len + k)) c.if-start-end.true in
    omega (arith, same)

pub overflow_sub-result : goal.overflow_sub-result
overflow_sub-result c =
    let t = c.args.self.now in
    let mono = rank-mono t.bits (c.args.l * t.len + c.args.start) (c.args.l * t.len + c.args.end) (omega arith) in
    omega (arith, mono.0)
