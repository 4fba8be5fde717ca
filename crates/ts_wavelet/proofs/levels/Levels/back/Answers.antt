use Rattle.std.proofs.Common.{◌+◌, ◌*◌}
use Rattle.ts_wavelet.proofs.Descents.{one_back, zero_back}
use Rattle.ts_wavelet.proofs.levels.Levels.back.Goals as goal

pub overflow_sub-result : goal.overflow_sub-result
overflow_sub-result c =
    let v = c.args.self.now in
    (one_back c.args.digit v.bits (c.args.l * v.len + c.args.start) c.args.inner c.args.before c.select1_in.result c.if-digit.true c.requires.before c.select1_in.ensures).0

pub overflow_sub-result-else-digit : goal.overflow_sub-result-else-digit
overflow_sub-result-else-digit c =
    let v = c.args.self.now in
    (zero_back c.args.digit v.bits (c.args.l * v.len + c.args.start) c.args.inner c.args.before c.select0_in.result c.if-digit.false c.requires.before c.select0_in.ensures).0

pub returns-then-digit : goal.returns-then-digit
returns-then-digit c =
    let v = c.args.self.now in
    (one_back c.args.digit v.bits (c.args.l * v.len + c.args.start) c.args.inner c.args.before c.select1_in.result c.if-digit.true c.requires.before c.select1_in.ensures).1

pub returns-else-digit : goal.returns-else-digit
returns-else-digit c =
    let v = c.args.self.now in
    (zero_back c.args.digit v.bits (c.args.l * v.len + c.args.start) c.args.inner c.args.before c.select0_in.result c.if-digit.false c.requires.before c.select0_in.ensures).1
