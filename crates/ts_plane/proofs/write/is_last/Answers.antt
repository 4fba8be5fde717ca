use Rattle.std.proofs.Common.{eqb, sym, arith}
use Rattle.ts_plane.proofs.GroupMembers.{mark_at, mark_last}
use Rattle.ts_plane.proofs.write.is_last.Goals as goal

pub returns : goal.returns
returns c =
    let apart = c.if-i-keys.false in
    sym (mark_at eqb c.args.keys.now c.args.i 0 (omega arith))

pub returns-then-i-keys : goal.returns-then-i-keys
returns-then-i-keys c = sym (mark_last eqb c.args.keys.now c.args.i c.if-i-keys.true)
