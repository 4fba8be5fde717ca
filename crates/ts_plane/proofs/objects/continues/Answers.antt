use Rattle.std.proofs.Common.{arith}
use Rattle.ts_plane.proofs.RowSteps.{continues_iff}
use Rattle.ts_plane.proofs.objects.continues.Goals as goal

pub returns-then-j-gt0 : goal.returns-then-j-gt0
returns-then-j-gt0 c = continues_iff c.args.rows.now.ends c.args.j c.is_last.result (omega (arith, c.if-j-gt0.true)) c.is_last.ensures
