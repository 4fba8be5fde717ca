use Rattle.ts_plane.proofs.RowSteps.{refuted, no_edge}
use Rattle.std.proofs.Common.{arith}
use Rattle.ts_plane.proofs.objects.has_edge.Goals as goal

pub returns-then-q-rows : goal.returns-then-q-rows
returns-then-q-rows c = refuted (no_edge c.args.triples.now c.args.q c.args.x c.requires.whole (omega (arith, c.rows.ensures, c.if-q-rows.true)))
