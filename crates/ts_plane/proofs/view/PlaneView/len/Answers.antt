use Rattle.std.proofs.Common.{length, ap, arith}
use Rattle.ts_plane.specs.Read.{parts_in}
use Rattle.ts_plane.proofs.DecodedLemmas.{length-triples_in}
use Rattle.ts_plane.proofs.view.PlaneView.len.Goals as goal

pub returns : goal.returns
returns c = omega (arith, c.len.ensures.counted, length-triples_in (parts_in c.self.inside.sections), ap length c.self.view_is)
