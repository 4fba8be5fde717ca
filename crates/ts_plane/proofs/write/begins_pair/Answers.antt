use Rattle.std.proofs.Common.{◌∙◌}
use Rattle.ts_plane.proofs.PlaceLemmas.{same_when, same_unless, behind_mark}
use Rattle.ts_plane.proofs.write.begins_pair.Goals as goal
use Rattle.ts_plane.proofs.write.begins_pair.Goals.{then-t-before, else-t-before}

pub returns : goal.returns
returns c = elim c.if-t-before.branch [
  | then-t-before w ↦ same_when _ _ _ w.if-t-before.true w.result-is ∙ behind_mark c.args.triples.now c.args.i _ c.if-i-eq0.false c.requires
  | else-t-before w ↦ same_unless _ _ _ w.if-t-before.false w.result-is ∙ behind_mark c.args.triples.now c.args.i _ c.if-i-eq0.false c.requires
]
