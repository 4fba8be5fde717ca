use Rattle.std.proofs.Common.{map, ap, ◌∙◌, take_all}
use Rattle.std.specs.List.{dedup}
use Rattle.std.proofs.lemmas.List.Filters.{dedup_is}
use Rattle.ts_plane.specs.Parts.{pair_of, same_pair, pairs_of}
use Rattle.ts_plane.proofs.write.pairs_of.Goals as goal

pub returns : goal.returns
unfolding pairs_of
returns c = dedup_is _ _ _ c.dedup.ensures.filtered ∙ ap (dedup same_pair) (c.loop-t.invariant ∙ ap (map pair_of) (take_all c.loop-t.t-index c.args.triples.now c.loop-t-test.false))
