use Rattle.std.proofs.Common.{◌++◌, eqb, ap, ◌∙◌}
use Rattle.std.specs.List.{dedup}
use Rattle.std.proofs.lemmas.List.Filters.{dedup_is}
use Rattle.ts_plane.proofs.write.distinct.Goals as goal

pub returns : goal.returns
returns c = dedup_is _ _ _ c.dedup.ensures.filtered ∙ ap (dedup eqb) (c.in_ok-extend_from_slice.ensures.items ∙ ap (λ ys. ys ++ c.args.numbers.now) c.in_ok-kept.ensures.items)
