use Rattle.std.proofs.Common.{subst, sym}
use Rattle.std.proofs.lemmas.List.Filters.{dedup_is}
use Rattle.ts_squash.specs.NewNumbers.{AreDifferent}
use Rattle.ts_squash.proofs.Places.{different}
use Rattle.ts_squash.proofs.renumber.distinct.Goals as goal

pub returns : goal.returns
returns c =
    subst (AreDifferent c.args.ids.items) (sym (dedup_is _ _ _ c.dedup.ensures.filtered))
    (different c.args.ids.items c.sort_unstable.new.self.items c.sort_unstable.ensures.permutation c.sort_unstable.ensures.sorted)
