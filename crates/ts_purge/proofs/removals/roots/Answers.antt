use Rattle.ts_purge.specs.Rows.{numbers_of}
use Rattle.ts_purge.proofs.Pass.{seeds_more}
use Rattle.ts_purge.proofs.Search.{as_many}
use Rattle.std.proofs.Common.{sym, subst, ◌<◌}
use Rattle.ts_purge.proofs.removals.roots.Goals as goal

pub loop-number-preserved : goal.loop-number-preserved
loop-number-preserved c =
    seeds_more (numbers_of c.args.layers.now) c.args.named.now c.loop-number.number-index c.loop-number.kept.items c.place_of-place.result
    (subst (λ n. c.place_of-place.result < n) (sym (as_many c.args.layers.now)) c.place_of-place.ensures.within) c.place_of-place.ensures.is c.loop-number.invariant
