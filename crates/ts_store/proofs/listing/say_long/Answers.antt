use Rattle.std.proofs.Common.{◌++◌, ◌∙◌, List, ℕ, take, drop, ap}
use Rattle.ts_store.specs.declared.stop.Stop.TheVariants.{OutputFault}
use Rattle.ts_store.specs.Listed.{IsSaidAt}
use Rattle.ts_store.proofs.PrefixLaws.{prefix_taken}
use Rattle.ts_store.proofs.listing.say_long.Goals as goal

pub returns-in-Err-clause-told : goal.returns-in-Err-clause-told
returns-in-Err-clause-told g c =
    let piece = c.args.piece.now.items in
    let front = c.in-Err.ensures.told in (
      drop front.0 piece,
      prefix_taken (IsSaidAt OutputFault) piece (g.W.Disk.outside c.args.site.now).told (g.W.Disk.outside c.say.new.self).told front.0 tt
          (front.1 ∙ ap (λ (l : List ℕ). (g.W.Disk.outside c.args.site.now).told ++ take front.0 l) c.as_slice.ensures.value),
    )
