use Rattle.std.proofs.Common.{refl, None}
use Rattle.ts_plain.specs.History.{history_of}
use Rattle.ts_store.proofs.NextLaws.{IsNextLayer-squashed, record_of-squashed}
use Rattle.ts_store.proofs.make.squashed.Goals as goal

pub returns-clause-next : goal.returns-clause-next
returns-clause-next c =
    let args = c.args in
    IsNextLayer-squashed (history_of args.layers.now) args.from
    (record { number = args.number; parent = None; additions = c.in_ok-additions.additions; removals = c.new.result })
    refl c.in_ok-additions.ensures c.new.ensures.items c.requires.number.0 c.requires.number.1.1

pub returns-clause-made : goal.returns-clause-made
returns-clause-made c =
    let args = c.args in
    record_of-squashed (history_of args.layers.now) args.from
    (record { number = args.number; parent = None; additions = c.in_ok-additions.additions; removals = c.new.result })
    refl c.in_ok-additions.ensures c.new.ensures.items
