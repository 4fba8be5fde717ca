use Rattle.std.proofs.Common.{refl}
use Rattle.ts_plain.specs.History.{history_of}
use Rattle.ts_store.proofs.NextLaws.{IsNextLayer-changed, record_of-changed}
use Rattle.ts_store.proofs.make.changed.Goals as goal

pub returns-clause-next : goal.returns-clause-next
returns-clause-next c =
    let args = c.args in
    let change = c.in_ok-change.change in
    IsNextLayer-changed (history_of args.layers.now) c.requires.history.well_kept args.parent c.requires.stands args.body.now
    (record { number = args.number; parent = args.parent; additions = change.additions; removals = change.removals })
    c.requires.number.0 refl c.in_ok-change.ensures.additions c.in_ok-change.ensures.removals c.requires.number.1.1

pub returns-clause-made : goal.returns-clause-made
returns-clause-made c =
    let args = c.args in
    let change = c.in_ok-change.change in
    record_of-changed (history_of args.layers.now) c.requires.history.well_kept args.parent c.requires.stands args.body.now
    (record { number = args.number; parent = args.parent; additions = change.additions; removals = change.removals })
    c.requires.number.0 refl c.in_ok-change.ensures.additions c.in_ok-change.ensures.removals
