use Rattle.std.proofs.Common.{ap}
use Rattle.ts_labels.specs.Labels.{Table}
use Rattle.ts_labels.proofs.PlaceLaws.{get-stands, get-belongs}
use Rattle.ts_labels.proofs.table.LabelTable.get.Goals as goal

pub returns-in-Ok : goal.returns-in-Ok
returns-in-Ok c =
    get-stands c.args.name.now c.self.inside.entries.items c.as_slice.result.now c.in-Ok.place c.index.result.now c.args.self.now.labels c.self.invariant
    c.in-Ok.ensures c.as_slice.ensures.value c.index.ensures (ap (λ (t : Table). t.labels) c.self.view_is)

pub returns-in-Err : goal.returns-in-Err
returns-in-Err c =
    get-belongs c.args.name.now c.self.inside.entries.items c.as_slice.result.now c.in-Err.field-0 c.args.self.now.labels c.self.invariant
    c.in-Err.ensures c.as_slice.ensures.value (ap (λ (t : Table). t.labels) c.self.view_is)
