use Rattle.std.proofs.Common.{length, ap, ◌∙◌}
use Rattle.ts_labels.specs.Labels.{Table}
use Rattle.ts_labels.proofs.PlaceLaws.{Entries, len_is}
use Rattle.ts_labels.proofs.table.LabelTable.len.Goals as goal

pub returns : goal.returns
returns c =
    ap (λ (zs : Entries). length zs) c.as_slice.ensures.value
    ∙ len_is c.self.inside.entries.items c.args.self.now.labels c.self.invariant (ap (λ (t : Table). t.labels) c.self.view_is)
