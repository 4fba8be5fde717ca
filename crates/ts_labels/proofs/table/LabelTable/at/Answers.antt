use Rattle.std.proofs.Common.{◌≡◌, ◌<◌, ℕ, List, length, Some, ap, ◌∙◌, arith}
use Rattle.ts_labels.specs.Labels.{Table}
use Rattle.ts_labels.proofs.PlaceLaws.{Entries, len_is, entry_is}
use Rattle.ts_labels.proofs.table.LabelTable.at.Goals as goal

below : (c : goal.After-as_slice) → c.args.i < length c.as_slice.result.now
below c =
    let same = len_is c.self.inside.entries.items c.args.self.now.labels c.self.invariant (ap (λ (t : Table). t.labels) c.self.view_is) in
    let lent : length c.as_slice.result.now ≡ length c.self.inside.entries.items = ap (λ (zs : Entries). length zs) c.as_slice.ensures.value in
    omega (arith, same, lent, c.requires)

pub bounds-as_slice-i : goal.bounds-as_slice-i
bounds-as_slice-i c = below c

pub offset_bounds-as_slice-i : goal.offset_bounds-as_slice-i
offset_bounds-as_slice-i c = omega (arith, below c, c.as_slice.type_inv.1)

pub returns : goal.returns
returns c =
    let same = len_is c.self.inside.entries.items c.args.self.now.labels c.self.invariant (ap (λ (t : Table). t.labels) c.self.view_is) in
    let lent : length c.as_slice.result.now ≡ length c.self.inside.entries.items = ap (λ (zs : Entries). length zs) c.as_slice.ensures.value in
    ap (λ (n : List ℕ). Some (n, c.index-as_slice-i.result.1)) c.copy.ensures
    ∙ entry_is c.self.inside.entries.items c.as_slice.result.now c.args.self.now.labels c.args.i c.index-as_slice-i.result c.self.invariant
    (ap (λ (t : Table). t.labels) c.self.view_is) c.as_slice.ensures.value (omega (arith, same, lent, c.requires)) c.index-as_slice-i.is
