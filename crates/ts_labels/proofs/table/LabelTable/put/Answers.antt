use Rattle.std.proofs.Common.{◌≡◌, ◌+◌, ◌-◌, ◌<◌, true, false, sym, ap, ◌∙◌, arith}
use Rattle.std.specs.Prelude.{if◌then◌else◌, IsOk, is_ok, vec_len, vec_capacity}
use Rattle.std.specs.FinMap.{contains_key}
use Rattle.std.specs.List.{slice_set}
use Rattle.ts_labels.specs.Labels.{Table}
use Rattle.ts_labels.proofs.PlaceLaws.{IsPut, put-stands, put-belongs, contains-stands, contains-belongs}
use Rattle.ts_labels.proofs.table.LabelTable.put.Goals as goal

-- ---- a name that stands

stands : (c : goal.After-self-1) → IsPut c.args.name c.args.label c.self.inside.entries.items (slice_set c.self.inside.entries.items c.in-Ok.place (c.index_mut.result.now.0, c.args.label)) c.args.self.now.labels
stands c =
    put-stands c.args.name c.args.label c.self.inside.entries.items c.as_slice.result.now c.in-Ok.place c.index_mut.result.now c.args.self.now.labels c.self.invariant
    (ap (λ (t : Table). t.labels) c.self.view_is) c.in-Ok.ensures c.as_slice.ensures.value c.index_mut.ensures.value

pub invariant_of-self : goal.invariant_of-self
invariant_of-self c = (stands c).rises

pub returns-in-Ok-clause-labels : goal.returns-in-Ok-clause-labels
returns-in-Ok-clause-labels c = (stands c).map_is

pub returns-in-Ok-clause-spare : goal.returns-in-Ok-clause-spare
returns-in-Ok-clause-spare c =
    let spare = c.args.self.now.spare in
    let known : contains_key c.args.self.now.labels c.args.name ≡ true =
    contains-stands c.args.name c.self.inside.entries.items c.as_slice.result.now c.in-Ok.place c.index_mut.result.now c.args.self.now.labels c.self.invariant
    c.in-Ok.ensures c.as_slice.ensures.value c.index_mut.ensures.value (ap (λ (t : Table). t.labels) c.self.view_is) in
    ap (λ (t : Table). t.spare) c.self.view_is ∙ sym (ap (λ b. if b then spare else spare - 1) known)

-- ---- a new name

pub unwrap-requires : goal.unwrap-requires
unwrap-requires c =
    let new_name : contains_key c.args.self.now.labels c.args.name ≡ false =
    contains-belongs c.args.name c.self.inside.entries.items c.as_slice.result.now c.in-Err.place c.args.self.now.labels c.self.invariant
    c.in-Err.ensures c.as_slice.ensures.value (ap (λ (t : Table). t.labels) c.self.view_is) in
    let spare_is : vec_capacity c.self.inside.entries - vec_len c.self.inside.entries ≡ c.args.self.now.spare = ap (λ (t : Table). t.spare) c.self.view_is in
    c.insert.ensures.succeeds (omega (arith, spare_is, c.requires new_name))

belongs : (c : goal.After-unwrap) → IsPut c.args.name c.args.label c.self.inside.entries.items c.insert.new.self.items c.args.self.now.labels
belongs c =
    let ok : IsOk c.insert.result = ap is_ok c.unwrap.ensures in
    let made = rw ok at c.insert.ensures.items in
    put-belongs c.args.name c.args.label c.self.inside.entries.items c.as_slice.result.now c.insert.new.self.items c.in-Err.place c.args.self.now.labels c.self.invariant
    (ap (λ (t : Table). t.labels) c.self.view_is) c.in-Err.ensures c.as_slice.ensures.value made

pub invariant_of-self-in-Err : goal.invariant_of-self-in-Err
invariant_of-self-in-Err c = (belongs c).rises

pub returns-in-Err-clause-labels : goal.returns-in-Err-clause-labels
returns-in-Err-clause-labels c = (belongs c).map_is

pub returns-in-Err-clause-spare : goal.returns-in-Err-clause-spare
returns-in-Err-clause-spare c =
    let new_name : contains_key c.args.self.now.labels c.args.name ≡ false =
    contains-belongs c.args.name c.self.inside.entries.items c.as_slice.result.now c.in-Err.place c.args.self.now.labels c.self.invariant
    c.in-Err.ensures c.as_slice.ensures.value (ap (λ (t : Table). t.labels) c.self.view_is) in
    let spare = c.args.self.now.spare in
    let spare_is : vec_capacity c.self.inside.entries - vec_len c.self.inside.entries ≡ spare = ap (λ (t : Table). t.spare) c.self.view_is in
    let room : vec_len c.self.inside.entries < vec_capacity c.self.inside.entries = omega (arith, spare_is, c.requires new_name) in
    let block = c.insert.ensures.in_place room in
    let ok : IsOk c.insert.result = ap is_ok c.unwrap.ensures in
    let longer : vec_len c.insert.new.self ≡ vec_len c.self.inside.entries + 1 = rw ok at c.insert.ensures.len in
    let less : vec_capacity c.insert.new.self - vec_len c.insert.new.self ≡ spare - 1 = omega (arith, spare_is, longer, block.1.0) in
    less ∙ sym (ap (λ b. if b then spare else spare - 1) new_name)
