-- The history that layers in rising number make.
use Rattle.std.specs.Prelude.{ℕ, List, map, All}
use Rattle.std.specs.Ordering.{nat_cmp}
use Rattle.std.specs.List.Sorted.{IsStrictlySortedBy}
use Rattle.std.specs.FinMap.{from_entries}
use Rattle.ts_model.specs.Sets.{from_list}
use Rattle.ts_model.specs.History.{LayerRecord, History, IsWellKept}
use Rattle.ts_plain.specs.declared.write.PlainLayer.{PlainLayer}
use Rattle.ts_plain.specs.PlainRules.{KeepsPlainRules}

-- its parent, and its additions and removals as sets
abbrev pub record_of : PlainLayer → LayerRecord
record_of layer = record { parent = layer.parent; additions = from_list layer.additions.items; removals = from_list layer.removals.items }

abbrev pub entry_of : PlainLayer → ℕ × LayerRecord
entry_of layer = (layer.number, record_of layer)

-- each layer under its number
abbrev pub history_of : List PlainLayer → History
history_of layers = from_entries (map entry_of layers)

abbrev pub LayerKeepsRules : PlainLayer → Type 0
LayerKeepsRules layer = KeepsPlainRules layer.number layer.parent layer.additions.items layer.removals.items

-- the numbers rise, each layer keeps the rules of a plain file, and each keeps to its place
pub record AreHistory (layers : List PlainLayer) : Type 0 where
  pub numbers_rise : IsStrictlySortedBy nat_cmp (map (λ layer. layer.number) layers)
  pub rules : All LayerKeepsRules layers
  pub well_kept : IsWellKept (history_of layers)
