-- What the layers of a chain add, one layer at a time.
use Rattle.std.proofs.Common.{◌≡◌, ◌++◌, Some, flat_map, ap, ◌∙◌}
use Rattle.std.specs.Option.{option_map}
use Rattle.ts_model.specs.Order.{triple_cmp, triple_cmp_total, triple_cmp-IsAntisymmetric}
use Rattle.ts_model.specs.Sets.{members}
use Rattle.ts_model.specs.History.{LayerRecord, History, IsWellKept, additions_at, set_or_none}
use Rattle.ts_model.proofs.HistoryLaws.{chain_of-parent}
use Rattle.ts_model.proofs.SetAlgebra.{members-from_rising}
use Rattle.ts_plain.specs.declared.write.PlainLayer.{PlainLayer}
use Rattle.ts_plain.specs.Chain.{StandsIn}
use Rattle.ts_plain.specs.History.{record_of}
use Rattle.ts_plain.proofs.GrowthLaws.{added_from}

pub added_from-layer : (history : History) → IsWellKept history → (layer : PlainLayer) → StandsIn history layer
    → added_from history (Some layer.number) ≡ layer.additions.items ++ added_from history layer.parent
added_from-layer history kept layer stands =
    ap (flat_map (λ j. members (additions_at history j))) (chain_of-parent history kept layer.number (record_of layer) stands.recorded)
    ∙ ap (λ l. l ++ added_from history layer.parent) (
    ap (λ o. members (set_or_none (option_map (λ (layer : LayerRecord). layer.additions) o))) stands.recorded
    ∙ members-from_rising triple_cmp triple_cmp_total triple_cmp-IsAntisymmetric layer.additions.items stands.rules.additions_rise
    )
