-- Layers of which each is the parent of the next, the first one a base: what they hold, and where a term is born.
use Rattle.std.specs.Prelude.{◌≡◌, ℕ, Bool, List, map, fold, reverse, Option, Some, All}
use Rattle.std.specs.FinMap.{empty, get}
use Rattle.std.specs.List.{list_any}
use Rattle.ts_model.specs.TextTerm.{TextTerm}
use Rattle.ts_model.specs.Order.{triple_cmp}
use Rattle.ts_model.specs.Sets.{SetOf, from_list, union, difference}
use Rattle.ts_model.specs.History.{History, chain_of}
use Rattle.ts_model.specs.Birth.{has_term, first_place}
use Rattle.ts_plain.specs.declared.write.PlainLayer.{PlainLayer}
use Rattle.ts_plain.specs.History.{record_of, LayerKeepsRules}

-- what is left of the triples below, with the layer's additions
abbrev pub content_above : SetOf triple_cmp → PlainLayer → SetOf triple_cmp
content_above below layer = union (difference below (from_list layer.removals.items)) (from_list layer.additions.items)

-- the triples of the last layer
abbrev pub content_over : List PlainLayer → SetOf triple_cmp
content_over layers = fold content_above empty layers

-- the term stands in one of the layer's additions
abbrev pub is_mentioned : TextTerm → PlainLayer → Bool
is_mentioned term layer = list_any (has_term term) layer.additions.items

-- the place of the first layer that mentions the term
abbrev pub birth_over : List PlainLayer → TextTerm → Option ℕ
birth_over layers term = first_place (is_mentioned term) layers

-- the layer is one of the history's, and keeps the rules
pub record StandsIn (history : History) (layer : PlainLayer) : Type 0 where
  pub recorded : get history layer.number ≡ Some (record_of layer)
  pub rules : LayerKeepsRules layer

-- the chain of a layer, the base first
pub record IsChain (history : History) (number : ℕ) (layers : List PlainLayer) : Type 0 where
  pub numbers : map (λ layer. layer.number) layers ≡ reverse (chain_of history number)
  pub stand : All (StandsIn history) layers
