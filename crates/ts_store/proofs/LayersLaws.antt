-- The lines of the layers.
use Rattle.std.proofs.Common.{◌≡◌, ℕ, Bool, true, codes, List, [], ◌∷◌, ◌++◌, All, filter, flat_map, length, map, refl, sym, ap, ◌∙◌, inr}
use Rattle.std.specs.Option.{option_and_then}
use Rattle.std.specs.FinMap.{keys}
use Rattle.std.proofs.lemmas.List.{length-map}
use Rattle.std.proofs.lemmas.List.Elements.{All-head, All-tail}
use Rattle.ts_model.specs.History.{History, LayerRecord, parent_at}
use Rattle.ts_plain.specs.declared.write.PlainLayer.{PlainLayer}
use Rattle.ts_plain.specs.Chain.{StandsIn}
use Rattle.ts_plain.specs.History.{AreHistory, history_of}
use Rattle.ts_plain.proofs.LookupLaws.{StandsIn-at}
use Rattle.ts_script.specs.Replies.{reply_text, layer_or_none}
use Rattle.ts_script.specs.declared.reply.Reply.TheVariants as reply
use Rattle.ts_model.specs.LayerText.{layer_text}
use Rattle.ts_store.specs.Leaves.{AreLines}
use Rattle.ts_store.specs.Step.{layers_text}
use Rattle.ts_store.proofs.NumberLaws.{keys-kept}

abbrev pub layer_line : PlainLayer → List ℕ
layer_line layer = reply_text (reply.LayerParent layer.number layer.parent)

-- each layer is listed
abbrev pub every : PlainLayer → Bool
every layer = true

every_one : (layers : List PlainLayer) → filter every layers ≡ layers
every_one [] = refl
every_one (layer ∷ layers) = ap (λ l. layer ∷ l) (every_one layers)

pub is_line : (layer : PlainLayer) → AreLines (layer_line layer)
is_line layer = inr (codes "layer " ++ layer_text layer.number ++ codes " parent " ++ layer_or_none layer.parent, refl)

module _ (history : History) where
  abbrev line_at : ℕ → List ℕ
  line_at k = reply_text (reply.LayerParent k (parent_at history k))

  lines_of : (layers : List PlainLayer) → All (StandsIn history) layers → flat_map line_at (map (λ layer. layer.number) layers) ≡ flat_map layer_line layers
  lines_of [] stand = refl
  lines_of (layer ∷ layers) stand =
      let parent : parent_at history layer.number ≡ layer.parent = ap (option_and_then (λ (layer : LayerRecord). layer.parent)) (All-head (StandsIn history) layer layers stand).recorded in
      let later = lines_of layers (All-tail (StandsIn history) layer layers stand) in
      λ i. reply_text (reply.LayerParent layer.number (parent i)) ++ later i

pub layers_said : (layers : List PlainLayer) → AreHistory layers → layers_text (history_of layers) ≡ flat_map layer_line (filter every layers) ++ reply_text (reply.Total (length layers))
layers_said layers are =
    let numbers = keys-kept layers are in
    let lines : flat_map (line_at (history_of layers)) (keys (history_of layers)) ≡ flat_map layer_line (filter every layers) =
    ap (flat_map (line_at (history_of layers))) numbers ∙ lines_of (history_of layers) layers (λ i d below. StandsIn-at layers i d are below) ∙ sym (ap (flat_map layer_line) (every_one layers)) in
    let count : length (keys (history_of layers)) ≡ length layers = ap length numbers ∙ length-map layers (λ (layer : PlainLayer). layer.number) in
    λ i. lines i ++ reply_text (reply.Total (count i))
