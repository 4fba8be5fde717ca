-- The history that a new layer makes is well kept, and the layer's file stands for its step.
use Rattle.std.proofs.Common.{◌≡◌, ℕ, ◌<◌, Bool, true, false, List, [], ◌∷◌, All, Option, None, Some, IfSome, IsTrue, refl, sym, ap, ◌∙◌, subst}
use Rattle.std.specs.FinMap.{contains_key, empty}
use Rattle.std.specs.Option.{is_some, option_and_then}
use Rattle.std.proofs.lemmas.List.Elements.{All-contains, All-head}
use Rattle.ts_model.specs.TextTriple.{TextTriple, IsTriple}
use Rattle.ts_model.specs.Order.{triple_cmp, triple_cmp_total}
use Rattle.ts_model.specs.Sets.{contains, from_list}
use Rattle.ts_model.specs.History.{History, IsWellKept, LayerRecord, content_at_parent, parent_at}
use Rattle.ts_model.proofs.SetLaws.{contains-from_list}
use Rattle.ts_part.specs.Facts.{Facts}
use Rattle.ts_part.specs.Step.{StandsForStep, layer_facts}
use Rattle.ts_part.proofs.LayerStep.{layer_stands}
use Rattle.ts_chain.specs.Chain.{layer_of}
use Rattle.ts_chain.specs.Holds.{Holds}
use Rattle.ts_chain.specs.Stands.{AreStepsTo, StandsForOption}
use Rattle.ts_chain.proofs.GrownHistories.{IsLayerKept-new, IsWellKept-grown, ParentStands, get-new}
use Rattle.ts_builder.specs.Layer.{IsNewLayer, layer_of_net, with_layer}
use Rattle.ts_builder.specs.Net.{NetTriples}
use Rattle.ts_builder.proofs.NetLemmas.{contains_from_among, held_at}

-- ---- what stands for a layer, or for none

pub kept_of : (history : History) (from : Option ℕ) (parts : List Facts) → StandsForOption parts history from → IsWellKept history
kept_of history None parts stands = stands.0
kept_of history (Some k) parts stands = stands.kept

pub parent_of : (history : History) (from : Option ℕ) (parts : List Facts) → StandsForOption parts history from → ParentStands history from
parent_of history None parts stands = tt
parent_of history (Some k) parts stands = stands.there

steps_layer : (history : History) (k : ℕ) (parts : List Facts) → AreStepsTo history (Some k) parts → layer_of parts ≡ Some k
steps_layer history k [] steps = absurd steps
steps_layer history k (part ∷ parts) steps = ap (λ n. Some n) steps.0.step.number

pub layer_is : (history : History) (from : Option ℕ) (parts : List Facts) → StandsForOption parts history from → layer_of parts ≡ from
layer_is history None parts stands = ap layer_of stands.1
layer_is history (Some k) parts stands = steps_layer history k parts stands.steps

pub none_of_none : (removals : List TextTriple) → All (Holds []) removals → removals ≡ []
none_of_none [] held = refl
none_of_none (triple ∷ removals) held = absurd (All-head (Holds []) triple removals held).has.subject

removals_of_none : (history : History) (from : Option ℕ) (parts : List Facts) (removals : List TextTriple) → StandsForOption parts history from → All (Holds parts) removals
    → from ≡ None → from_list {R = triple_cmp} removals ≡ empty
removals_of_none history None parts removals stands held e = ap (from_list {R = triple_cmp}) (none_of_none removals (subst (λ parts. All (Holds parts) removals) stands.1 held))
removals_of_none history (Some k) parts removals stands held e = let none : ⊥ = cc in absurd none

pub each_of : (P : TextTriple → Type 0) (triples : List TextTriple) (q : TextTriple) → All P triples → contains (from_list {R = triple_cmp} triples) q ≡ true → P q
each_of P triples q all is =
    All-contains P triples q all (contains_from_among triples q (sym (contains-from_list triple_cmp triple_cmp_total triples q) ∙ is))

not_true : (b : Bool) → (b ≡ true → ⊥) → b ≡ false
not_true true h = absurd (h refl)
not_true false h = refl

module _ (history : History) (from : Option ℕ) (parts : List Facts) (number : ℕ) (net : NetTriples) (new : IsNewLayer history from parts number net) where
  pub kept : IsWellKept history
  kept = kept_of history from parts new.stands

  pub stood : ParentStands history from
  stood = parent_of history from parts new.stands

  pub above : IfSome from (λ p. p < number)
  above = subst (λ o. IfSome o (λ p. p < number)) (layer_is history from parts new.stands) new.over.above

  lacks : (q : TextTriple) → contains (from_list {R = triple_cmp} net.additions) q ≡ true → contains (content_at_parent history from) q ≡ false
  lacks q is =
      not_true (contains (content_at_parent history from) q) (λ there.
      each_of (λ triple. ¬ Holds parts triple) net.additions q new.change.lacks is ((held_at history from parts q new.stands (each_of IsTriple net.additions q new.added is)).1 there))

  has : (q : TextTriple) → contains (from_list {R = triple_cmp} net.removals) q ≡ true → contains (content_at_parent history from) q ≡ true
  has q is = (held_at history from parts q new.stands (each_of IsTriple net.removals q new.removed is)).0 (each_of (Holds parts) net.removals q new.change.has is)

  pub kept_grown : IsWellKept (with_layer history number from net)
  kept_grown =
      IsWellKept-grown history kept number new.fresh (layer_of_net from net)
      (IsLayerKept-new history kept number new.fresh (layer_of_net from net) new.over.some above stood new.small (λ q is. each_of IsTriple net.additions q new.added is)
      (removals_of_none history from parts net.removals new.stands new.change.has) has lacks)

  pub stands_new : IsTrue (contains_key (with_layer history number from net) number)
  stands_new = ap is_some (get-new history kept number new.fresh (layer_of_net from net))

  pub parent_is : parent_at (with_layer history number from net) number ≡ from
  parent_is = ap (option_and_then (λ (layer : LayerRecord). layer.parent)) (get-new history kept number new.fresh (layer_of_net from net))

  pub step_new : StandsForStep (with_layer history number from net) from number (layer_facts (with_layer history number from net) number)
  step_new =
      subst (λ o. StandsForStep (with_layer history number from net) o number (layer_facts (with_layer history number from net) number)) parent_is
      (layer_stands (with_layer history number from net) kept_grown number stands_new)
