-- What is built for a net change over a chain that stands for a layer are the facts of the new layer.
use Rattle.std.proofs.Common.{◌≡◌, ℕ, ◌<◌, List, Option, Some, sym, ap, ◌∙◌, subst}
use Rattle.ts_model.specs.Limits.{number_limit}
use Rattle.ts_model.specs.declared.term.TermKind.TheVariants.{Node, Predicate, Value}
use Rattle.ts_model.specs.History.{History, parent_at}
use Rattle.ts_part.specs.Facts.{Facts, all_predicates, all_terms}
use Rattle.ts_part.specs.Numbers.{totals_at}
use Rattle.ts_part.specs.Part.{PartSays}
use Rattle.ts_part.specs.Rules.{KeepsRules}
use Rattle.ts_part.specs.Step.{LayerSays, layer_facts, new_terms}
use Rattle.ts_part.proofs.LayerStep.{layer_totals}
use Rattle.ts_part.proofs.StepRules.{layer_rules}
use Rattle.ts_builder.specs.Layer.{AreFactsOf, IsNewLayer, with_layer}
use Rattle.ts_builder.specs.Net.{NetTriples}
use Rattle.ts_builder.proofs.GrownLayer.{kept_grown, layer_is, parent_is, stands_new}
use Rattle.ts_builder.proofs.LayerIds.{added_ids, made, made_is, removed_ids}

module _ (history : History) (from : Option ℕ) (parts : List Facts) (number : ℕ) (net : NetTriples) (new : IsNewLayer history from parts number net) where
  abbrev grown : History
  grown = with_layer history number from net

  abbrev Made : Facts
  Made = made history from parts number net new

  pub facts_are : (facts : Facts) → AreFactsOf parts number Made net facts → facts ≡ layer_facts grown number
  unfolding layer_facts
  facts_are facts are =
      let parent : from ≡ parent_at grown number = sym (parent_is history from parts number net new) in
      let lists = made_is history from parts number net new in
      let terms_before : facts.terms_before ≡ (totals_at grown (parent_at grown number)).0 =
      are.terms_before ∙ ap (λ (f : Facts). f.terms_before) lists ∙ ap (λ o. (totals_at grown o).0) parent in
      let predicates_before : facts.predicates_before ≡ (totals_at grown (parent_at grown number)).1 =
      are.predicates_before ∙ ap (λ (f : Facts). f.predicates_before) lists ∙ ap (λ o. (totals_at grown o).1) parent in
      let nodes : facts.nodes ≡ new_terms Node grown (parent_at grown number) number =
      are.nodes ∙ ap (λ (f : Facts). f.nodes) lists ∙ ap (λ o. new_terms Node grown o number) parent in
      let predicates : facts.predicates ≡ new_terms Predicate grown (parent_at grown number) number =
      are.predicates ∙ ap (λ (f : Facts). f.predicates) lists ∙ ap (λ o. new_terms Predicate grown o number) parent in
      let values : facts.values ≡ new_terms Value grown (parent_at grown number) number =
      are.values ∙ ap (λ (f : Facts). f.values) lists ∙ ap (λ o. new_terms Value grown o number) parent in
      let parents = are.parent ∙ layer_is history from parts new.stands ∙ parent in
      let additions = added_ids history from parts number net new facts.additions are.additions in
      let removals = removed_ids history from parts number net new facts.removals are.removals in
      λ i. record {
        kind = are.kind i;
        number = are.number_is i;
        parent = parents i;
        terms_before = terms_before i;
        predicates_before = predicates_before i;
        nodes = nodes i;
        predicates = predicates i;
        values = values i;
        additions = additions i;
        removals = removals i;
        term_map = are.term_map i;
        predicate_map = are.predicate_map i;
      }

  pub layer_says : (facts : Facts) (file : List ℕ) → AreFactsOf parts number Made net facts → all_terms facts < number_limit → all_predicates facts < number_limit
      → (KeepsRules facts → PartSays file facts) → LayerSays file grown number
  layer_says facts file are terms predicates says =
      let same = facts_are facts are in
      let totals = layer_totals grown (kept_grown history from parts number net new) number (stands_new history from parts number net new) in
      let terms_fit : (totals_at grown (Some number)).0 < number_limit = subst (λ n. n < number_limit) (ap all_terms same ∙ ap (λ (t : ℕ × ℕ). t.0) totals) terms in
      let predicates_fit : (totals_at grown (Some number)).1 < number_limit = subst (λ n. n < number_limit) (ap all_predicates same ∙ ap (λ (t : ℕ × ℕ). t.1) totals) predicates in
      let rules : KeepsRules (layer_facts grown number) =
      layer_rules grown (kept_grown history from parts number net new) number (stands_new history from parts number net new) terms_fit predicates_fit in
      subst (PartSays file) same (says (subst KeepsRules (sym same) rules))
