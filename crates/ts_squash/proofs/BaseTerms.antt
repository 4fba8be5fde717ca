-- A base layer with the triples of another layer has their terms, and no others.
use Rattle.std.proofs.Common.{◌≡◌, ◌⊎◌, inl, inr, ℕ, ◌<◌, ◌≤◌, true, false, ◌||◌, [], ◌∷◌, None, Some, IsTrue, refl, sym, ap, ◌∙◌, true≢false}
use Rattle.std.specs.FinMap.{contains_key, empty, get}
use Rattle.std.specs.List.{list_any}
use Rattle.std.specs.Option.{is_some, option_and_then, option_map}
use Rattle.std.proofs.lemmas.Bool.{or_cases}
use Rattle.ts_model.specs.Birth.{mentions}
use Rattle.ts_model.specs.History.{History, IsWellKept, LayerRecord, additions_at, chain_of, content_at, content_of, parent_at, removals_at, set_or_none}
use Rattle.ts_model.specs.Limits.{number_limit}
use Rattle.ts_model.specs.Order.{triple_cmp}
use Rattle.ts_model.specs.Sets.{SetOf, contains}
use Rattle.ts_model.specs.TextTerm.{TextTerm}
use Rattle.ts_model.specs.TextTriple.{TextTriple}
use Rattle.ts_model.proofs.HistoryLaws.{chain_of-parent}
use Rattle.ts_model.proofs.SetAlgebra.{contains-empty}
use Rattle.ts_model.proofs.SetLaws.{contains-members}
use Rattle.ts_part.specs.Numbers.{IsTermAt, numbered_with}
use Rattle.ts_part.specs.Step.{IsNewTerm}
use Rattle.ts_part.proofs.Births.{IsOver, over_parent_of}
use Rattle.ts_part.proofs.Mentioned.{is_numbered, numbered_nowhere}
use Rattle.ts_part.proofs.TripleTerms.{IsTripleAt, content_terms, mentioned_in, term_stands}
use Rattle.ts_chain.proofs.GrownHistories.{IsLayerKept-new, IsWellKept-grown, get-new}
use Rattle.ts_squash.specs.Squashed.{squashed}

module _ (history : History) (kept : IsWellKept history) (k n : ℕ) (positive : 1 ≤ n) (fits : n < number_limit) (fresh : contains_key history n ≡ false) where
  abbrev pub all : SetOf triple_cmp
  all = content_at history k

  abbrev pub layer : LayerRecord
  layer = record { parent = None; additions = all; removals = empty }

  abbrev pub base : History
  base = squashed history n k

  pub old_triple : (q : TextTriple) → contains all q ≡ true → IsTripleAt history (Some k) q
  old_triple q there = content_terms history kept (Some k) q there

  pub base_kept : IsWellKept base
  base_kept =
      IsWellKept-grown history kept n fresh layer
      (IsLayerKept-new history kept n fresh layer positive tt tt fits
      (λ q there. (old_triple q there).is)
      (λ _. refl)
      (λ q there. absurd (true≢false (sym there ∙ contains-empty triple_cmp q)))
      (λ q _. contains-empty triple_cmp q))

  pub is_here : get base n ≡ Some layer
  is_here = get-new history kept n fresh layer

  pub base_there : IsTrue (contains_key base n)
  base_there = ap is_some is_here

  pub parent_is : parent_at base n ≡ None
  parent_is = ap (option_and_then (λ (layer : LayerRecord). layer.parent)) is_here

  pub additions_are : additions_at base n ≡ all
  additions_are = ap (λ o. set_or_none (option_map (λ (layer : LayerRecord). layer.additions) o)) is_here

  pub removals_are : removals_at base n ≡ empty
  removals_are = ap (λ o. set_or_none (option_map (λ (layer : LayerRecord). layer.removals) o)) is_here

  pub alone : chain_of base n ≡ n ∷ []
  alone = chain_of-parent base base_kept n layer is_here

  pub content_is : content_at base n ≡ all
  content_is = ap (content_of base) alone ∙ additions_are

  -- the base has its triples' terms
  pub base_triple : (q : TextTriple) → contains all q ≡ true → IsTripleAt base (Some n) q
  base_triple q there = content_terms base base_kept (Some n) q (ap (λ set. contains set q) content_is ∙ there)

  -- and each of its terms stands in a triple
  pub stands_in : (term : TextTerm) → IsTermAt base (Some n) term → (q : TextTriple) × (contains all q ≡ true) × ((term ≡ q.subject) ⊎ ((term ≡ q.predicate) ⊎ (term ≡ q.object)))
  stands_in term there =
      let mentioned : (mentions base term n || false) ≡ true = sym (ap (list_any (mentions base term)) alone) ∙ sym (is_numbered base base_kept (Some n) term) ∙ there in
      let here : mentions base term n ≡ true = elim (or_cases (mentions base term n) false mentioned) as (λ _. mentions base term n ≡ true) [ inl is ↦ is | inr never ↦ absurd (true≢false (sym never)) ] in
      let found = mentioned_in base base_kept term n here in
      (found.0, sym (ap (λ set. contains set found.0) additions_are) ∙ contains-members triple_cmp (additions_at base n) found.0 ∙ found.1, term_stands base base_kept found.0 term found.2)

  -- all its terms are new
  pub over : IsOver base (parent_at base n) n
  over = (over_parent_of base base_kept n base_there).0

  pub new_here : (term : TextTerm) → IsTermAt base (Some n) term → IsNewTerm base (parent_at base n) n term
  new_here term there = record {
    there = there;
    before = ap (λ o. contains (numbered_with term.kind base o) term) parent_is ∙ numbered_nowhere base base_kept term.kind term;
  }
