-- How many terms and predicates a new layer has: those of its chain, and those of its additions that the chain lacks.
use Rattle.std.proofs.Common.{◌≡◌, ℕ, ◌+◌, ◌<◌, ◌≤◌, ◌⊎◌, inl, inr, ◌↔◌, List, Option, Some, sym, ◌∙◌, subst, arith}
use Rattle.std.proofs.lemmas.Bool.{cases_lt}
use Rattle.ts_model.specs.declared.term.TermKind.{TermKind}
use Rattle.ts_model.specs.declared.term.TermKind.TheVariants.{Node, Predicate}
use Rattle.ts_model.specs.History.{History}
use Rattle.ts_model.specs.Limits.{number_limit}
use Rattle.ts_model.specs.Sets.{size}
use Rattle.ts_part.specs.Facts.{Facts}
use Rattle.ts_part.specs.Numbers.{TotalsFit, numbered_with, totals_at}
use Rattle.ts_part.proofs.Births.{IsOver as GoesOver, over_parent_of}
use Rattle.ts_part.proofs.Numbered.{totals-of}
use Rattle.ts_chain.specs.Chain.{predicates_in, terms_in}
use Rattle.ts_builder.specs.Layer.{IsNewLayer, with_layer}
use Rattle.ts_builder.specs.Net.{NetTriples}
use Rattle.ts_builder.specs.NewTerms.{IsOver, new_predicates_of, new_terms_of}
use Rattle.ts_builder.proofs.GrownLayer.{kept_grown, parent_is, stands_new}
use Rattle.ts_builder.proofs.LayerIds.{before_is}
use Rattle.ts_builder.proofs.LayerTerms.{predicates_are, terms_are}

-- two totals don't fit where one of them is over the limit
over_one : (a b limit : ℕ) → ((limit ≤ a) ⊎ (limit ≤ b)) ↔ (¬ ((a < limit) × (b < limit)))
over_one a b limit = (
  λ over both. elim over as (λ _. ⊥) [
    | inl more ↦ absurd (omega (arith, both.0))
    | inr more ↦ absurd (omega (arith, both.1))
  ],
  λ not_both. elim (cases_lt a limit) as (λ _. (limit ≤ a) ⊎ (limit ≤ b)) [
    | inl less ↦ elim (cases_lt b limit) as (λ _. (limit ≤ a) ⊎ (limit ≤ b)) [
      | inl lesser ↦ absurd (not_both (less, lesser))
      | inr more ↦ inr more
    ]
    | inr more ↦ inl more
  ],
)

module _ (history : History) (from : Option ℕ) (parts : List Facts) (number : ℕ) (net : NetTriples) (new : IsNewLayer history from parts number net) where
  abbrev grown : History
  grown = with_layer history number from net

  goes : GoesOver grown from number
  goes =
      subst (λ o. GoesOver grown o number) (parent_is history from parts number net new)
      (over_parent_of grown (kept_grown history from parts number net new) number (stands_new history from parts number net new)).0

  abbrev total : TermKind → ℕ
  total kind = size (numbered_with kind grown (Some number))

  terms_total : total Node ≡ terms_in parts + size (new_terms_of parts net.additions)
  terms_total =
      totals-of grown (kept_grown history from parts number net new) from number goes Node
      ∙ (λ i. (sym (before_is history from parts number net new) i).0 + size (sym (terms_are history from parts number net new) i))

  predicates_total : total Predicate ≡ predicates_in parts + size (new_predicates_of parts net.additions)
  predicates_total =
      totals-of grown (kept_grown history from parts number net new) from number goes Predicate
      ∙ (λ i. (sym (before_is history from parts number net new) i).1 + size (sym (predicates_are history from parts number net new) i))

  pub totals_are : totals_at grown (Some number) ≡ (terms_in parts + size (new_terms_of parts net.additions), predicates_in parts + size (new_predicates_of parts net.additions))
  totals_are = λ i. (terms_total i, predicates_total i)

  pub over_where : IsOver parts net.additions ↔ (¬ TotalsFit grown number)
  over_where =
      subst (λ (t : ℕ × ℕ). IsOver parts net.additions ↔ (¬ ((t.0 < number_limit) × (t.1 < number_limit)))) (sym totals_are)
      (over_one (terms_in parts + size (new_terms_of parts net.additions)) (predicates_in parts + size (new_predicates_of parts net.additions)) number_limit)
