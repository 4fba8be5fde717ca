-- What a layer adds is what it has more than its parent, and what it removes is what it has less.
use Rattle.std.proofs.Common.{◌≡◌, ℕ, ◌<◌, Bool, true, false, not, ◌&&◌, ◌||◌, List, ◌∷◌, Option, Some, None, IfSome, IsTrue, refl, sym, ap, ◌∙◌, subst, true≢false, arith}
use Rattle.std.specs.Option.{option_map, option_and_then}
use Rattle.std.specs.FinMap.{get, contains_key}
use Rattle.ts_model.specs.TextTriple.{TextTriple}
use Rattle.ts_model.specs.Order.{triple_cmp, triple_cmp_total, triple_cmp-IsAntisymmetric}
use Rattle.ts_model.specs.Sets.{contains, union, difference}
use Rattle.ts_model.specs.History.{LayerRecord, History, IsWellKept, parent_at, additions_at, removals_at, set_or_none, chain_within, chain_of, content_of, content_at, content_at_parent, content_below}
use Rattle.ts_model.proofs.HistoryLaws.{chain_from, chain_of-parent, chain_within-none, same_within, Found, found}
use Rattle.ts_model.proofs.SetLaws.{same_set}
use Rattle.ts_model.proofs.SetAlgebra.{contains-empty, contains-union, contains-difference}
use Rattle.ts_part.specs.Step.{gained, lost}

abbrev ParentStands : History → ℕ → Option ℕ → Type 0
ParentStands history k parent = IfSome parent (λ p. (p < k) × IsTrue (contains_key history p))

-- what one layer leaves, adds and removes, of a triple
added_is : (before gone here : Bool) → (here ≡ true → before ≡ false) → here ≡ (((before && not gone) || here) && not before)
added_is true gone true apart = absurd (true≢false (apart refl))
added_is true true false apart = refl
added_is true false false apart = refl
added_is false gone true apart = refl
added_is false gone false apart = refl

removed_is : (before gone here : Bool) → (here ≡ true → before ≡ false) → (gone ≡ true → before ≡ true) → gone ≡ (before && not ((before && not gone) || here))
removed_is true gone true apart stood = absurd (true≢false (apart refl))
removed_is true true false apart stood = refl
removed_is true false false apart stood = refl
removed_is false true here apart stood = absurd (true≢false (sym (stood refl)))
removed_is false false here apart stood = refl

module _ (history : History) (kept : IsWellKept history) (k : ℕ) (layer : LayerRecord) (is : get history k ≡ Some layer) where
  parent_is : parent_at history k ≡ layer.parent
  parent_is = ap (option_and_then (λ (layer : LayerRecord). layer.parent)) is

  additions_are : additions_at history k ≡ layer.additions
  additions_are = ap (λ o. set_or_none (option_map (λ (layer : LayerRecord). layer.additions) o)) is

  removals_are : removals_at history k ≡ layer.removals
  removals_are = ap (λ o. set_or_none (option_map (λ (layer : LayerRecord). layer.removals) o)) is

  over : (p : ℕ) (rest chain : List ℕ) → chain ≡ p ∷ rest → content_of history (k ∷ chain) ≡ union (difference (content_of history chain) (removals_at history k)) (additions_at history k)
  over p rest chain e = subst (λ c. content_of history (k ∷ c) ≡ union (difference (content_of history c) (removals_at history k)) (additions_at history k)) (sym e) refl

  abbrev Leaves : Option ℕ → TextTriple → Type 0
  Leaves parent q = contains (content_of history (k ∷ chain_from history parent)) q
      ≡ ((contains (content_at_parent history parent) q && not (contains (removals_at history k) q)) || contains (additions_at history k) q)

  leaves : (parent : Option ℕ) → ParentStands history k parent → (q : TextTriple) → Leaves parent q
  leaves None h q = ap (λ b. (b && not (contains (removals_at history k) q)) || contains (additions_at history k) q) (sym (contains-empty triple_cmp q))
  leaves (Some p) h q =
      let stands : Found history p = found history p h.1 in
      ap (λ set. contains set q) (over p (chain_from history stands.0.parent) (chain_of history p) (chain_of-parent history kept p stands.0 stands.1))
      ∙ contains-union triple_cmp triple_cmp_total (difference (content_at history p) (removals_at history k)) (additions_at history k) q
      ∙ ap (λ b. b || contains (additions_at history k) q)
      (contains-difference triple_cmp triple_cmp_total triple_cmp-IsAntisymmetric (content_at history p) (removals_at history k) q)

  whole : (parent : Option ℕ) → ParentStands history k parent → content_of history (chain_within k history parent) ≡ content_at_parent history parent
  whole None h = ap (content_of history) (chain_within-none k history)
  whole (Some p) h =
      let below : p < k = h.0 in
      ap (content_of history) (same_within history kept k p p (omega arith) (omega arith) (found history p h.1))

  abbrev before : TextTriple → Bool
  before q = contains (content_at_parent history layer.parent) q

  here_is : (q : TextTriple) → contains (content_at history k) q ≡ ((before q && not (contains layer.removals q)) || contains layer.additions q)
  here_is q =
      ap (λ chain. contains (content_of history chain) q) (chain_of-parent history kept k layer is)
      ∙ leaves layer.parent (kept k layer is).parent q
      ∙ (λ i. (before q && not (contains (removals_are i) q)) || contains (additions_are i) q)

  below_is : (q : TextTriple) → contains (content_below history k) q ≡ before q
  below_is q = ap (λ o. contains (content_of history (chain_within k history o)) q) parent_is ∙ ap (λ set. contains set q) (whole layer.parent (kept k layer is).parent)

  apart : (q : TextTriple) → contains layer.additions q ≡ true → before q ≡ false
  apart q there = sym (below_is q) ∙ (kept k layer is).added q there

  stood : (q : TextTriple) → contains layer.removals q ≡ true → before q ≡ true
  stood q there = sym (below_is q) ∙ (kept k layer is).removed q there

  pub additions_gained : additions_at history k ≡ gained history (parent_at history k) k
  additions_gained =
      same_set triple_cmp triple_cmp_total triple_cmp-IsAntisymmetric (additions_at history k) (gained history (parent_at history k) k) (λ q.
      ap (λ set. contains set q) additions_are
      ∙ added_is (before q) (contains layer.removals q) (contains layer.additions q) (apart q)
      ∙ (λ i. sym (here_is q) i && not (contains (content_at_parent history (sym parent_is i)) q))
      ∙ sym (contains-difference triple_cmp triple_cmp_total triple_cmp-IsAntisymmetric (content_at history k) (content_at_parent history (parent_at history k)) q))

  pub removals_lost : removals_at history k ≡ lost history (parent_at history k) k
  removals_lost =
      same_set triple_cmp triple_cmp_total triple_cmp-IsAntisymmetric (removals_at history k) (lost history (parent_at history k) k) (λ q.
      ap (λ set. contains set q) removals_are
      ∙ removed_is (before q) (contains layer.removals q) (contains layer.additions q) (apart q) (stood q)
      ∙ (λ i. contains (content_at_parent history (sym parent_is i)) q && not (sym (here_is q) i))
      ∙ sym (contains-difference triple_cmp triple_cmp_total triple_cmp-IsAntisymmetric (content_at_parent history (parent_at history k)) (content_at history k) q))
