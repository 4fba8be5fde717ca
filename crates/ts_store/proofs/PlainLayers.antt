-- A layer that keeps to its place has a plain file.
use Rattle.std.proofs.Common.{◌≡◌, ◌⊎◌, ℕ, ◌<◌, ◌≤◌, Bool, true, false, ◌&&◌, ◌||◌, not, List, [], ◌∷◌, All, Option, Some, None, IsTrue, IfSome, inl, inr, refl, sym, ap, ◌∙◌, true≢false}
use Rattle.std.specs.Prelude.{Contains}
use Rattle.std.specs.Option.{option_map, is_some}
use Rattle.std.specs.Cmp.{eq_by_cmp_equiv}
use Rattle.std.specs.FinMap.{empty, get, contains_key}
use Rattle.std.proofs.lemmas.List.Elements.{All-contains_itself}
use Rattle.std.proofs.lemmas.Map.Views.{list_any-from_Contains}
use Rattle.ts_model.specs.TextTriple.{TextTriple, IsTriple}
use Rattle.ts_model.specs.History.{History, LayerRecord, IsWellKept, content_of, additions_at, set_or_none, removals_at, chain_within, parent_at}
use Rattle.ts_model.specs.Order.{triple_cmp, triple_cmp_total, triple_cmp-IsAntisymmetric}
use Rattle.ts_model.specs.Sets.{SetOf, contains, members, difference}
use Rattle.ts_model.proofs.SetAlgebra.{contains-empty, contains-union, contains-difference}
use Rattle.ts_model.proofs.SetLaws.{contains-members, IsStrictlySortedBy-members}
use Rattle.ts_model.proofs.TripleSets.{members-empty}
use Rattle.ts_plain.specs.PlainRules.{FitsParent, IsPlainLayer}

has_member : (set : SetOf triple_cmp) (triple : TextTriple) → Contains (members set) triple → IsTrue (contains set triple)
has_member set triple member = contains-members triple_cmp set triple ∙ list_any-from_Contains (eq_by_cmp_equiv triple_cmp_total) triple (members set) member

-- what holds of what a set contains holds of each of its members
all_members : (P : TextTriple → Type 0) (set : SetOf triple_cmp) → ((triple : TextTriple) → IsTrue (contains set triple) → P triple) → All P (members set)
all_members P set each = λ i d below. each _ (has_member set _ (All-contains_itself (members set) i d below))

or_cases : (a b : Bool) → (a || b) ≡ true → (a ≡ true) ⊎ (b ≡ true)
or_cases true b h = inl refl
or_cases false b h = inr h

pub and_first : (a b : Bool) → (a && b) ≡ true → a ≡ true
and_first true b h = refl
and_first false b h = h

module _ (history : History) (kept : IsWellKept history) where
  added_triple : (k : ℕ) (triple : TextTriple) → IsTrue (contains (additions_at history k) triple) → IsTriple triple
  added_triple k triple has = of_found (get history k) refl has
    where
      of_found : (found : Option LayerRecord) → get history k ≡ found → IsTrue (contains (set_or_none (option_map (λ layer. layer.additions) found)) triple) → IsTriple triple
      of_found None e h = absurd (true≢false (sym h ∙ contains-empty triple_cmp triple))
      of_found (Some layer) e h = (kept k layer e).triples triple h

  -- the content of a chain is triples
  pub content_triple : (chain : List ℕ) (triple : TextTriple) → IsTrue (contains (content_of history chain) triple) → IsTriple triple
  content_triple [] triple has = absurd (true≢false (sym has ∙ contains-empty triple_cmp triple))
  content_triple (k ∷ []) triple has = added_triple k triple has
  content_triple (k ∷ j ∷ chain) triple has =
      let below = content_of history (j ∷ chain) in
      let left = difference below (removals_at history k) in
      elim (or_cases (contains left triple) (contains (additions_at history k) triple) (sym (contains-union triple_cmp triple_cmp_total left (additions_at history k) triple) ∙ has)) as (λ _. IsTriple triple) [
        | inl old ↦ content_triple (j ∷ chain) triple (and_first (contains below triple) (not (contains (removals_at history k) triple))
            (sym (contains-difference triple_cmp triple_cmp_total triple_cmp-IsAntisymmetric below (removals_at history k) triple) ∙ old))
        | inr new ↦ added_triple k triple new
      ]

  positive : (p : ℕ) → IsTrue (contains_key history p) → 1 ≤ p
  positive p has = of_found (get history p) refl has
    where
      of_found : (found : Option LayerRecord) → get history p ≡ found → IsTrue (is_some found) → 1 ≤ p
      of_found None e h = absurd (true≢false (sym h))
      of_found (Some layer) e h = (kept p layer e).number.0

  module _ (k : ℕ) (layer : LayerRecord) (stands : get history k ≡ Some layer) where
    parented : (parent : Option ℕ) → IfSome parent (λ p. (p < k) × IsTrue (contains_key history p)) → IfSome parent (λ p. 1 ≤ p)
    parented None h = tt
    parented (Some p) h = positive p h.1

    fits : (parent : Option ℕ) → IfSome parent (λ p. (p < k) × IsTrue (contains_key history p)) → (parent ≡ None → layer.removals ≡ empty) → FitsParent k parent (members layer.removals)
    fits None h base = ap members (base refl) ∙ members-empty
    fits (Some p) h base = h.0

    pub kept_is_plain : IsPlainLayer k layer.parent (members layer.additions) (members layer.removals)
    kept_is_plain =
        let here = kept k layer stands in (
          record {
            numbered = here.number.0;
            parented = parented layer.parent here.parent;
            additions_rise = IsStrictlySortedBy-members triple_cmp layer.additions;
            removals_rise = IsStrictlySortedBy-members triple_cmp layer.removals;
            apart = λ triple added removed.
                true≢false (sym (here.removed triple (has_member layer.removals triple removed)) ∙ here.added triple (has_member layer.additions triple added));
            parent_fits = fits layer.parent here.parent here.base;
          },
          all_members IsTriple layer.additions here.triples,
          all_members IsTriple layer.removals (λ triple has. content_triple (chain_within k history (parent_at history k)) triple (here.removed triple has)),
        )
