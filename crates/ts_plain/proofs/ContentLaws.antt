-- The content of a layer, from its own changes and its parent's content.
use Rattle.std.proofs.Common.{◌≡◌, ℕ, zero, suc, ◌<◌, Bool, true, false, not, ◌&&◌, ◌||◌, List, ◌∷◌, Option, Some, None, IfSome, IfNone, IsTrue, refl, sym, ap, ◌∙◌, subst}
use Rattle.std.specs.Option.{option_map, option_and_then}
use Rattle.std.specs.FinMap.{get, contains_key}
use denote.Ref.{Bor}
use Rattle.ts_model.specs.TextTriple.{TextTriple}
use Rattle.ts_model.specs.Order.{triple_cmp, triple_cmp_total, triple_cmp-IsAntisymmetric}
use Rattle.ts_model.specs.Sets.{contains, union, difference}
use Rattle.ts_model.specs.History.{LayerRecord, History, IsWellKept, additions_at, removals_at, set_or_none, chain_of, chain_within, content_of, content_at, content_at_parent}
use Rattle.ts_model.proofs.HistoryLaws.{chain_from, chain_of-parent, chain_within-none, Found, found}
use Rattle.ts_model.proofs.SetLaws.{contains-from_list}
use Rattle.ts_model.proofs.SetAlgebra.{contains-empty, contains-union, contains-difference}
use Rattle.ts_plain.specs.declared.write.PlainLayer.{PlainLayer}
use Rattle.ts_plain.specs.Chain.{StandsIn}
use Rattle.ts_plain.specs.History.{record_of}
use Rattle.ts_plain.proofs.ChainLaws.{number_of}
use Rattle.ts_plain.proofs.LayerLaws.{is_among}

or_true : (b : Bool) → (b || true) ≡ true
or_true true = refl
or_true false = refl

or_false : (b : Bool) → (b || false) ≡ b
or_false true = refl
or_false false = refl

and_true : (b : Bool) → (b && true) ≡ b
and_true true = refl
and_true false = refl

and_false : (b : Bool) → (b && false) ≡ false
and_false true = refl
and_false false = refl

module _ (history : History) where
  -- a number without a layer has no triples
  pub content_at-none : (k : ℕ) → get history k ≡ None → (q : TextTriple) → contains (content_at history k) q ≡ false
  content_at-none zero none q = contains-empty triple_cmp q
  content_at-none (suc k) none q =
      ap (λ chain. contains (content_of history (suc k ∷ chain)) q) (ap (λ o. chain_within k history (option_and_then (λ layer. layer.parent) o)) none ∙ chain_within-none k history)
      ∙ ap (λ o. contains (set_or_none (option_map (λ layer. layer.additions) o)) q) none
      ∙ contains-empty triple_cmp q

  over : (k p : ℕ) (rest chain : List ℕ) → chain ≡ p ∷ rest
      → content_of history (k ∷ chain) ≡ union (difference (content_of history chain) (removals_at history k)) (additions_at history k)
  over k p rest chain e = subst (λ c. content_of history (k ∷ c) ≡ union (difference (content_of history c) (removals_at history k)) (additions_at history k)) (sym e) refl

  module _ (kept : IsWellKept history) where
    -- what a layer leaves of its parent's triples, and what it adds to them
    pub contains-content_at : (k : ℕ) (layer : LayerRecord) → get history k ≡ Some layer → (q : TextTriple)
        → contains (content_at history k) q ≡ ((contains (content_at_parent history layer.parent) q && not (contains layer.removals q)) || contains layer.additions q)
    contains-content_at k layer is q =
        ap (λ chain. contains (content_of history chain) q) (chain_of-parent history kept k layer is)
        ∙ by_parent layer.parent (kept k layer is).parent
        ∙ (λ i. (contains (content_at_parent history layer.parent) q && not (contains (removed i) q)) || contains (added i) q)
      where
        added : additions_at history k ≡ layer.additions
        added = ap (λ o. set_or_none (option_map (λ layer. layer.additions) o)) is

        removed : removals_at history k ≡ layer.removals
        removed = ap (λ o. set_or_none (option_map (λ layer. layer.removals) o)) is

        by_parent : (parent : Option ℕ) → IfSome parent (λ p. (p < k) × IsTrue (contains_key history p))
            → contains (content_of history (k ∷ chain_from history parent)) q
            ≡ ((contains (content_at_parent history parent) q && not (contains (removals_at history k) q)) || contains (additions_at history k) q)
        by_parent None h = ap (λ b. (b && not (contains (removals_at history k) q)) || contains (additions_at history k) q) (sym (contains-empty triple_cmp q))
        by_parent (Some p) h =
            let stands : Found history p = found history p h.1 in
            ap (λ set. contains set q) (over k p (chain_from history stands.0.parent) (chain_of history p) (chain_of-parent history kept p stands.0 stands.1))
            ∙ contains-union triple_cmp triple_cmp_total (difference (content_at history p) (removals_at history k)) (additions_at history k) q
            ∙ ap (λ b. b || contains (additions_at history k) q)
            (contains-difference triple_cmp triple_cmp_total triple_cmp-IsAntisymmetric (content_at history p) (removals_at history k) q)

    module _ (layer : PlainLayer) (stands : StandsIn history layer) (q : TextTriple) where
      pub contains-layer : contains (content_at history layer.number) q
          ≡ ((contains (content_at_parent history layer.parent) q && not (is_among layer.removals.items q)) || is_among layer.additions.items q)
      contains-layer =
          contains-content_at layer.number (record_of layer) stands.recorded q
          ∙ (λ i. (contains (content_at_parent history layer.parent) q && not (contains-from_list triple_cmp triple_cmp_total layer.removals.items q i))
          || contains-from_list triple_cmp triple_cmp_total layer.additions.items q i)

      pub added_here : is_among layer.additions.items q ≡ true → contains (content_at history layer.number) q ≡ true
      added_here here = contains-layer ∙ ap (λ b. (contains (content_at_parent history layer.parent) q && not (is_among layer.removals.items q)) || b) here ∙ or_true _

      pub removed_here : is_among layer.additions.items q ≡ false → is_among layer.removals.items q ≡ true → contains (content_at history layer.number) q ≡ false
      removed_here out here =
          contains-layer
          ∙ (λ i. (contains (content_at_parent history layer.parent) q && not (here i)) || out i)
          ∙ or_false _
          ∙ and_false (contains (content_at_parent history layer.parent) q)

      pub as_below : is_among layer.additions.items q ≡ false → is_among layer.removals.items q ≡ false
          → contains (content_at history layer.number) q ≡ contains (content_at_parent history layer.parent) q
      as_below out kept =
          contains-layer
          ∙ (λ i. (contains (content_at_parent history layer.parent) q && not (kept i)) || out i)
          ∙ or_false _
          ∙ and_true (contains (content_at_parent history layer.parent) q)

  -- the layer of a number, as it was looked up
  pub found_at : (number : ℕ) (o : Option (Bor PlainLayer)) → IfSome o (λ layer. (layer.now.number ≡ number) × StandsIn history layer.now) → IfNone o (get history number ≡ None)
      → (q : TextTriple) → contains (content_at_parent history (number_of o)) q ≡ contains (content_at history number) q
  found_at number None some none q = contains-empty triple_cmp q ∙ sym (content_at-none number none q)
  found_at number (Some layer) some none q = ap (λ k. contains (content_at history k) q) some.0

  pub IfSome-stands : (number : ℕ) (o : Option (Bor PlainLayer)) → IfSome o (λ layer. (layer.now.number ≡ number) × StandsIn history layer.now) → IfSome o (λ layer. StandsIn history layer.now)
  IfSome-stands number None some = tt
  IfSome-stands number (Some layer) some = some.1
