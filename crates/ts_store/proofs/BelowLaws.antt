-- What is said of a layer depends on the layers up to it alone.
use Rattle.std.proofs.Common.{◌≡◌, ℕ, zero, suc, ◌<◌, ◌≤◌, List, [], ◌∷◌, Option, Some, None, IsTrue, IfSome, refl, sym, ap, ◌∙◌, subst, arith}
use Rattle.std.specs.Option.{is_some, option_map, option_and_then}
use Rattle.std.specs.FinMap.{get, contains_key}
use Rattle.ts_model.specs.History.{History, LayerRecord, IsLayerKept, parent_at, set_or_none, additions_at, removals_at, chain_within, content_of, content_below}
use Rattle.ts_model.specs.Order.{triple_cmp}
use Rattle.ts_model.specs.Sets.{SetOf, contains, union, difference}
use Rattle.ts_model.proofs.HistoryLaws.{chain_within-none}

-- the two histories have the same layers up to k
abbrev pub AgreeTo : ℕ → History → History → Type 0
AgreeTo k a b = (j : ℕ) → j ≤ k → get a j ≡ get b j

-- up to k the parent of each layer is less than it
abbrev pub FallTo : ℕ → History → Type 0
FallTo k a = (j : ℕ) (layer : LayerRecord) → j ≤ k → get a j ≡ Some layer → IfSome layer.parent (λ p. p < j)

-- no number of a chain is above k
abbrev pub AllTo : ℕ → List ℕ → Type 0
AllTo k [] = Unit {0}
AllTo k (j ∷ chain) = (j ≤ k) × AllTo k chain

module _ (k : ℕ) (a b : History) (agree : AgreeTo k a b) (fall : FallTo k a) where
  same_parent : (j : ℕ) → j ≤ k → parent_at a j ≡ parent_at b j
  same_parent j below = ap (option_and_then (λ layer. layer.parent)) (agree j below)

  parent_of : (j : ℕ) (found : Option LayerRecord) → j ≤ k → get a j ≡ found → IfSome (option_and_then (λ layer. layer.parent) found) (λ p. p < j)
  parent_of j None below e = tt
  parent_of j (Some layer) below e = fall j layer below e

  weaker : (j : ℕ) (parent : Option ℕ) → j ≤ k → IfSome parent (λ p. p < j) → IfSome parent (λ p. p ≤ k)
  weaker j None below h = tt
  weaker j (Some p) below h = omega arith

  parent_to : (j : ℕ) → j ≤ k → IfSome (parent_at a j) (λ p. p ≤ k)
  parent_to j below = weaker j (parent_at a j) below (parent_of j (get a j) below refl)

  pub same_chain : (most : ℕ) (parent : Option ℕ) → IfSome parent (λ p. p ≤ k) → chain_within most a parent ≡ chain_within most b parent
  same_chain most None h = chain_within-none most a ∙ sym (chain_within-none most b)
  same_chain zero (Some j) h = refl
  same_chain (suc most) (Some j) h = ap (λ l. j ∷ l) (same_chain most (parent_at a j) (parent_to j h) ∙ ap (chain_within most b) (same_parent j h))

  pub chain_to : (most : ℕ) (parent : Option ℕ) → IfSome parent (λ p. p ≤ k) → AllTo k (chain_within most a parent)
  chain_to most None h = subst (AllTo k) (sym (chain_within-none most a)) tt
  chain_to zero (Some j) h = tt
  chain_to (suc most) (Some j) h = (h, chain_to most (parent_at a j) (parent_to j h))

  pub same_additions : (j : ℕ) → j ≤ k → additions_at a j ≡ additions_at b j
  same_additions j below = ap (λ found. set_or_none (option_map (λ layer. layer.additions) found)) (agree j below)

  same_removals : (j : ℕ) → j ≤ k → removals_at a j ≡ removals_at b j
  same_removals j below = ap (λ found. set_or_none (option_map (λ layer. layer.removals) found)) (agree j below)

  same_content : (chain : List ℕ) → AllTo k chain → content_of a chain ≡ content_of b chain
  same_content [] h = refl
  same_content (j ∷ []) h = same_additions j h.0
  same_content (j ∷ i ∷ chain) h =
      let below = same_content (i ∷ chain) h.1 in
      λ n. union (difference (below n) (same_removals j h.0 n)) (same_additions j h.0 n)

  pub same_below : content_below a k ≡ content_below b k
  same_below =
      let to = parent_to k (omega arith) in
      same_content (chain_within k a (parent_at a k)) (chain_to k (parent_at a k) to)
      ∙ ap (content_of b) (same_chain k (parent_at a k) to ∙ ap (chain_within k b) (same_parent k (omega arith)))

  stands_too : (parent : Option ℕ) → IfSome parent (λ p. (p < k) × IsTrue (contains_key a p)) → IfSome parent (λ p. (p < k) × IsTrue (contains_key b p))
  stands_too None h = tt
  stands_too (Some p) h = (h.0, sym (ap is_some (agree p (omega (arith, h.0)))) ∙ h.1)

  -- a layer that keeps to its place in the one does so in the other
  pub kept_too : (layer : LayerRecord) → IsLayerKept a k layer → IsLayerKept b k layer
  kept_too layer kept = record {
    number = kept.number;
    triples = kept.triples;
    parent = stands_too layer.parent kept.parent;
    base = kept.base;
    removed = λ triple has. ap (λ (set : SetOf triple_cmp). contains set triple) (sym same_below) ∙ kept.removed triple has;
    added = λ triple has. ap (λ (set : SetOf triple_cmp). contains set triple) (sym same_below) ∙ kept.added triple has;
  }
