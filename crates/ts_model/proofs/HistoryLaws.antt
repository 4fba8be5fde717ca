-- The chain of a layer of a well kept history, one layer at a time.
use Rattle.std.proofs.Common.{◌≡◌, ℕ, cond, reverse, zero, suc, ◌<◌, ◌≤◌, true, List, [], ◌∷◌, Option, Some, None, IsTrue, IfSome, true≢false, refl, sym, ap, ◌∙◌, arith}
use Rattle.std.specs.Option.{is_some, option_and_then}
use Rattle.std.specs.FinMap.{get, contains_key}
use Rattle.ts_model.specs.TextTerm.{TextTerm}
use Rattle.ts_model.specs.Birth.{mentions, first_place, birth_of}
use Rattle.ts_model.specs.History.{LayerRecord, History, IsWellKept, parent_at, chain_within, chain_of}

-- the chain of a layer, and none where there is no layer
abbrev pub chain_from : History → Option ℕ → List ℕ
chain_from history None = []
chain_from history (Some k) = chain_of history k

pub chain_within-none : (most : ℕ) (history : History) → chain_within most history None ≡ []
chain_within-none zero history = refl
chain_within-none (suc most) history = refl

abbrev pub Found : History → ℕ → Type 0
Found history k = (layer : LayerRecord) × (get history k ≡ Some layer)

pub found : (history : History) (k : ℕ) → IsTrue (contains_key history k) → Found history k
found history k is = elim (get history k) as (λ o. get history k ≡ o → IsTrue (is_some o) → Found history k) [
  | None ↦ λ e h. absurd (true≢false (sym h))
  | Some layer ↦ λ e h. (layer, e)
] refl is

module _ (history : History) (kept : IsWellKept history) where
  -- enough is enough
  pub same_within : (n m k : ℕ) → k ≤ n → k ≤ m → Found history k → chain_within n history (Some k) ≡ chain_within m history (Some k)
  same_within zero m k a b stands = let positive = (kept k stands.0 stands.1).number.0 in absurd (omega arith)
  same_within (suc n) zero k a b stands = let positive = (kept k stands.0 stands.1).number.0 in absurd (omega arith)
  same_within (suc n) (suc m) k a b stands =
      let is : parent_at history k ≡ stands.0.parent = ap (option_and_then (λ layer. layer.parent)) stands.1 in
      let below : (parent : Option ℕ) → IfSome parent (λ p. (p < k) × IsTrue (contains_key history p)) → chain_within n history parent ≡ chain_within m history parent = λ parent.
      elim parent as (λ o. IfSome o (λ p. (p < k) × IsTrue (contains_key history p)) → chain_within n history o ≡ chain_within m history o) [
        | None ↦ λ h. chain_within-none n history ∙ sym (chain_within-none m history)
        | Some p ↦ λ h. same_within n m p (omega arith) (omega arith) (found history p h.1)
      ] in
      ap (λ l. k ∷ l) (ap (chain_within n history) is ∙ below stands.0.parent (kept k stands.0 stands.1).parent ∙ sym (ap (chain_within m history) is))

  -- the chain of a layer is the layer and the chain of its parent
  pub chain_of-parent : (k : ℕ) (layer : LayerRecord) → get history k ≡ Some layer → chain_of history k ≡ k ∷ chain_from history layer.parent
  chain_of-parent zero layer is = let positive = (kept zero layer is).number.0 in absurd (omega arith)
  chain_of-parent (suc k) layer is =
      ap (λ l. suc k ∷ l) (ap (chain_within k history) (ap (option_and_then (λ layer. layer.parent)) is) ∙ below layer.parent (kept (suc k) layer is).parent)
    where
      below : (parent : Option ℕ) → IfSome parent (λ p. (p < suc k) × IsTrue (contains_key history p)) → chain_within k history parent ≡ chain_from history parent
      below None h = chain_within-none k history
      below (Some p) h = same_within k p p (omega arith) (omega arith) (found history p h.1)

  -- a base bears what it mentions with the birth 0
  pub birth_of-base : (k : ℕ) (layer : LayerRecord) → get history k ≡ Some layer → layer.parent ≡ None → (term : TextTerm) → mentions history term k ≡ true → birth_of history k term ≡ Some 0
  birth_of-base k layer is base term here =
      ap (λ chain. first_place (mentions history term) (reverse chain)) (chain_of-parent k layer is ∙ ap (λ parent. k ∷ chain_from history parent) base)
      ∙ ap (λ b. cond b (Some 0) None) here
