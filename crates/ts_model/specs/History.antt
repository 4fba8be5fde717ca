-- The history of a store: its layers, each under its number. A base layer stands alone; any other keeps what it adds to its
-- parent and removes from it.
use Rattle.std.specs.Prelude.{◌≡◌, ◌≢◌, ℕ, zero, suc, ◌<◌, ◌≤◌, false, List, [], ◌∷◌, Option, None, Some, Contains, IfSome, IsTrue}
use Rattle.std.specs.Option.{option_map, option_and_then}
use Rattle.std.specs.Ordering.{nat_cmp}
use Rattle.std.specs.FinMap.{FinMap, empty, get, contains_key}
use Rattle.ts_model.specs.Limits.{number_limit}
use Rattle.ts_model.specs.TextTriple.{TextTriple, IsTriple}
use Rattle.ts_model.specs.Order.{triple_cmp}
use Rattle.ts_model.specs.Sets.{SetOf, contains, difference, union}

pub record LayerRecord : Type 0 where
  pub parent : Option ℕ
  pub additions : SetOf triple_cmp
  pub removals : SetOf triple_cmp

abbrev pub History : Type 0
History = FinMap nat_cmp LayerRecord

abbrev pub parent_at : History → ℕ → Option ℕ
parent_at history k = option_and_then (λ layer. layer.parent) (get history k)

abbrev pub set_or_none : Option (SetOf triple_cmp) → SetOf triple_cmp
set_or_none None = empty
set_or_none (Some triples) = triples

abbrev pub additions_at : History → ℕ → SetOf triple_cmp
additions_at history k = set_or_none (option_map (λ layer. layer.additions) (get history k))

abbrev pub removals_at : History → ℕ → SetOf triple_cmp
removals_at history k = set_or_none (option_map (λ layer. layer.removals) (get history k))

-- a layer, its parent, and so on to the base; at most so many of them
abbrev pub chain_within : ℕ → History → Option ℕ → List ℕ
chain_within most history None = []
chain_within zero history (Some k) = []
chain_within (suc most) history (Some k) = k ∷ chain_within most history (parent_at history k)

-- The chain of a layer. A parent is less than its layer and none is 0, so the chain of k has at most k layers.
abbrev pub chain_of : History → ℕ → List ℕ
chain_of history k = chain_within k history (Some k)

abbrev pub IsAncestor : History → ℕ → ℕ → Type 0
IsAncestor history a k = Contains (chain_of history k) a

abbrev pub IsProperAncestor : History → ℕ → ℕ → Type 0
IsProperAncestor history a k = IsAncestor history a k × (a ≢ k)

-- the triples of a chain: those of the chain below its first layer, less that layer's removals, with its additions
abbrev pub content_of : History → List ℕ → SetOf triple_cmp
content_of history [] = empty
content_of history (k ∷ []) = additions_at history k
content_of history (k ∷ below ∷ chain) = union (difference (content_of history (below ∷ chain)) (removals_at history k)) (additions_at history k)

-- the triples of a layer
abbrev pub content_at : History → ℕ → SetOf triple_cmp
content_at history k = content_of history (chain_of history k)

-- the triples of a parent, and none where there is no parent
abbrev pub content_at_parent : History → Option ℕ → SetOf triple_cmp
content_at_parent history None = empty
content_at_parent history (Some k) = content_at history k

-- the triples of a layer's parent, and none where it has no parent
abbrev pub content_below : History → ℕ → SetOf triple_cmp
content_below history k = content_of history (chain_within k history (parent_at history k))

-- a layer stands rightly in its history: its parent stands there with a smaller number, and it adds only triples that the parent lacks and removes only triples that it has
pub record IsLayerKept (history : History) (k : ℕ) (layer : LayerRecord) : Type 0 where
  pub number : (1 ≤ k) × (k < number_limit)
  pub triples : (triple : TextTriple) → IsTrue (contains layer.additions triple) → IsTriple triple
  pub parent : IfSome layer.parent (λ p. (p < k) × IsTrue (contains_key history p))
  pub base : layer.parent ≡ None → layer.removals ≡ empty
  pub removed : (triple : TextTriple) → IsTrue (contains layer.removals triple) → IsTrue (contains (content_below history k) triple)
  pub added : (triple : TextTriple) → IsTrue (contains layer.additions triple) → contains (content_below history k) triple ≡ false

abbrev pub IsWellKept : History → Type 0
IsWellKept history = (k : ℕ) (layer : LayerRecord) → get history k ≡ Some layer → IsLayerKept history k layer
