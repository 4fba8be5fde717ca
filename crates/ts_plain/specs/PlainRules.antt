-- What a layer that has a plain file keeps to.
use Rattle.std.specs.Prelude.{◌≡◌, ℕ, ◌<◌, ◌≤◌, List, [], All, Contains, Option, Some, None, IfSome}
use Rattle.std.specs.List.Sorted.{IsStrictlySortedBy}
use Rattle.ts_model.specs.TextTriple.{TextTriple, IsTriple}
use Rattle.ts_model.specs.Order.{triple_cmp}

-- a base has no removals, and another layer's parent is less than it
abbrev pub FitsParent : ℕ → Option ℕ → List TextTriple → Type 0
FitsParent number None removals = removals ≡ []
FitsParent number (Some parent) removals = parent < number

-- the layer's number and its parent's are at least 1; additions and removals rise, and no triple stands in both
pub record KeepsPlainRules (number : ℕ) (parent : Option ℕ) (additions removals : List TextTriple) : Type 0 where
  pub numbered : 1 ≤ number
  pub parented : IfSome parent (λ p. 1 ≤ p)
  pub additions_rise : IsStrictlySortedBy triple_cmp additions
  pub removals_rise : IsStrictlySortedBy triple_cmp removals
  pub apart : (triple : TextTriple) → Contains additions triple → Contains removals triple → ⊥
  pub parent_fits : FitsParent number parent removals

-- what has a plain file that is read: the rules, and triples alone
abbrev pub IsPlainLayer : ℕ → Option ℕ → List TextTriple → List TextTriple → Type 0
IsPlainLayer number parent additions removals =
    KeepsPlainRules number parent additions removals × All IsTriple additions × All IsTriple removals
