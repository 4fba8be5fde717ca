-- A chain and one below it, down to which it is rolled up.
use Rattle.std.specs.Prelude.{◌≡◌, ℕ, ◌+◌, ◌<◌, ◌≤◌, List, Option, IfSome}
use Rattle.ts_model.specs.History.{History, IsProperAncestor}
use Rattle.ts_part.specs.declared.header.Header.{Header}
use Rattle.ts_part.specs.Facts.{Facts}
use Rattle.ts_part.specs.Header.{HasHeader}
use Rattle.ts_chain.specs.Chain.{layer_of, predicates_in, terms_in}
use Rattle.ts_chain.specs.Stands.{StandsFor, StandsForOption}

-- the lower parts, or none, have a lesser number, and no more terms and predicates
pub record AreBelow (lower upper : List Facts) : Type 0 where
  pub number : IfSome (layer_of lower) (λ a. IfSome (layer_of upper) (λ k. a < k))
  pub terms : terms_in lower ≤ terms_in upper
  pub predicates : predicates_in lower ≤ predicates_in upper

-- the file's header has the totals of these parts
abbrev pub HasTotals : List Facts → List ℕ → Type 0
HasTotals parts file = (header : Header) × HasHeader file header
    × (header.terms_before + header.nodes + header.values ≡ terms_in parts)
    × (header.predicates_before + header.predicates ≡ predicates_in parts)

-- the parts stand for a layer, and the lower ones for a proper ancestor of it, or for none
pub record StandForBoth (history : History) (from : Option ℕ) (k : ℕ) (lower upper : List Facts) : Type 0 where
  pub layer : StandsFor upper history k
  pub below : StandsForOption lower history from
  pub ancestor : IfSome from (λ a. IsProperAncestor history a k)
