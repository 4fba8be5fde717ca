-- The facts of a rollup, by what the two chains tell.
use Rattle.std.specs.Prelude.{◌≡◌, ℕ, ◌+◌, ◌-◌, ◌<◌, not, List, length, slice_get, filter, map, All, Contains, Some}
use Rattle.std.specs.List.{range_with_len}
use Rattle.ts_model.specs.declared.term.TermKind.TheVariants.{Node, Predicate, Value}
use Rattle.ts_model.specs.TextTerm.{TextTerm}
use Rattle.ts_model.specs.History.{History}
use Rattle.ts_plane.specs.declared.triple.IdTriple.{IdTriple}
use Rattle.ts_part.specs.declared.header.PartKind.TheVariants.{Rollup}
use Rattle.ts_part.specs.Facts.{Facts, entries_of}
use Rattle.ts_part.specs.Header.{KeepsHeaderRules, header_of}
use Rattle.ts_part.specs.Rules.{TermsRule}
use Rattle.ts_chain.specs.Chain.{IsChain, layer_of, predicates_in, terms_in}
use Rattle.ts_chain.specs.Content.{has, triples_of}
use Rattle.ts_chain.specs.Stands.{StandsFor}
use Rattle.ts_chain.specs.Views.{NamesPredicate, NamesTerm}

-- the numbers above one up to another
abbrev pub numbers_above : ℕ → ℕ → List ℕ
numbers_above low high = map (λ n. n + 1) (range_with_len low (high - low))

-- each number above one up to another is that of an entry, which has the term that bears the number
pub record AreNumbered (Names : ℕ → TextTerm → Type 0) (low high : ℕ) (terms : List TextTerm) (places : List ℕ) : Type 0 where
  pub as_many : low + length terms ≡ high
  pub placed : length places ≡ length terms
  pub each : (place : ℕ) → place < length terms → Contains places place
  pub named : (entry place : ℕ) (term : TextTerm) → slice_get places entry ≡ Some place → slice_get terms entry ≡ Some term
      → Names (low + 1 + place) term

-- those of some triples that others lack
abbrev pub beyond : List IdTriple → List IdTriple → List IdTriple
beyond these those = filter (λ t. not (has those t)) these

-- the triples of some parts that others lack
abbrev pub more_than : List Facts → List Facts → List IdTriple
more_than these those = beyond (triples_of these) (triples_of those)

-- each list of terms keeps its rule
pub record AreSpelled (facts : Facts) : Type 0 where
  pub nodes : TermsRule Node facts.nodes
  pub predicates : TermsRule Predicate facts.predicates
  pub values : TermsRule Value facts.values

-- the terms above the lower totals, with their numbers, and the triples that only one of the two has
pub record IsRolled (lower upper : List Facts) (facts : Facts) : Type 0 where
  pub chain : IsChain upper
  pub header : KeepsHeaderRules (header_of facts 0)
  pub kind : facts.kind ≡ Rollup
  pub number : layer_of upper ≡ Some facts.number
  pub parent : facts.parent ≡ layer_of lower
  pub terms_before : facts.terms_before ≡ terms_in lower
  pub predicates_before : facts.predicates_before ≡ predicates_in lower
  pub terms : AreNumbered (NamesTerm upper) (terms_in lower) (terms_in upper) (entries_of facts) facts.term_map
  pub predicates : AreNumbered (NamesPredicate upper) (predicates_in lower) (predicates_in upper) facts.predicates facts.predicate_map
  pub node_kinds : All (λ term. term.kind ≡ Node) facts.nodes
  pub predicate_kinds : All (λ term. term.kind ≡ Predicate) facts.predicates
  pub value_kinds : All (λ term. term.kind ≡ Value) facts.values
  pub spelled : (history : History) (k : ℕ) → StandsFor upper history k → AreSpelled facts
  pub additions : facts.additions ≡ more_than upper lower
  pub removals : facts.removals ≡ more_than lower upper
