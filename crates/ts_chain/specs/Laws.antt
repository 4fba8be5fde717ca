-- What is true of chains and of histories, each a statement that a law proves.
use Rattle.std.specs.Prelude.{◌≡◌, ◌≢◌, ℕ, suc, ◌<◌, ◌↔◌, List, [], ◌∷◌, ◌++◌, drop, take, slice_get, sum, Option, Some, IsTrue}
use Rattle.std.specs.FinMap.{contains_key}
use Rattle.ts_model.specs.declared.pattern.Pattern.{Pattern}
use Rattle.ts_model.specs.declared.term.TermKind.TheVariants.{Predicate}
use Rattle.ts_model.specs.ChainTotals.{predicates_at, terms_at}
use Rattle.ts_model.specs.History.{History, IsWellKept, removals_at}
use Rattle.ts_model.specs.Limits.{number_limit}
use Rattle.ts_model.specs.Listing.{select}
use Rattle.ts_model.specs.Sets.{contains}
use Rattle.ts_model.specs.TextTerm.{TextTerm}
use Rattle.ts_model.specs.TextTriple.{TextTriple, IsTriple}
use Rattle.ts_plane.specs.declared.pattern.IdPattern.{IdPattern}
use Rattle.ts_plane.specs.declared.triple.IdTriple.{IdTriple}
use Rattle.ts_part.specs.Facts.{Facts}
use Rattle.ts_part.specs.Numbers.{IsTermAt, TotalsFit, id_triple, number_of, totals_at}
use Rattle.ts_part.specs.Step.{LayerSays}
use Rattle.ts_chain.specs.Chain.{IsChain, predicates_in, terms_in}
use Rattle.ts_chain.specs.Fetches.{fetched}
use Rattle.ts_chain.specs.Holds.{spelled_triple}
use Rattle.ts_chain.specs.Patterns.{AsksByKind}
use Rattle.ts_chain.specs.Spelled.{IsSpelledBy}
use Rattle.ts_chain.specs.Stands.{StandsFor}
use Rattle.ts_chain.specs.Views.{IsPredicateId, IsTermId, NamesPredicate, NamesTerm}
use Rattle.ts_chain.specs.Walks.{walked}

-- ---- what numbers name

-- a number of a chain names one term, and one predicate
abbrev pub NameOneTerm : Type 0
NameOneTerm = (parts : List Facts) (id : ℕ) (a b : TextTerm) → IsChain parts → NamesTerm parts id a → NamesTerm parts id b → a ≡ b

abbrev pub NameOnePredicate : Type 0
NameOnePredicate = (parts : List Facts) (id : ℕ) (a b : TextTerm) → IsChain parts → NamesPredicate parts id a → NamesPredicate parts id b → a ≡ b

-- the numbers up to a chain's totals name a term each, and no others do
abbrev pub NameEachTerm : Type 0
NameEachTerm = (parts : List Facts) (id : ℕ) → IsChain parts → IsTermId parts id ↔ ((term : TextTerm) × NamesTerm parts id term)

abbrev pub NameEachPredicate : Type 0
NameEachPredicate = (parts : List Facts) (id : ℕ) → IsChain parts → IsPredicateId parts id ↔ ((term : TextTerm) × NamesPredicate parts id term)

-- the number of a term of the layer names the term
abbrev pub NameTermsOfLayers : Type 0
NameTermsOfLayers = (history : History) (k : ℕ) (parts : List Facts) (term : TextTerm) → StandsFor parts history k → IsTermAt history (Some k) term → term.kind ≢ Predicate
    → NamesTerm parts (number_of history k term) term

abbrev pub NamePredicatesOfLayers : Type 0
NamePredicatesOfLayers = (history : History) (k : ℕ) (parts : List Facts) (term : TextTerm) → StandsFor parts history k → IsTermAt history (Some k) term → term.kind ≡ Predicate
    → NamesPredicate parts (number_of history k term) term

-- the numbers of a triple that the layer removes, which is none of its content, name the triple's terms
abbrev pub NameRemovedTriples : Type 0
NameRemovedTriples = (history : History) (k : ℕ) (parts : List Facts) (triple : TextTriple) → StandsFor parts history k → IsTrue (contains (removals_at history k) triple)
    → IsSpelledBy parts (id_triple history k triple) triple

-- ---- what spellings tell

-- a triple is that of its spellings
abbrev pub SpellingsTellTriples : Type 0
SpellingsTellTriples = (triple : TextTriple) → IsTriple triple → spelled_triple triple.subject.spelling triple.predicate.spelling triple.object.spelling ≡ triple

-- a pattern with a term of a kind that stands nowhere in its place selects nothing
abbrev pub KindsSelectNothing : Type 0
KindsSelectNothing = (history : History) (k : ℕ) (wanted : Pattern) → IsWellKept history → ¬ AsksByKind wanted → select history k wanted ≡ []

-- ---- what a walk leaves

-- a walk from after any triple that another gave is what that other one has left
abbrev pub WalksGoOn : Type 0
WalksGoOn = (parts : List Facts) (pattern : IdPattern) (after : Option IdTriple) (place : ℕ) (last : IdTriple) → slice_get (walked parts pattern after) place ≡ Some last
    → walked parts pattern (Some last) ≡ drop (suc place) (walked parts pattern after)

-- fetches give, one after another, what one walk gives, each triple once and in its order
abbrev pub FetchesGiveTheWalk : Type 0
FetchesGiveTheWalk = (parts : List Facts) (pattern : IdPattern) (after : Option IdTriple) (sizes : List ℕ)
    → fetched parts pattern after sizes ≡ take (sum sizes) (walked parts pattern after)

-- ---- what files fix

-- a file says layer k of the one history and of the other
pub record HaveOneFile (history other : History) (k : ℕ) : Type 0 where
  pub file : List ℕ
  pub says : LayerSays file history k
  pub says_other : LayerSays file other k

-- histories that have the same layers, each in one file, are one
abbrev pub FilesTellOneHistory : Type 0
FilesTellOneHistory = (history other : History) → IsWellKept history → IsWellKept other → ((k : ℕ) → contains_key history k ≡ contains_key other k)
    → ((k : ℕ) → IsTrue (contains_key history k) → HaveOneFile history other k) → history ≡ other

-- ---- what is counted

-- the terms that a layer mentions are as many as its numbers
abbrev pub CountsAreTotals : Type 0
CountsAreTotals = (history : History) (k : ℕ) → (terms_at history k, predicates_at history k) ≡ totals_at history (Some k)

-- and as many as those of the parts that stand for it
abbrev pub PartsAreCounted : Type 0
PartsAreCounted = (history : History) (k : ℕ) (parts : List Facts) → StandsFor parts history k → (terms_in parts ≡ terms_at history k) × (predicates_in parts ≡ predicates_at history k)

-- so its totals fit where a number is left for each term and for each predicate
abbrev pub CountsFit : Type 0
CountsFit = (history : History) (k : ℕ) → TotalsFit history k ↔ ((terms_at history k < number_limit) × (predicates_at history k < number_limit))
