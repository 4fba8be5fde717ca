-- The history that a new layer makes, and what its file says.
use Rattle.std.specs.Prelude.{◌≡◌, ℕ, ◌<◌, false, List, [], All, Option}
use Rattle.std.specs.FinMap.{contains_key, insert}
use Rattle.ts_model.specs.History.{History, LayerRecord}
use Rattle.ts_model.specs.Limits.{number_limit}
use Rattle.ts_model.specs.Sets.{from_list}
use Rattle.ts_model.specs.TextTriple.{IsTriple}
use Rattle.ts_part.specs.declared.header.PartKind.TheVariants.{Layer}
use Rattle.ts_part.specs.Facts.{Facts}
use Rattle.ts_chain.specs.Chain.{layer_of}
use Rattle.ts_chain.specs.Stands.{StandsForOption}
use Rattle.ts_builder.specs.Change.{IsChangeOver, IsNumberOver}
use Rattle.ts_builder.specs.Net.{NetTriples}
use Rattle.ts_builder.specs.Numbering.{AreIdsBy}

-- the history with one more layer
abbrev pub layer_of_net : Option ℕ → NetTriples → LayerRecord
layer_of_net from net = record { parent = from; additions = from_list net.additions; removals = from_list net.removals }

abbrev pub with_layer : History → ℕ → Option ℕ → NetTriples → History
with_layer history number from net = insert history number (layer_of_net from net)

-- what a new layer is made of
pub record IsNewLayer (history : History) (from : Option ℕ) (parts : List Facts) (number : ℕ) (net : NetTriples) : Type 0 where
  pub fresh : contains_key history number ≡ false
  pub stands : StandsForOption parts history from
  pub change : IsChangeOver parts net
  pub over : IsNumberOver parts number
  pub small : number < number_limit
  pub added : All IsTriple net.additions
  pub removed : All IsTriple net.removals

-- the facts of the file of a layer over these parts, by its new terms and its net change
pub record AreFactsOf (parts : List Facts) (number : ℕ) (new : Facts) (net : NetTriples) (facts : Facts) : Type 0 where
  pub kind : facts.kind ≡ Layer
  pub number_is : facts.number ≡ number
  pub parent : facts.parent ≡ layer_of parts
  pub terms_before : facts.terms_before ≡ new.terms_before
  pub predicates_before : facts.predicates_before ≡ new.predicates_before
  pub nodes : facts.nodes ≡ new.nodes
  pub predicates : facts.predicates ≡ new.predicates
  pub values : facts.values ≡ new.values
  pub additions : AreIdsBy parts new net.additions facts.additions
  pub removals : AreIdsBy parts new net.removals facts.removals
  pub term_map : facts.term_map ≡ []
  pub predicate_map : facts.predicate_map ≡ []
  pub added_kinds : All IsTriple net.additions
  pub removed_kinds : All IsTriple net.removals
