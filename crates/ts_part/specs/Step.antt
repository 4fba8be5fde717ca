-- What parts say of a history: the file of a layer, that of a rollup, and what both stand for.
use Rattle.std.specs.Prelude.{◌≡◌, ℕ, ◌-◌, Bool, nat_eq, ◌↔◌, List, [], ◌++◌, map, filter, false, ◌⊎◌, Option, Some, IsTrue}
use Rattle.ts_model.specs.declared.term.TermKind.{TermKind}
use Rattle.ts_model.specs.declared.term.TermKind.TheVariants.{Node, Predicate, Value}
use Rattle.ts_model.specs.TextTerm.{TextTerm}
use Rattle.ts_model.specs.TextTriple.{TextTriple}
use Rattle.ts_model.specs.Order.{kind_place, triple_cmp}
use Rattle.ts_model.specs.Sets.{SetOf, contains, difference, members}
use Rattle.ts_model.specs.History.{History, additions_at, content_at, content_at_parent, parent_at, removals_at}
use Rattle.ts_part.specs.declared.header.PartKind.TheVariants.{Layer, Rollup}
use Rattle.ts_part.specs.Facts.{Facts, HasTerm, HasPredicate}
use Rattle.ts_part.specs.Numbers.{id_triples, number_of, numbered_with, totals_at}
use Rattle.ts_part.specs.Part.{PartSays}

abbrev pub is_of_kind : TermKind → TextTerm → Bool
is_of_kind kind term = nat_eq (kind_place term.kind) (kind_place kind)

-- the terms of a kind that a layer has and another, or none, lacks, in the order of their spellings
abbrev pub new_terms : TermKind → History → Option ℕ → ℕ → List TextTerm
new_terms kind history from k =
    filter (is_of_kind kind) (members (difference (numbered_with kind history (Some k)) (numbered_with kind history from)))

-- the triples that a layer has more than another, or none, and those that it has fewer
abbrev pub gained : History → Option ℕ → ℕ → SetOf triple_cmp
gained history from k = difference (content_at history k) (content_at_parent history from)

abbrev pub lost : History → Option ℕ → ℕ → SetOf triple_cmp
lost history from k = difference (content_at_parent history from) (content_at history k)

-- the triples are all among others
abbrev pub AreAmong : SetOf triple_cmp → SetOf triple_cmp → Type 0
AreAmong triples others = (triple : TextTriple) → IsTrue (contains triples triple) → IsTrue (contains others triple)

-- the facts of a layer's file
unfoldable pub layer_facts : History → ℕ → Facts
layer_facts history k =
    let from = parent_at history k in
    record {
      kind = Layer;
      number = k;
      parent = from;
      terms_before = (totals_at history from).0;
      predicates_before = (totals_at history from).1;
      nodes = new_terms Node history from k;
      predicates = new_terms Predicate history from k;
      values = new_terms Value history from k;
      additions = id_triples history k (additions_at history k);
      removals = id_triples history k (removals_at history k);
      term_map = [];
      predicate_map = [];
    }

-- which of the numbers after so many a term has
abbrev pub number_after : ℕ → History → ℕ → TextTerm → ℕ
number_after before history k term = number_of history k term - before - 1

-- the facts of a rollup of layer k up to another, or of all layers below it
unfoldable pub rollup_facts : History → Option ℕ → ℕ → Facts
rollup_facts history from k =
    let terms_before = (totals_at history from).0 in
    let predicates_before = (totals_at history from).1 in
    record {
      kind = Rollup;
      number = k;
      parent = from;
      terms_before = terms_before;
      predicates_before = predicates_before;
      nodes = new_terms Node history from k;
      predicates = new_terms Predicate history from k;
      values = new_terms Value history from k;
      additions = id_triples history k (gained history from k);
      removals = id_triples history k (lost history from k);
      term_map = map (number_after terms_before history k) (new_terms Node history from k ++ new_terms Value history from k);
      predicate_map = map (number_after predicates_before history k) (new_terms Predicate history from k);
    }

-- the file is that of a layer of the history
abbrev pub LayerSays : List ℕ → History → ℕ → Type 0
LayerSays file history k = PartSays file (layer_facts history k)

-- the file is the rollup of a layer up to a proper ancestor of it, or of its whole chain
abbrev pub RollupSays : List ℕ → History → Option ℕ → ℕ → Type 0
RollupSays file history from k = PartSays file (rollup_facts history from k)

-- the term is new at a layer, over another or none
pub record IsNewTerm (history : History) (from : Option ℕ) (k : ℕ) (term : TextTerm) : Type 0 where
  pub there : IsTrue (contains (numbered_with term.kind history (Some k)) term)
  pub before : contains (numbered_with term.kind history from) term ≡ false

-- The facts stand for the step of a history from an ancestor, or from none, to a layer: the terms that the layer has and the ancestor
-- lacks, with their numbers at the layer, the triples that it has more, and those that it has fewer. A layer's file and a rollup's do.
pub record StandsForStep (history : History) (from : Option ℕ) (k : ℕ) (facts : Facts) : Type 0 where
  pub number : facts.number ≡ k
  pub parent : facts.parent ≡ from
  pub before : (facts.terms_before, facts.predicates_before) ≡ totals_at history from
  pub terms : (number : ℕ) (term : TextTerm) → HasTerm facts number term
      ↔ (((term.kind ≡ Node) ⊎ (term.kind ≡ Value)) × IsNewTerm history from k term × (number ≡ number_of history k term))
  pub predicates : (number : ℕ) (term : TextTerm) → HasPredicate facts number term
      ↔ ((term.kind ≡ Predicate) × IsNewTerm history from k term × (number ≡ number_of history k term))
  pub additions : facts.additions ≡ id_triples history k (gained history from k)
  pub removals : facts.removals ≡ id_triples history k (lost history from k)
