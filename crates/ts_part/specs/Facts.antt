-- What a part says: a layer, or a rollup of layers, as numbers and lists.
use Rattle.std.specs.Prelude.{◌≡◌, ℕ, ◌+◌, List, ◌++◌, length, map, slice_get, slice_index, Option, Some}
use Rattle.ts_model.specs.TextTerm.{TextTerm}
use Rattle.ts_plane.specs.declared.triple.IdTriple.{IdTriple}
use Rattle.ts_part.specs.declared.header.PartKind.{PartKind}
use Rattle.ts_part.specs.declared.header.PartKind.TheVariants.{Layer, Rollup}

pub record Facts : Type 0 where
  -- a layer, or a rollup of a layer
  pub kind : PartKind
  -- of the layer
  pub number : ℕ
  -- the layer's parent; the layer up to which a rollup reaches
  pub parent : Option ℕ
  -- how many nodes and values the parent has, and how many predicates
  pub terms_before : ℕ
  pub predicates_before : ℕ
  -- the new terms, each list in the order of the spellings
  pub nodes : List TextTerm
  pub predicates : List TextTerm
  pub values : List TextTerm
  -- the triples that come and that go, by the numbers of their terms
  pub additions : List IdTriple
  pub removals : List IdTriple
  -- of a rollup: which of the new numbers each entry has, of the nodes and then the values, and of the predicates
  pub term_map : List ℕ
  pub predicate_map : List ℕ

abbrev pub spellings : List TextTerm → List (List ℕ)
spellings terms = map (λ term. term.spelling) terms

-- how many nodes and values there are up to this part, and how many predicates
abbrev pub all_terms : Facts → ℕ
all_terms facts = facts.terms_before + length facts.nodes + length facts.values

abbrev pub all_predicates : Facts → ℕ
all_predicates facts = facts.predicates_before + length facts.predicates

-- the entries that nodes and values are numbered by
abbrev pub entries_of : Facts → List TextTerm
entries_of facts = facts.nodes ++ facts.values

-- which of the new numbers an entry has: in a layer its place, in a rollup what the map says
abbrev pub outer_number : PartKind → List ℕ → ℕ → ℕ
outer_number Layer map entry = entry
outer_number Rollup map entry = slice_index map entry

-- the part has a node or value under a number. Numbers go on where those before stop
pub record HasTerm (facts : Facts) (number : ℕ) (term : TextTerm) : Type 0 where
  pub entry : ℕ
  pub stands : slice_get (entries_of facts) entry ≡ Some term
  pub numbered : number ≡ facts.terms_before + 1 + outer_number facts.kind facts.term_map entry

-- the part has a predicate under a number
pub record HasPredicate (facts : Facts) (number : ℕ) (term : TextTerm) : Type 0 where
  pub entry : ℕ
  pub stands : slice_get facts.predicates entry ≡ Some term
  pub numbered : number ≡ facts.predicates_before + 1 + outer_number facts.kind facts.predicate_map entry
