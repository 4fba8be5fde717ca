-- The number of a term at a layer: its place in birth order, counted from 1. Nodes and values are numbered together, predicates
-- for themselves.
use Rattle.std.specs.Prelude.{ℕ, suc, ◌<◌, List, [], map, Option, None, Some, IsTrue}
use Rattle.std.specs.List.{count_by}
use Rattle.std.specs.Ordering.{is_lt}
use Rattle.std.specs.FinMap.{empty}
use Rattle.ts_model.specs.declared.term.TermKind.{TermKind}
use Rattle.ts_model.specs.declared.term.TermKind.TheVariants.{Node, Predicate, Value}
use Rattle.ts_model.specs.Limits.{number_limit}
use Rattle.ts_model.specs.TextTerm.{TextTerm}
use Rattle.ts_model.specs.TextTriple.{TextTriple}
use Rattle.ts_model.specs.Order.{term_cmp, triple_cmp}
use Rattle.ts_model.specs.Sets.{SetOf, contains, from_list, members, size}
use Rattle.ts_model.specs.Totals.{terms_of, predicates_of}
use Rattle.ts_model.specs.ChainTotals.{added_along}
use Rattle.ts_model.specs.History.{History}
use Rattle.ts_model.specs.Listing.{key_cmp, in_birth_order}
use Rattle.ts_plane.specs.declared.triple.IdTriple.{IdTriple}

-- the nodes and values of a layer; of no layer, none
abbrev pub terms_of_layer : History → Option ℕ → SetOf term_cmp
terms_of_layer history None = empty
terms_of_layer history (Some k) = terms_of (added_along history k)

abbrev pub predicates_of_layer : History → Option ℕ → SetOf term_cmp
predicates_of_layer history None = empty
predicates_of_layer history (Some k) = predicates_of (added_along history k)

-- the terms of a layer that a term of this kind is numbered among
abbrev pub numbered_with : TermKind → History → Option ℕ → SetOf term_cmp
numbered_with Node history layer = terms_of_layer history layer
numbered_with Predicate history layer = predicates_of_layer history layer
numbered_with Value history layer = terms_of_layer history layer

-- the term is one of a layer's; none has any
abbrev pub IsTermAt : History → Option ℕ → TextTerm → Type 0
IsTermAt history layer term = IsTrue (contains (numbered_with term.kind history layer) term)

-- how many nodes and values, and how many predicates
abbrev pub totals_at : History → Option ℕ → ℕ × ℕ
totals_at history layer = (size (terms_of_layer history layer), size (predicates_of_layer history layer))

-- both are below the limit of numbers
abbrev pub TotalsFit : History → ℕ → Type 0
TotalsFit history k = ((totals_at history (Some k)).0 < number_limit) × ((totals_at history (Some k)).1 < number_limit)

-- one more than how many of them have a lesser key
unfoldable pub number_of : History → ℕ → TextTerm → ℕ
number_of history k term =
    suc (count_by (λ other. is_lt (key_cmp history k other term)) (members (numbered_with term.kind history (Some k))))

-- the terms that those of a kind are numbered among, in birth order: a number is a place, counted from 1
abbrev pub in_order : TermKind → History → Option ℕ → List TextTerm
in_order kind history None = []
in_order kind history (Some k) = members (from_list {R = key_cmp history k} (members (numbered_with kind history (Some k))))

-- a triple by the numbers of its terms
unfoldable pub id_triple : History → ℕ → TextTriple → IdTriple
id_triple history k triple = record {
  s = number_of history k triple.subject;
  p = number_of history k triple.predicate;
  o = number_of history k triple.object;
}

-- triples of a layer by their numbers, rising, since numbers rise in birth order
unfoldable pub id_triples : History → ℕ → SetOf triple_cmp → List IdTriple
id_triples history k triples = map (id_triple history k) (in_birth_order history k triples)
