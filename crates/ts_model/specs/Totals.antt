-- How many terms and how many predicates triples have.
use Rattle.std.specs.Prelude.{ℕ, List, [], ◌∷◌, map, flat_map}
use Rattle.ts_model.specs.TextTriple.{TextTriple}
use Rattle.ts_model.specs.Order.{term_cmp}
use Rattle.ts_model.specs.Sets.{SetOf, from_list, size}

-- the nodes and values: the subjects and the objects
abbrev pub terms_of : List TextTriple → SetOf term_cmp
terms_of triples = from_list (flat_map (λ triple. triple.subject ∷ triple.object ∷ []) triples)

abbrev pub predicates_of : List TextTriple → SetOf term_cmp
predicates_of triples = from_list (map (λ triple. triple.predicate) triples)

abbrev pub term_count : List TextTriple → ℕ
term_count triples = size (terms_of triples)

abbrev pub predicate_count : List TextTriple → ℕ
predicate_count triples = size (predicates_of triples)
