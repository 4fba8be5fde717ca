-- How many terms and how many predicates a layer has: those that a layer of its chain mentions.
use Rattle.std.specs.Prelude.{ℕ, List, flat_map}
use Rattle.ts_model.specs.TextTriple.{TextTriple}
use Rattle.ts_model.specs.History.{History, additions_at, chain_of}
use Rattle.ts_model.specs.Sets.{members}
use Rattle.ts_model.specs.Totals.{term_count, predicate_count}

-- the additions of the layers of a chain
abbrev pub added_along : History → ℕ → List TextTriple
added_along history k = flat_map (λ j. members (additions_at history j)) (chain_of history k)

-- the nodes and values of the layer
abbrev pub terms_at : History → ℕ → ℕ
terms_at history k = term_count (added_along history k)

abbrev pub predicates_at : History → ℕ → ℕ
predicates_at history k = predicate_count (added_along history k)
