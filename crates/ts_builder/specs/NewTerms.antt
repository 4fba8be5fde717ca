-- The terms of additions that no part of a chain has.
use Rattle.std.specs.Prelude.{◌+◌, ◌≤◌, ◌⊎◌, Bool, not, List}
use Rattle.std.specs.List.{list_any}
use Rattle.ts_model.specs.declared.term.TermKind.{TermKind}
use Rattle.ts_model.specs.declared.term.TermKind.TheVariants.{Node, Predicate, Value}
use Rattle.ts_model.specs.Birth.{is_term}
use Rattle.ts_model.specs.Limits.{number_limit}
use Rattle.ts_model.specs.Order.{term_cmp}
use Rattle.ts_model.specs.Sets.{SetOf, retain, size}
use Rattle.ts_model.specs.TextTerm.{TextTerm}
use Rattle.ts_model.specs.TextTriple.{TextTriple}
use Rattle.ts_model.specs.Totals.{terms_of, predicates_of}
use Rattle.ts_part.specs.Facts.{Facts, entries_of}
use Rattle.ts_chain.specs.Chain.{terms_in, predicates_in}

-- the new terms of a part that one of a kind is numbered among
abbrev pub numbered_by : TermKind → Facts → List TextTerm
numbered_by Node part = entries_of part
numbered_by Predicate part = part.predicates
numbered_by Value part = entries_of part

-- no part has the term
abbrev pub is_new_to : List Facts → TextTerm → Bool
is_new_to parts term = not (list_any (λ part. list_any (is_term term) (numbered_by term.kind part)) parts)

abbrev pub new_terms_of : List Facts → List TextTriple → SetOf term_cmp
new_terms_of parts additions = retain (terms_of additions) (is_new_to parts)

abbrev pub new_predicates_of : List Facts → List TextTriple → SetOf term_cmp
new_predicates_of parts additions = retain (predicates_of additions) (is_new_to parts)

-- the layer of these additions would have more terms or predicates than numbers
abbrev pub IsOver : List Facts → List TextTriple → Type 0
IsOver parts additions =
    (number_limit ≤ terms_in parts + size (new_terms_of parts additions))
    ⊎ (number_limit ≤ predicates_in parts + size (new_predicates_of parts additions))
