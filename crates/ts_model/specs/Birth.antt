-- The birth of a term: the layer of a chain that first mentions it.
use Rattle.std.specs.Prelude.{ℕ, suc, Bool, ◌||◌, if◌then◌else◌, List, [], ◌∷◌, reverse, Option, None, Some}
use Rattle.std.specs.Option.{option_map}
use Rattle.std.specs.List.{list_any}
use Rattle.std.specs.Ordering.{eq_by_cmp}
use Rattle.ts_model.specs.TextTerm.{TextTerm}
use Rattle.ts_model.specs.TextTriple.{TextTriple}
use Rattle.ts_model.specs.Order.{term_cmp}
use Rattle.ts_model.specs.Sets.{members}
use Rattle.ts_model.specs.History.{History, additions_at, chain_of}

abbrev pub is_term : TextTerm → TextTerm → Bool
is_term = eq_by_cmp term_cmp

-- the term stands in the triple, in its kind
abbrev pub has_term : TextTerm → TextTriple → Bool
has_term term triple = is_term term triple.subject || is_term term triple.predicate || is_term term triple.object

-- the term stands in one of the layer's additions
abbrev pub mentions : History → TextTerm → ℕ → Bool
mentions history term k = list_any (has_term term) (members (additions_at history k))

-- the place of the first item that passes a test
abbrev pub first_place : {A : Type 0} → (A → Bool) → List A → Option ℕ
first_place test [] = None
first_place test (x ∷ xs) = if test x then Some 0 else option_map suc (first_place test xs)

-- how many layers of the chain of k stand below the lowest one that mentions the term; None where none does
abbrev pub birth_of : History → ℕ → TextTerm → Option ℕ
birth_of history k term = first_place (mentions history term) (reverse (chain_of history k))
