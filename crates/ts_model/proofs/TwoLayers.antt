-- A base with `<b> <p> <c>` and a layer above it with `<a> <p> <c>`, on which the definitions of a history are tried.
use Rattle.std.proofs.Common.{◌≡◌, ℕ, suc, Bool, true, false, ◌||◌, List, [], ◌∷◌, cond, codes, reverse, Option, Some, None, refl, ap, ◌∙◌}
use Rattle.std.specs.Option.{option_map, option_and_then}
use Rattle.std.specs.List.{list_any}
use Rattle.std.specs.List.Sorted.{IsStrictlySortedBy}
use Rattle.std.specs.Ordering.{nat_cmp}
use Rattle.std.specs.Cmp.{nat_cmp_total}
use Rattle.std.specs.FinMap.{empty, find, get, from_entries, get-from_entries}
use Rattle.ts_model.specs.declared.term.TermKind.TheVariants.{Node, Predicate}
use Rattle.ts_model.specs.TextTerm.{TextTerm}
use Rattle.ts_model.specs.TextTriple.{TextTriple}
use Rattle.ts_model.specs.Order.{triple_cmp, triple_cmp_total, triple_cmp-IsAntisymmetric}
use Rattle.ts_model.specs.Sets.{members, from_list}
use Rattle.ts_model.specs.History.{LayerRecord, History, set_or_none, additions_at, chain_within, chain_of}
use Rattle.ts_model.specs.Birth.{has_term, mentions, first_place, birth_of}
use Rattle.ts_model.proofs.SetAlgebra.{members-from_rising}

abbrev node : ℕ → TextTerm
node letter = record { kind = Node; spelling = 0x3C ∷ letter ∷ 0x3E ∷ [] }

abbrev triple : ℕ → TextTriple
triple letter = record { subject = node letter; predicate = record { kind = Predicate; spelling = codes "<p>" }; object = node 0x63 }

abbrev adds : Option ℕ → TextTriple → LayerRecord
adds parent one = record { parent = parent; additions = from_list (one ∷ []); removals = empty }

abbrev layers : List (ℕ × LayerRecord)
layers = (1, adds None (triple 0x62)) ∷ (2, adds (Some 1) (triple 0x61)) ∷ []

abbrev two : History
two = from_entries layers

at : (k : ℕ) → get two k ≡ find nat_cmp k layers
at k = get-from_entries nat_cmp_total layers k

abbrev parent_in : Option LayerRecord → Option ℕ
parent_in = option_and_then (λ layer. layer.parent)

pub chain_of_two : chain_of two 2 ≡ 2 ∷ 1 ∷ []
chain_of_two = ap (λ o. 2 ∷ chain_within 1 two (parent_in o)) (at 2) ∙ ap (λ o. 2 ∷ 1 ∷ chain_within 0 two (parent_in o)) (at 1)

alone : (one : TextTriple) → members (from_list {R = triple_cmp} (one ∷ [])) ≡ one ∷ []
unfolding IsStrictlySortedBy
alone one = members-from_rising triple_cmp triple_cmp_total triple_cmp-IsAntisymmetric (one ∷ []) (tt, tt)

added : (k : ℕ) → additions_at two k ≡ set_or_none (option_map (λ layer. layer.additions) (find nat_cmp k layers))
added k = ap (λ o. set_or_none (option_map (λ layer. layer.additions) o)) (at k)

mentioned : (term : TextTerm) → mentions two term 1 ≡ list_any (has_term term) (triple 0x62 ∷ [])
mentioned term = ap (λ set. list_any (has_term term) (members set)) (added 1) ∙ ap (list_any (has_term term)) (alone (triple 0x62))

mentioned_above : (term : TextTerm) → mentions two term 2 ≡ list_any (has_term term) (triple 0x61 ∷ [])
mentioned_above term = ap (λ set. list_any (has_term term) (members set)) (added 2) ∙ ap (list_any (has_term term)) (alone (triple 0x61))

born : (term : TextTerm) → birth_of two 2 term ≡ first_place (λ one. has_term term one) (triple 0x62 ∷ triple 0x61 ∷ [])
born term =
    ap (λ chain. first_place (mentions two term) (reverse chain)) chain_of_two
    ∙ (λ i. cond (mentioned term i) (Some 0) (option_map suc (cond (mentioned_above term i) (Some 0) None)))
    ∙ (λ i. cond (or_false (has_term term (triple 0x62)) i) (Some 0) (option_map suc (cond (or_false (has_term term (triple 0x61)) i) (Some 0) None)))
  where
    or_false : (b : Bool) → (b || false) ≡ b
    or_false true = refl
    or_false false = refl

-- `<b>` stands in the base, and `<a>` in the layer above it alone
pub birth_of_b : birth_of two 2 (node 0x62) ≡ Some 0
birth_of_b = born (node 0x62)

pub birth_of_a : birth_of two 2 (node 0x61) ≡ Some 1
birth_of_a = born (node 0x61)

-- a term that stands nowhere has none
pub birth_of_d : birth_of two 2 (node 0x64) ≡ None
birth_of_d = born (node 0x64)
