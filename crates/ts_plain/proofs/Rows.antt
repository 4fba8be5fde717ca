-- Five layers, on which the definitions of a history are tried. Layer 3 has no changes; 2 and 5 are children of 1, so the
-- parent of 5 isn't the number before it; `<c>`, which layer 2 leaves without a triple, comes back in layer 4; and one
-- spelling is a node and a predicate, and stands in a value.
use Rattle.std.proofs.Common.{◌≡◌, ℕ, Bool, true, false, not, ◌&&◌, ◌||◌, List, [], ◌∷◌, codes, reverse, Option, Some, None, refl, ap, ◌∙◌}
use Rattle.std.specs.Option.{option_map, option_and_then}
use Rattle.std.specs.List.{list_any}
use Rattle.std.specs.List.Sorted.{IsStrictlySortedBy}
use Rattle.std.specs.Ordering.{nat_cmp}
use Rattle.std.specs.Cmp.{nat_cmp_total}
use Rattle.std.specs.FinMap.{find, get, from_entries, get-from_entries}
use Rattle.ts_model.specs.declared.signed.Sign.TheVariants.{Add, Remove}
use Rattle.ts_model.specs.declared.term.TermKind.TheVariants.{Node, Predicate, Value}
use Rattle.ts_model.specs.TextTerm.{TextTerm}
use Rattle.ts_model.specs.TextTriple.{TextTriple}
use Rattle.ts_model.specs.Order.{triple_cmp, triple_cmp_total, triple_cmp-IsAntisymmetric}
use Rattle.ts_model.specs.Sets.{SetOf, contains, members, from_list, union, difference}
use Rattle.ts_model.specs.History.{LayerRecord, History, set_or_none, additions_at, removals_at, chain_within, chain_of, content_of, content_at}
use Rattle.ts_model.specs.Birth.{has_term, mentions, first_place, birth_of}
use Rattle.ts_model.specs.NetChange.{last_sign}
use Rattle.ts_model.proofs.SetLaws.{contains-from_list}
use Rattle.ts_model.proofs.SetAlgebra.{contains-union, contains-difference, members-from_rising}
use Rattle.ts_plain.proofs.LayerLaws.{is_among}

abbrev node : ℕ → TextTerm
node letter = record { kind = Node; spelling = 0x3C ∷ letter ∷ 0x3E ∷ [] }

abbrev predicate : ℕ → TextTerm
predicate letter = record { kind = Predicate; spelling = 0x3C ∷ letter ∷ 0x3E ∷ [] }

-- `"<q>"`
abbrev value_q : TextTerm
value_q = record { kind = Value; spelling = codes "\"<q>\"" }

abbrev edge : ℕ → ℕ → TextTriple
edge subject object = record { subject = node subject; predicate = predicate 0x70; object = node object }

abbrev c_b : TextTriple
c_b = edge 0x63 0x62

abbrev a_b : TextTriple
a_b = edge 0x61 0x62

abbrev a_d : TextTriple
a_d = edge 0x61 0x64

abbrev c_d : TextTriple
c_d = edge 0x63 0x64

-- `<q> <q> "<q>"`
abbrev q_q : TextTriple
q_q = record { subject = node 0x71; predicate = predicate 0x71; object = value_q }

abbrev layer : Option ℕ → List TextTriple → List TextTriple → LayerRecord
layer parent additions removals = record { parent = parent; additions = from_list additions; removals = from_list removals }

abbrev entries : List (ℕ × LayerRecord)
entries =
    (1, layer None (c_b ∷ q_q ∷ []) []) ∷ (2, layer (Some 1) (a_b ∷ []) (c_b ∷ [])) ∷ (3, layer (Some 2) [] [])
    ∷ (4, layer (Some 3) (a_d ∷ c_d ∷ []) []) ∷ (5, layer (Some 1) [] (q_q ∷ [])) ∷ []

abbrev five : History
five = from_entries entries

at : (k : ℕ) → get five k ≡ find nat_cmp k entries
at k = get-from_entries nat_cmp_total entries k

abbrev parent_in : Option LayerRecord → Option ℕ
parent_in = option_and_then (λ layer. layer.parent)

pub chain_of_4 : chain_of five 4 ≡ 4 ∷ 3 ∷ 2 ∷ 1 ∷ []
chain_of_4 =
    ap (λ o. 4 ∷ chain_within 3 five (parent_in o)) (at 4)
    ∙ ap (λ o. 4 ∷ 3 ∷ chain_within 2 five (parent_in o)) (at 3)
    ∙ ap (λ o. 4 ∷ 3 ∷ 2 ∷ chain_within 1 five (parent_in o)) (at 2)
    ∙ ap (λ o. 4 ∷ 3 ∷ 2 ∷ 1 ∷ chain_within 0 five (parent_in o)) (at 1)

pub chain_of_5 : chain_of five 5 ≡ 5 ∷ 1 ∷ []
chain_of_5 = ap (λ o. 5 ∷ chain_within 4 five (parent_in o)) (at 5) ∙ ap (λ o. 5 ∷ 1 ∷ chain_within 3 five (parent_in o)) (at 1)

added : (k : ℕ) → additions_at five k ≡ set_or_none (option_map (λ layer. layer.additions) (find nat_cmp k entries))
added k = ap (λ o. set_or_none (option_map (λ layer. layer.additions) o)) (at k)

removed : (k : ℕ) → removals_at five k ≡ set_or_none (option_map (λ layer. layer.removals) (find nat_cmp k entries))
removed k = ap (λ o. set_or_none (option_map (λ layer. layer.removals) o)) (at k)

-- ---- births

listed : (triples : List TextTriple) → IsStrictlySortedBy triple_cmp triples → members (from_list {R = triple_cmp} triples) ≡ triples
listed triples rise = members-from_rising triple_cmp triple_cmp_total triple_cmp-IsAntisymmetric triples rise

none : members (from_list {R = triple_cmp} []) ≡ []
unfolding IsStrictlySortedBy
none = listed [] tt

one : (triple : TextTriple) → members (from_list {R = triple_cmp} (triple ∷ [])) ≡ triple ∷ []
unfolding IsStrictlySortedBy
one triple = listed (triple ∷ []) (tt, tt)

first_two : members (from_list {R = triple_cmp} (c_b ∷ q_q ∷ [])) ≡ c_b ∷ q_q ∷ []
unfolding IsStrictlySortedBy
first_two = listed (c_b ∷ q_q ∷ []) ((refl, tt), (tt, tt))

last_two : members (from_list {R = triple_cmp} (a_d ∷ c_d ∷ [])) ≡ a_d ∷ c_d ∷ []
unfolding IsStrictlySortedBy
last_two = listed (a_d ∷ c_d ∷ []) ((refl, tt), (tt, tt))

abbrev among : TextTerm → List TextTriple → Bool
among term triples = list_any (has_term term) triples

born : (term : TextTerm) → birth_of five 4 term ≡ first_place (among term) ((c_b ∷ q_q ∷ []) ∷ (a_b ∷ []) ∷ [] ∷ (a_d ∷ c_d ∷ []) ∷ [])
born term =
    ap (λ chain. first_place (mentions five term) (reverse chain)) chain_of_4
    ∙ (λ i. first_place (among term) (members (added 1 i) ∷ members (added 2 i) ∷ members (added 3 i) ∷ members (added 4 i) ∷ []))
    ∙ (λ i. first_place (among term) (first_two i ∷ one a_b i ∷ none i ∷ last_two i ∷ []))

-- what comes back keeps its birth
pub birth_of_c : birth_of five 4 (node 0x63) ≡ Some 0
birth_of_c = born (node 0x63)

pub birth_of_a : birth_of five 4 (node 0x61) ≡ Some 1
birth_of_a = born (node 0x61)

-- a layer without changes counts
pub birth_of_d : birth_of five 4 (node 0x64) ≡ Some 3
birth_of_d = born (node 0x64)

-- a spelling is one term in each kind
pub birth_of_q : birth_of five 4 (node 0x71) ≡ Some 0
birth_of_q = born (node 0x71)

pub birth_of_predicate_q : birth_of five 4 (predicate 0x71) ≡ Some 0
birth_of_predicate_q = born (predicate 0x71)

pub birth_of_predicate_c : birth_of five 4 (predicate 0x63) ≡ None
birth_of_predicate_c = born (predicate 0x63)

-- ---- content

abbrev Change : Type 0
Change = List TextTriple × List TextTriple

-- changes from the newest layer to the base, of which the base has additions alone
abbrev stands : List Change → TextTriple → Bool
stands [] q = false
stands (change ∷ []) q = is_among change.0 q
stands (change ∷ below ∷ changes) q = (stands (below ∷ changes) q && not (is_among change.1 q)) || is_among change.0 q

made : (triples : List TextTriple) (q : TextTriple) → contains (from_list {R = triple_cmp} triples) q ≡ is_among triples q
made triples q = contains-from_list triple_cmp triple_cmp_total triples q

over : (below : SetOf triple_cmp) (additions removals : List TextTriple) (q : TextTriple)
    → contains (union (difference below (from_list removals)) (from_list additions)) q ≡ ((contains below q && not (is_among removals q)) || is_among additions q)
over below additions removals q =
    contains-union triple_cmp triple_cmp_total (difference below (from_list removals)) (from_list additions) q
    ∙ (λ i. contains-difference triple_cmp triple_cmp_total triple_cmp-IsAntisymmetric below (from_list removals) q i || made additions q i)
    ∙ (λ i. (contains below q && not (made removals q i)) || is_among additions q)

abbrev of_1 : SetOf triple_cmp
of_1 = from_list (c_b ∷ q_q ∷ [])

abbrev of_2 : SetOf triple_cmp
of_2 = union (difference of_1 (from_list (c_b ∷ []))) (from_list (a_b ∷ []))

abbrev of_3 : SetOf triple_cmp
of_3 = union (difference of_2 (from_list [])) (from_list [])

content_4 : content_at five 4 ≡ union (difference of_3 (from_list [])) (from_list (a_d ∷ c_d ∷ []))
content_4 =
    ap (content_of five) chain_of_4
    ∙ (λ i. union (difference (union (difference (union (difference (added 1 i) (removed 2 i)) (added 2 i)) (removed 3 i)) (added 3 i)) (removed 4 i)) (added 4 i))

held_4 : (q : TextTriple) → contains (content_at five 4) q
    ≡ stands ((a_d ∷ c_d ∷ [], []) ∷ ([], []) ∷ (a_b ∷ [], c_b ∷ []) ∷ (c_b ∷ q_q ∷ [], []) ∷ []) q
held_4 q =
    ap (λ set. contains set q) content_4
    ∙ over of_3 (a_d ∷ c_d ∷ []) [] q
    ∙ ap (λ b. (b && not (is_among [] q)) || is_among (a_d ∷ c_d ∷ []) q) (
    over of_2 [] [] q
    ∙ ap (λ b. (b && not (is_among [] q)) || is_among [] q) (
    over of_1 (a_b ∷ []) (c_b ∷ []) q
    ∙ ap (λ b. (b && not (is_among (c_b ∷ []) q)) || is_among (a_b ∷ []) q) (made (c_b ∷ q_q ∷ []) q)
    ))

held_5 : (q : TextTriple) → contains (content_at five 5) q ≡ stands (([], q_q ∷ []) ∷ (c_b ∷ q_q ∷ [], []) ∷ []) q
held_5 q =
    ap (λ set. contains set q) (ap (content_of five) chain_of_5 ∙ (λ i. union (difference (added 1 i) (removed 5 i)) (added 5 i)))
    ∙ over of_1 [] (q_q ∷ []) q
    ∙ ap (λ b. (b && not (is_among (q_q ∷ []) q)) || is_among [] q) (made (c_b ∷ q_q ∷ []) q)

-- a removal in the middle of the chain holds above it, and in its own chain alone
pub c_b-gone : contains (content_at five 4) c_b ≡ false
c_b-gone = held_4 c_b

pub c_d-there : contains (content_at five 4) c_d ≡ true
c_d-there = held_4 c_d

pub q_q-there : contains (content_at five 4) q_q ≡ true
q_q-there = held_4 q_q

pub c_b-still : contains (content_at five 5) c_b ≡ true
c_b-still = held_5 c_b

pub q_q-gone : contains (content_at five 5) q_q ≡ false
q_q-gone = held_5 q_q

-- ---- a triple that is removed and added in one body, in both orders

pub removed_then_added : last_sign (record { sign = Remove; triple = a_b } ∷ record { sign = Add; triple = a_b } ∷ []) a_b ≡ Some Add
removed_then_added = refl

pub added_then_removed : last_sign (record { sign = Add; triple = a_b } ∷ record { sign = Remove; triple = a_b } ∷ []) a_b ≡ Some Remove
added_then_removed = refl
