-- A squash drops a term that no triple of the layer has: layer 1 has `<a> <p> <b>` and `<c> <p> <b>`, layer 2 removes the latter, and
-- layer 3 is the squash of layer 2.
use Rattle.std.proofs.Common.{◌≡◌, ℕ, Bool, true, false, not, ◌&&◌, ◌||◌, List, [], ◌∷◌, reverse, Option, Some, None, refl, sym, ap, ◌∙◌, subst, true≢false}
use Rattle.std.specs.Option.{option_map, option_and_then}
use Rattle.std.specs.List.{list_any}
use Rattle.std.specs.List.Sorted.{IsStrictlySortedBy}
use Rattle.std.specs.Ordering.{nat_cmp, eq_by_cmp}
use Rattle.std.specs.Cmp.{nat_cmp_total, Equal-is}
use Rattle.std.specs.FinMap.{find, get, insert, from_entries, get-from_entries, get-insert}
use Rattle.ts_model.specs.declared.term.TermKind.TheVariants.{Node, Predicate}
use Rattle.ts_model.specs.TextTerm.{TextTerm}
use Rattle.ts_model.specs.TextTriple.{TextTriple}
use Rattle.ts_model.specs.Order.{triple_cmp, triple_cmp_total, triple_cmp-IsAntisymmetric}
use Rattle.ts_model.specs.Sets.{contains, members, from_list, union, difference}
use Rattle.ts_model.specs.History.{LayerRecord, History, set_or_none, additions_at, removals_at, chain_within, chain_of, content_of, content_at}
use Rattle.ts_model.specs.Birth.{has_term, mentions, first_place, birth_of}
use Rattle.ts_model.proofs.SetLaws.{contains-from_list, same_set}
use Rattle.ts_model.proofs.SetAlgebra.{contains-union, contains-difference, members-from_rising}
use Rattle.ts_store.specs.Makes.{squashed_layer}

abbrev is_among : List TextTriple → TextTriple → Bool
is_among triples q = list_any (eq_by_cmp triple_cmp q) triples

abbrev node : ℕ → TextTerm
node letter = record { kind = Node; spelling = 0x3C ∷ letter ∷ 0x3E ∷ [] }

abbrev edge : ℕ → TextTriple
edge subject = record { subject = node subject; predicate = record { kind = Predicate; spelling = 0x3C ∷ 0x70 ∷ 0x3E ∷ [] }; object = node 0x62 }

abbrev a_b : TextTriple
a_b = edge 0x61

abbrev c_b : TextTriple
c_b = edge 0x63

abbrev entries : List (ℕ × LayerRecord)
entries =
    (1, record { parent = None; additions = from_list (a_b ∷ c_b ∷ []); removals = from_list [] })
    ∷ (2, record { parent = Some 1; additions = from_list []; removals = from_list (c_b ∷ []) }) ∷ []

abbrev two : History
two = from_entries entries

at : (k : ℕ) → get two k ≡ find nat_cmp k entries
at k = get-from_entries nat_cmp_total entries k

abbrev parent_in : Option LayerRecord → Option ℕ
parent_in = option_and_then (λ layer. layer.parent)

chain_of_2 : chain_of two 2 ≡ 2 ∷ 1 ∷ []
chain_of_2 = ap (λ o. 2 ∷ chain_within 1 two (parent_in o)) (at 2) ∙ ap (λ o. 2 ∷ 1 ∷ chain_within 0 two (parent_in o)) (at 1)

added : (k : ℕ) → additions_at two k ≡ set_or_none (option_map (λ layer. layer.additions) (find nat_cmp k entries))
added k = ap (λ o. set_or_none (option_map (λ layer. layer.additions) o)) (at k)

removed : (k : ℕ) → removals_at two k ≡ set_or_none (option_map (λ layer. layer.removals) (find nat_cmp k entries))
removed k = ap (λ o. set_or_none (option_map (λ layer. layer.removals) o)) (at k)

made : (triples : List TextTriple) (q : TextTriple) → contains (from_list {R = triple_cmp} triples) q ≡ is_among triples q
made triples q = contains-from_list triple_cmp triple_cmp_total triples q

held : (q : TextTriple) → contains (content_at two 2) q ≡ ((is_among (a_b ∷ c_b ∷ []) q && not (is_among (c_b ∷ []) q)) || is_among [] q)
held q =
    ap (λ set. contains set q) (ap (content_of two) chain_of_2 ∙ (λ i. union (difference (added 1 i) (removed 2 i)) (added 2 i)))
    ∙ contains-union triple_cmp triple_cmp_total (difference (from_list (a_b ∷ c_b ∷ [])) (from_list (c_b ∷ []))) (from_list []) q
    ∙ (λ i. contains-difference triple_cmp triple_cmp_total triple_cmp-IsAntisymmetric (from_list (a_b ∷ c_b ∷ [])) (from_list (c_b ∷ [])) q i || made [] q i)
    ∙ (λ i. (made (a_b ∷ c_b ∷ []) q i && not (made (c_b ∷ []) q i)) || is_among [] q)

-- what is left is one triple
alone : (q : TextTriple) → ((is_among (a_b ∷ c_b ∷ []) q && not (is_among (c_b ∷ []) q)) || is_among [] q) ≡ is_among (a_b ∷ []) q
alone q = by_tests (eq_by_cmp triple_cmp q a_b) (eq_by_cmp triple_cmp q c_b) refl refl
  where
    by_tests : (a c : Bool) → eq_by_cmp triple_cmp q a_b ≡ a → eq_by_cmp triple_cmp q c_b ≡ c → (((a || (c || false)) && not (c || false)) || false) ≡ (a || false)
    by_tests true true is also =
        let same : q ≡ a_b = triple_cmp-IsAntisymmetric q a_b ((Equal-is (triple_cmp q a_b)).0 is) in
        let apart : false ≡ true = subst (λ t. eq_by_cmp triple_cmp t c_b ≡ true) same also in
        absurd (true≢false (sym apart))
    by_tests true false is also = refl
    by_tests false true is also = refl
    by_tests false false is also = refl

left : content_at two 2 ≡ from_list (a_b ∷ [])
left = same_set triple_cmp triple_cmp_total triple_cmp-IsAntisymmetric (content_at two 2) (from_list (a_b ∷ [])) (λ q. held q ∙ alone q ∙ sym (made (a_b ∷ []) q))

one : members (from_list {R = triple_cmp} (a_b ∷ [])) ≡ a_b ∷ []
unfolding IsStrictlySortedBy
one = members-from_rising triple_cmp triple_cmp_total triple_cmp-IsAntisymmetric (a_b ∷ []) (tt, tt)

-- ---- the squash

abbrev three : History
three = insert two 3 (squashed_layer two 2)

stands : get three 3 ≡ Some (squashed_layer two 2)
stands = get-insert nat_cmp_total two 3 (squashed_layer two 2) 3

chain_of_3 : chain_of three 3 ≡ 3 ∷ []
chain_of_3 = ap (λ o. 3 ∷ chain_within 2 three (parent_in o)) stands

listed : members (additions_at three 3) ≡ a_b ∷ []
listed = ap (λ o. members (set_or_none (option_map (λ layer. layer.additions) o))) stands ∙ ap members left ∙ one

born : (term : TextTerm) → birth_of three 3 term ≡ first_place (list_any (has_term term)) ((a_b ∷ []) ∷ [])
born term = ap (λ chain. first_place (mentions three term) (reverse chain)) chain_of_3 ∙ ap (λ triples. first_place (list_any (has_term term)) (triples ∷ [])) listed

pub birth_of_a : birth_of three 3 (node 0x61) ≡ Some 0
birth_of_a = born (node 0x61)

pub birth_of_c : birth_of three 3 (node 0x63) ≡ None
birth_of_c = born (node 0x63)
