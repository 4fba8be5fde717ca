-- One more layer above others: what it leaves, and which terms it bears.
use Rattle.std.proofs.Common.{◌≡◌, ℕ, ◌+◌, ◌<◌, Bool, not, ◌&&◌, ◌||◌, List, [], ◌∷◌, ◌++◌, map, take, length, get_or, sym, ap, ◌∙◌, arith}
use Rattle.std.specs.List.{list_any}
use Rattle.std.specs.List.Sorted.{IsStrictlySortedBy}
use Rattle.std.specs.Ordering.{eq_by_cmp}
use Rattle.std.specs.FinMap.{empty}
use Rattle.std.proofs.lemmas.List.{map_more, length-map, length-take-le}
use Rattle.std.proofs.lemmas.List.Sums.{fold_push}
use denote.Ref.{Bor}
use Rattle.std.specs.BTreeSet.{BTreeSet}
use Rattle.ts_model.specs.TextTriple.{TextTriple}
use Rattle.ts_model.specs.TextTerm.{TextTerm}
use Rattle.ts_model.specs.Order.{triple_cmp, triple_cmp_total, triple_cmp-IsAntisymmetric}
use Rattle.ts_model.specs.Sets.{SetOf, contains, members, from_list, difference}
use Rattle.ts_model.proofs.ListLaws.{list_any-map}
use Rattle.ts_model.proofs.SetLaws.{contains-from_list, members_are}
use Rattle.ts_model.proofs.SetAlgebra.{contains-union, contains-difference}
use Rattle.ts_plain.specs.declared.write.PlainLayer.{PlainLayer}
use Rattle.ts_plain.specs.Chain.{content_above, content_over, is_mentioned, birth_over}
use Rattle.ts_plain.specs.Held.{holds, noted}
use Rattle.ts_plain.proofs.HeldLaws.{first_place-push}

abbrev pub is_among : List TextTriple → TextTriple → Bool
is_among triples triple = list_any (eq_by_cmp triple_cmp triple) triples

pub contains-content_above : (below : SetOf triple_cmp) (layer : PlainLayer) (triple : TextTriple)
    → contains (content_above below layer) triple ≡ ((contains below triple && not (is_among layer.removals.items triple)) || is_among layer.additions.items triple)
contains-content_above below layer triple =
    let removed : contains (from_list {R = triple_cmp} layer.removals.items) triple ≡ is_among layer.removals.items triple = contains-from_list triple_cmp triple_cmp_total layer.removals.items triple in
    let added : contains (from_list {R = triple_cmp} layer.additions.items) triple ≡ is_among layer.additions.items triple = contains-from_list triple_cmp triple_cmp_total layer.additions.items triple in
    let left : contains (difference below (from_list layer.removals.items)) triple ≡ (contains below triple && not (is_among layer.removals.items triple)) =
    contains-difference triple_cmp triple_cmp_total triple_cmp-IsAntisymmetric below (from_list layer.removals.items) triple ∙ ap (λ b. contains below triple && not b) removed in
    contains-union triple_cmp triple_cmp_total (difference below (from_list layer.removals.items)) (from_list layer.additions.items) triple ∙ (λ i. left i || added i)

abbrev pub seen : List (Bor PlainLayer) → List PlainLayer
seen chain = map (λ layer. layer.now) chain

module _ (chain : List (Bor PlainLayer)) (i : ℕ) (layer : Bor PlainLayer) (below : i < length chain) (is : layer ≡ get_or chain i layer) where
  seen_more : seen (take (i + 1) chain) ≡ seen (take i chain) ++ layer.now ∷ []
  seen_more = map_more (λ (l : Bor PlainLayer). l.now) chain i layer below ∙ ap (λ (l : Bor PlainLayer). seen (take i chain) ++ l.now ∷ []) (sym is)

  pub content_over-more : content_over (seen (take (i + 1) chain)) ≡ content_above (content_over (seen (take i chain))) layer.now
  content_over-more = ap content_over seen_more ∙ fold_push content_above empty (seen (take i chain)) layer.now

  seen_length : length (seen (take i chain)) ≡ i
  seen_length = length-map (take i chain) (λ (l : Bor PlainLayer). l.now) ∙ length-take-le i chain (omega arith)

  pub birth_over-more : (term : TextTerm) → birth_over (seen (take (i + 1) chain)) term ≡ noted (birth_over (seen (take i chain)) term) (is_mentioned term layer.now) i
  birth_over-more term =
      ap (λ layers. birth_over layers term) seen_more
      ∙ first_place-push (is_mentioned term) (seen (take i chain)) layer.now
      ∙ ap (noted (birth_over (seen (take i chain)) term) (is_mentioned term layer.now)) seen_length

-- the rising list of what a set holds is its list of members
pub members-of_held : (held : BTreeSet (Bor TextTriple)) (set : SetOf triple_cmp) → IsStrictlySortedBy triple_cmp (map (λ triple. triple.now) held.keys) → ((triple : TextTriple) → holds held triple ≡ contains set triple)
    → map (λ triple. triple.now) held.keys ≡ members set
members-of_held held set rising is =
    members_are triple_cmp triple_cmp_total triple_cmp-IsAntisymmetric set (map (λ triple. triple.now) held.keys) rising
    (λ triple. list_any-map (eq_by_cmp triple_cmp triple) (λ (triple : Bor TextTriple). triple.now) held.keys ∙ is triple)
