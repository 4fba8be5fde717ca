-- That the triples of a layer, sorted by their births, are its listing.
use Rattle.std.proofs.Common.{◌≡◌, ℕ, ◌+◌, ◌<◌, true, false, List, [], map, length, get_or, unwrap_or, All, refl, sym, ap, ◌∙◌, subst, true≢false, arith}
use Rattle.std.specs.declared.cmp.Ordering.{Ordering}
use Rattle.std.specs.declared.cmp.Ordering.TheVariants.{Less, Equal, Greater}
use Rattle.std.specs.Ordering.{eq_by_cmp, is_eq, is_lt, ordering_then, ordering_reverse}
use Rattle.std.specs.Cmp.{IsTotalOrder, nat_cmp_total, on_total, then_total, Equal-is, tied_itself, eq_by_cmp_equiv}
use Rattle.std.specs.List.{IsDistinct}
use Rattle.std.specs.List.Sorted.{IsStrictlySortedBy, IsSorted, IsPermutation}
use Rattle.std.specs.Cmp.Lexicographic.{nat_list_cmp_total}
use Rattle.std.specs.FinMap.{IsAntisymmetric}
use Rattle.std.proofs.lemmas.List.{get_or-map, length-map}
use Rattle.std.proofs.lemmas.List.Sorted.{All-permutation, IsPermutation-map, list_any-IsPermutation}
use Rattle.std.proofs.lemmas.Map.Keys.{IsDistinct-from_sorted, IsDistinct-IsPermutation, apart_from_distinct, sorted_from_all_adjacent}
use Rattle.ts_model.specs.declared.term.TermKind.TheVariants.{Node}
use Rattle.ts_model.specs.TextTriple.{TextTriple}
use Rattle.ts_model.specs.TextTerm.{TextTerm}
use Rattle.ts_model.specs.History.{History}
use Rattle.ts_model.specs.Birth.{birth_of}
use Rattle.ts_model.specs.Listing.{birth_cmp, in_birth_order}
use Rattle.ts_model.specs.Order.{kind_place, triple_cmp, triple_cmp_total, triple_cmp-IsAntisymmetric}
use Rattle.ts_model.specs.Sets.{members, from_list}
use Rattle.ts_model.proofs.BirthOrder.{birth_cmp_total, birth_cmp-IsAntisymmetric}
use Rattle.ts_model.proofs.SetLaws.{contains-from_list, members_are}
use Rattle.ts_model.proofs.SetAlgebra.{members-from_rising}
use Rattle.ts_plain.specs.declared.listing.Keyed.{Keyed}
use Rattle.ts_plain.specs.Keys.{IsKeyed, born_cmp, keyed_cmp}

-- ---- a list that rises in one order, sorted in another in which only equal elements tie

only_less : (r : Ordering) → is_lt (ordering_reverse r) ≡ false → is_eq r ≡ false → r ≡ Less
only_less Less a b = refl
only_less Equal a b = absurd (true≢false b)
only_less Greater a b = absurd (true≢false a)

module _ {K : Type 0} {R S : K → K → Ordering} (o : IsTotalOrder S) (same : IsAntisymmetric S) where
  -- elements that differ in the one order differ in the other
  apart : IsTotalOrder R → (x y : K) → eq_by_cmp R x y ≡ false → eq_by_cmp S x y ≡ false
  apart total x y differ =
      elim (eq_by_cmp S x y) as (λ b. eq_by_cmp S x y ≡ b → b ≡ false) [
        | true ↦ λ e. let one : x ≡ y = same x y ((Equal-is (S x y)).0 e) in absurd (true≢false (sym (ap is_eq (tied_itself total x)) ∙ ap (eq_by_cmp R x) one ∙ differ))
        | false ↦ λ e. refl
      ] refl

  -- a list that rises in R, moved into the order S
  pub members-sorted : (xs ys : List K) (d : K) → IsTotalOrder R → IsStrictlySortedBy R xs → IsPermutation xs ys → IsSorted S ys → ys ≡ members (from_list {R = S} xs)
  members-sorted xs ys d total rise moved sorted =
      let distinct : IsDistinct (eq_by_cmp R) ys = IsDistinct-IsPermutation (eq_by_cmp R) (eq_by_cmp_equiv total).symm xs ys moved (IsDistinct-from_sorted R xs rise) in
      let rising : IsStrictlySortedBy S ys = sorted_from_all_adjacent o ys d (λ k below.
      only_less _
      (ap is_lt (sym (o.antisymm (get_or ys (k + 1) d) (get_or ys k d))) ∙ sorted k d (omega arith) below)
      (apart total _ _ (apart_from_distinct (eq_by_cmp R) ys k (k + 1) d distinct (omega arith) below))) in
      members_are S o same (from_list xs) ys rising (λ q. sym (list_any-IsPermutation (eq_by_cmp S q) xs ys moved) ∙ sym (contains-from_list S o xs q))

-- ---- triples with their births

abbrev pub triple_of : Keyed → TextTriple
triple_of keyed = keyed.triple.now

born_total : (birth : Keyed → ℕ) (term : Keyed → TextTerm) → IsTotalOrder (λ x y. born_cmp (birth x) (term x) (birth y) (term y))
born_total birth term =
    then_total (on_total birth nat_cmp_total)
    (then_total (on_total (λ (keyed : Keyed). kind_place (term keyed).kind) nat_cmp_total) (on_total (λ (keyed : Keyed). (term keyed).spelling) nat_list_cmp_total))

pub keyed_cmp_total : IsTotalOrder keyed_cmp
keyed_cmp_total =
    then_total (born_total (λ keyed. keyed.subject) (λ keyed. keyed.triple.now.subject))
    (then_total (born_total (λ keyed. keyed.predicate) (λ keyed. keyed.triple.now.predicate)) (born_total (λ keyed. keyed.object) (λ keyed. keyed.triple.now.object)))

module _ (history : History) (number : ℕ) where
  abbrev pub birth : TextTerm → ℕ
  birth term = unwrap_or (birth_of history number term) 0

  -- where the births are those of the layer, the triples are compared by them
  keyed_cmp-is : (x y : Keyed) → IsKeyed birth x → IsKeyed birth y → keyed_cmp x y ≡ birth_cmp history number (triple_of x) (triple_of y)
  keyed_cmp-is x y a b = λ i.
      ordering_then (born_cmp (a.subject i) x.triple.now.subject (b.subject i) y.triple.now.subject)
      (ordering_then (born_cmp (a.predicate i) x.triple.now.predicate (b.predicate i) y.triple.now.predicate)
      (born_cmp (a.object i) x.triple.now.object (b.object i) y.triple.now.object))

  abbrev some_term : TextTerm
  some_term = record { kind = Node; spelling = [] }

  abbrev some_triple : TextTriple
  some_triple = record { subject = some_term; predicate = some_term; object = some_term }

  abbrev some_keyed : TextTriple → Keyed
  some_keyed triple = record { triple = record { ref_ptr = (0, 0); now = triple }; subject = 0; predicate = 0; object = 0 }

  sorted_by_births : (keyed : List Keyed) → All (IsKeyed birth) keyed → IsSorted keyed_cmp keyed → IsSorted (birth_cmp history number) (map triple_of keyed)
  sorted_by_births keyed keys sorted = λ k d _ below.
      let same : length (map triple_of keyed) ≡ length keyed = length-map keyed triple_of in
      let e = some_keyed d in
      let here : k < length keyed = omega arith in
      let next : k + 1 < length keyed = omega arith in
      (λ i. is_lt (birth_cmp history number (get_or-map triple_of keyed (k + 1) e d next i) (get_or-map triple_of keyed k e d here i)))
      ∙ ap is_lt (sym (keyed_cmp-is (get_or keyed (k + 1) e) (get_or keyed k e) (keys (k + 1) e next) (keys k e here)))
      ∙ sorted k e (omega arith) next

  -- triples that rise, sorted by their births
  pub sorted_is : (keyed sorted : List Keyed) (triples : List TextTriple) → map triple_of keyed ≡ triples → IsStrictlySortedBy triple_cmp triples
      → All (IsKeyed birth) keyed → IsPermutation keyed sorted → IsSorted keyed_cmp sorted → map triple_of sorted ≡ in_birth_order history number (from_list triples)
  sorted_is keyed sorted triples these rise keys moved up =
      members-sorted (birth_cmp_total history number) (birth_cmp-IsAntisymmetric history number) triples (map triple_of sorted) some_triple triple_cmp_total
      rise
      (subst (λ l. IsPermutation l (map triple_of sorted)) these (IsPermutation-map triple_of keyed sorted moved))
      (sorted_by_births sorted (All-permutation (IsKeyed birth) keyed sorted moved keys) up)
      ∙ ap (λ l. members (from_list {R = birth_cmp history number} l)) (sym (members-from_rising triple_cmp triple_cmp_total triple_cmp-IsAntisymmetric triples rise))
