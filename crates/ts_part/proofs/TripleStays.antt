-- The triples of an ancestor keep their numbers, and stand in the order that they have there.
use Rattle.std.proofs.Common.{◌≡◌, ℕ, List, [], ◌∷◌, map, Some, refl, sym, ap, ◌∙◌, true}
use Rattle.std.specs.Ordering.{eq_by_cmp, ordering_then}
use Rattle.std.specs.List.{AllByRecursion}
use Rattle.std.specs.List.Sorted.{IsStrictlySortedBy}
use Rattle.std.proofs.lemmas.List.Sorted.{list_any-IsPermutation}
use Rattle.ts_model.specs.TextTriple.{TextTriple}
use Rattle.ts_model.specs.Order.{triple_cmp}
use Rattle.ts_model.specs.Sets.{SetOf, contains, from_list, members}
use Rattle.ts_model.specs.History.{History, IsWellKept}
use Rattle.ts_model.specs.Listing.{birth_cmp, in_birth_order}
use Rattle.ts_model.proofs.BirthOrder.{birth_cmp_total, birth_cmp-IsAntisymmetric}
use Rattle.ts_model.proofs.SetLaws.{IsStrictlySortedBy-members, contains-from_list, members_are}
use Rattle.ts_part.specs.Numbers.{id_triple, id_triples}
use Rattle.ts_part.proofs.Ranks.{each_among, place_of}
use Rattle.ts_part.proofs.RisingLists.{rises_too}
use Rattle.ts_part.proofs.Births.{IsOver}
use Rattle.ts_part.proofs.Later.{old_order}
use Rattle.ts_part.proofs.Numbered.{number-stays}
use Rattle.ts_part.proofs.IdOrder.{in_set, only_order}
use Rattle.ts_part.proofs.TripleTerms.{IsTripleAt}

map-agree : {X Y : Type 0} (f g : X → Y) (xs : List X) → AllByRecursion (λ x. f x ≡ g x) xs → map f xs ≡ map g xs
map-agree f g [] each = refl
map-agree f g (x ∷ xs) each = λ i. each.0 i ∷ map-agree f g xs each.1 i

module _ (history : History) (kept : IsWellKept history) (a k : ℕ) (over : IsOver history (Some a) k) where
  abbrev There : TextTriple → Type 0
  There q = IsTripleAt history (Some a) q

  pub id-stays : (q : TextTriple) → There q → id_triple history k q ≡ id_triple history a q
  unfolding id_triple
  id-stays q h = λ i. record {
    s = number-stays history kept a k over q.subject h.subject i;
    p = number-stays history kept a k over q.predicate h.predicate i;
    o = number-stays history kept a k over q.object h.object i;
  }

  order_stays : (x y : TextTriple) → There x → There y → birth_cmp history k x y ≡ birth_cmp history a x y
  order_stays x y h g = λ i.
      ordering_then (old_order history kept a k over x.subject y.subject h.subject g.subject i)
      (ordering_then (old_order history kept a k over x.predicate y.predicate h.predicate g.predicate i) (old_order history kept a k over x.object y.object h.object g.object i))

  module _ (set : SetOf triple_cmp) (there : (q : TextTriple) → contains set q ≡ true → There q) where
    each_in_set : (P : TextTriple → Type 0) → ((q : TextTriple) → contains set q ≡ true → P q) → AllByRecursion P (in_birth_order history a set)
    each_in_set P gives =
        each_among (birth_cmp history a) (birth_cmp_total history a) P (in_birth_order history a set) (λ q is.
        let place = place_of (birth_cmp history a) (birth_cmp_total history a) (birth_cmp-IsAntisymmetric history a) (in_birth_order history a set) q is in
        gives q (in_set history kept a set place.0 q place.1))

    pub in_birth_order-stays : in_birth_order history k set ≡ in_birth_order history a set
    in_birth_order-stays =
        let rising : IsStrictlySortedBy (birth_cmp history k) (in_birth_order history a set) =
        rises_too (birth_cmp history k) (birth_cmp history a) There (λ x y h g less. order_stays x y h g ∙ less) (in_birth_order history a set) (each_in_set There there)
        (IsStrictlySortedBy-members (birth_cmp history a) (from_list {R = birth_cmp history a} (members set))) in
        sym (members_are (birth_cmp history k) (birth_cmp_total history k) (birth_cmp-IsAntisymmetric history k) (from_list (members set)) (in_birth_order history a set) rising (λ q.
        sym (list_any-IsPermutation (eq_by_cmp (birth_cmp history k) q) (members set) (in_birth_order history a set) (only_order history kept a set))
        ∙ sym (contains-from_list (birth_cmp history k) (birth_cmp_total history k) (members set) q)))

    pub id_triples-stay : id_triples history k set ≡ id_triples history a set
    unfolding id_triples
    id_triples-stay =
        ap (map (id_triple history k)) in_birth_order-stays
        ∙ map-agree (id_triple history k) (id_triple history a) (in_birth_order history a set)
        (each_in_set (λ q. id_triple history k q ≡ id_triple history a q) (λ q is. id-stays q (there q is)))
