-- Lists of number triples, rising, each once.
use Rattle.std.proofs.Common.{◌≡◌, ◌≢◌, ℕ, ◌⊎◌, inl, inr, Bool, true, false, ◌&&◌, eqb, List, [], ◌∷◌, map, refl, sym, ap, ◌∙◌}
use Rattle.std.specs.Ordering.{eq_by_cmp, is_eq, nat_cmp, ordering_then}
use Rattle.std.specs.Cmp.{Equal-is, nat_cmp_total, tied_itself}
use Rattle.std.specs.FinMap.{nat_cmp-IsAntisymmetric}
use Rattle.std.specs.declared.cmp.Ordering.{Ordering}
use Rattle.std.specs.declared.cmp.Ordering.TheVariants.{Less, Equal, Greater}
use Rattle.std.specs.List.{dedup}
use Rattle.std.specs.List.Sorted.{IsPermutation, IsSorted, IsStrictlySortedBy}
use Rattle.std.proofs.lemmas.Bool.Decides.{eqb_tells}
use Rattle.ts_model.specs.Sets.{from_list, members}
use Rattle.ts_model.proofs.SetAlgebra.{members-from_rising}
use Rattle.ts_plane.specs.declared.triple.IdTriple.{IdTriple}
use Rattle.ts_plane.specs.Triple.{triple_cmp as id_cmp}
use Rattle.ts_chain.proofs.IdOrder.{triple_cmp_total, triple_cmp-IsAntisymmetric}
use Rattle.ts_builder.proofs.TermLemmas.{distinct_by}

map-itself : {X : Type 0} (xs : List X) → map (λ x. x) xs ≡ xs
map-itself [] = refl
map-itself (x ∷ xs) = ap (λ ys. x ∷ ys) (map-itself xs)

abbrev pub same_id : IdTriple → IdTriple → Bool
same_id x y = eqb x.s y.s && (eqb x.p y.p && eqb x.o y.o)

tie_then : (a b : Ordering) → (is_eq a && is_eq b) ≡ is_eq (ordering_then a b)
tie_then Less b = refl
tie_then Equal b = refl
tie_then Greater b = refl

tie_is : (m n : ℕ) → eqb m n ≡ is_eq (nat_cmp m n)
tie_is m n = by (eqb_tells m n) (is_eq (nat_cmp m n)) refl
  where
    by : ((eqb m n ≡ true) × (m ≡ n)) ⊎ ((eqb m n ≡ false) × (m ≢ n)) → (tied : Bool) → is_eq (nat_cmp m n) ≡ tied → eqb m n ≡ is_eq (nat_cmp m n)
    by (inl same) tied is = same.0 ∙ sym (ap (λ k. is_eq (nat_cmp m k)) (sym same.1) ∙ ap is_eq (tied_itself nat_cmp_total m))
    by (inr other) true is = absurd (other.1 (nat_cmp-IsAntisymmetric m n ((Equal-is (nat_cmp m n)).0 is)))
    by (inr other) false is = other.0 ∙ sym is

same_tie : (x y : IdTriple) → same_id x y ≡ eq_by_cmp id_cmp x y
same_tie x y =
    (λ i. tie_is x.s y.s i && (tie_is x.p y.p i && tie_is x.o y.o i))
    ∙ ap (λ b. is_eq (nat_cmp x.s y.s) && b) (tie_then (nat_cmp x.p y.p) (nat_cmp x.o y.o))
    ∙ tie_then (nat_cmp x.s y.s) (ordering_then (nat_cmp x.p y.p) (nat_cmp x.o y.o))

pub ids_are : (given sorted ids : List IdTriple) → IsPermutation given sorted → IsSorted id_cmp sorted → ids ≡ dedup same_id sorted → ids ≡ members (from_list {R = id_cmp} given)
ids_are given sorted ids moved up is =
    is ∙ sym (map-itself (dedup same_id sorted))
    ∙ distinct_by triple_cmp_total triple_cmp-IsAntisymmetric (λ (t : IdTriple). t) same_id same_tie given sorted moved up
    ∙ ap (λ ts. members (from_list {R = id_cmp} ts)) (map-itself given)

pub none_rise : members (from_list {R = id_cmp} []) ≡ []
unfolding IsStrictlySortedBy
none_rise = members-from_rising id_cmp triple_cmp_total triple_cmp-IsAntisymmetric [] tt
