-- The order of number triples is total, and only a triple ties with itself.
use Rattle.std.proofs.Common.{◌≡◌, refl, sym, ap, true≢false}
use Rattle.std.specs.declared.cmp.Ordering.{Ordering}
use Rattle.std.specs.declared.cmp.Ordering.TheVariants.{Less, Equal, Greater}
use Rattle.std.specs.Ordering.{is_eq, nat_cmp, ordering_then}
use Rattle.std.specs.Cmp.{IsTotalOrder, nat_cmp_total, on_total, then_total}
use Rattle.std.specs.FinSet.{IsAntisymmetric, nat_cmp-IsAntisymmetric}
use Rattle.ts_plane.specs.declared.triple.IdTriple.{IdTriple}
use Rattle.ts_plane.specs.Triple.{triple_cmp}

pub triple_cmp_total : IsTotalOrder triple_cmp
triple_cmp_total =
    then_total (on_total (λ (t : IdTriple). t.s) nat_cmp_total) (then_total (on_total (λ (t : IdTriple). t.p) nat_cmp_total) (on_total (λ (t : IdTriple). t.o) nat_cmp_total))

first_equal : (a b : Ordering) → ordering_then a b ≡ Equal → a ≡ Equal
first_equal Less b e = absurd (true≢false (sym (ap is_eq e)))
first_equal Equal b e = refl
first_equal Greater b e = absurd (true≢false (sym (ap is_eq e)))

second_equal : (a b : Ordering) → ordering_then a b ≡ Equal → b ≡ Equal
second_equal Less b e = absurd (true≢false (sym (ap is_eq e)))
second_equal Equal b e = e
second_equal Greater b e = absurd (true≢false (sym (ap is_eq e)))

pub triple_cmp-IsAntisymmetric : IsAntisymmetric triple_cmp
triple_cmp-IsAntisymmetric x y e =
    let others = second_equal (nat_cmp x.s y.s) _ e in
    let subjects : x.s ≡ y.s = nat_cmp-IsAntisymmetric _ _ (first_equal _ _ e) in
    let predicates : x.p ≡ y.p = nat_cmp-IsAntisymmetric _ _ (first_equal _ _ others) in
    let objects : x.o ≡ y.o = nat_cmp-IsAntisymmetric _ _ (second_equal (nat_cmp x.p y.p) _ others) in
    λ i. record { s = subjects i; p = predicates i; o = objects i }
