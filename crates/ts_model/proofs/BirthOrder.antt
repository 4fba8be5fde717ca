-- Birth order is a total order in which only a triple ties with itself.
use Rattle.std.proofs.Common.{◌≡◌, ℕ, unwrap_or, refl}
use Rattle.std.specs.declared.cmp.Ordering.{Ordering}
use Rattle.std.specs.declared.cmp.Ordering.TheVariants.{Less, Equal, Greater}
use Rattle.std.specs.Ordering.{nat_cmp, ordering_then}
use Rattle.std.specs.Cmp.{IsTotalOrder, nat_cmp_total, on_total, then_total}
use Rattle.std.specs.Cmp.Lexicographic.{slice_cmp, nat_list_cmp_total}
use Rattle.std.specs.FinMap.{IsAntisymmetric}
use Rattle.ts_model.specs.TextTerm.{TextTerm}
use Rattle.ts_model.specs.TextTriple.{TextTriple}
use Rattle.ts_model.specs.Order.{kind_place, term_cmp, term_cmp-IsAntisymmetric}
use Rattle.ts_model.specs.History.{History}
use Rattle.ts_model.specs.Birth.{birth_of}
use Rattle.ts_model.specs.Listing.{key_cmp, birth_cmp}

both_equal : (a b : Ordering) → ordering_then a b ≡ Equal → (a ≡ Equal) × (b ≡ Equal)
both_equal Less b e = let none : ⊥ = cc in absurd none
both_equal Equal b e = (refl, e)
both_equal Greater b e = let none : ⊥ = cc in absurd none

module _ (history : History) (k : ℕ) where
  pub key_cmp_total : IsTotalOrder (key_cmp history k)
  key_cmp_total =
      then_total (on_total (λ (term : TextTerm). unwrap_or (birth_of history k term) 0) nat_cmp_total)
      (then_total (on_total (λ (term : TextTerm). kind_place term.kind) nat_cmp_total) (on_total (λ (term : TextTerm). term.spelling) nat_list_cmp_total))

  pub birth_cmp_total : IsTotalOrder (birth_cmp history k)
  birth_cmp_total =
      then_total (on_total (λ (triple : TextTriple). triple.subject) key_cmp_total)
      (then_total (on_total (λ (triple : TextTriple). triple.predicate) key_cmp_total) (on_total (λ (triple : TextTriple). triple.object) key_cmp_total))

  -- two terms of one kind and one spelling are one, whatever their births
  pub key_cmp-IsAntisymmetric : IsAntisymmetric (key_cmp history k)
  key_cmp-IsAntisymmetric x y e =
      let parts = both_equal (nat_cmp (kind_place x.kind) (kind_place y.kind)) (slice_cmp nat_cmp x.spelling y.spelling) (both_equal _ _ e).1 in
      let tied : term_cmp x y ≡ Equal = λ i. ordering_then (parts.1 i) (parts.0 i) in
      term_cmp-IsAntisymmetric x y tied

  pub birth_cmp-IsAntisymmetric : IsAntisymmetric (birth_cmp history k)
  birth_cmp-IsAntisymmetric x y e =
      let outer = both_equal (key_cmp history k x.subject y.subject) _ e in
      let inner = both_equal (key_cmp history k x.predicate y.predicate) _ outer.1 in
      let subjects : x.subject ≡ y.subject = key_cmp-IsAntisymmetric _ _ outer.0 in
      let predicates : x.predicate ≡ y.predicate = key_cmp-IsAntisymmetric _ _ inner.0 in
      let objects : x.object ≡ y.object = key_cmp-IsAntisymmetric _ _ inner.1 in
      λ i. record { subject = subjects i; predicate = predicates i; object = objects i }
