-- Of the triples of two sets by number, those that only one has.
use Rattle.std.proofs.Common.{◌≡◌, ℕ, true, false, not, ◌&&◌, List, filter, Some, refl, sym, ap, ◌∙◌, subst, true≢false}
use Rattle.std.proofs.lemmas.Bool.{and_parts}
use Rattle.std.proofs.lemmas.List.Kept.{IsStrictlySortedBy-filter}
use Rattle.ts_model.specs.TextTriple.{TextTriple}
use Rattle.ts_model.specs.Order.{triple_cmp as text_cmp, triple_cmp_total as text_cmp_total, triple_cmp-IsAntisymmetric as text_cmp-IsAntisymmetric}
use Rattle.ts_model.specs.Sets.{SetOf, contains, difference, from_list}
use Rattle.ts_model.specs.History.{History, IsWellKept}
use Rattle.ts_model.proofs.SetAlgebra.{contains-difference}
use Rattle.ts_model.proofs.SetLaws.{contains-from_list, members_are}
use Rattle.ts_plane.specs.declared.triple.IdTriple.{IdTriple}
use Rattle.ts_plane.specs.Triple.{IsRising, triple_cmp}
use Rattle.ts_part.specs.Numbers.{id_triple, id_triples}
use Rattle.ts_part.proofs.IdOrder.{id_triples-plane}
use Rattle.ts_part.proofs.Subsets.{among_filter}
use Rattle.ts_part.proofs.TripleTerms.{IsTripleAt}
use Rattle.ts_chain.specs.Content.{has}
use Rattle.ts_chain.proofs.IdOrder.{triple_cmp_total, triple_cmp-IsAntisymmetric}
use Rattle.ts_chain.proofs.StepsContent.{has_from, has_is, has_to}

-- rising triples with the same members are the same list
pub same_triples : (xs ys : List IdTriple) → IsRising xs → IsRising ys → ((t : IdTriple) → has xs t ≡ has ys t) → xs ≡ ys
same_triples xs ys rise others same =
    let made = contains-from_list triple_cmp triple_cmp_total ys in
    members_are triple_cmp triple_cmp_total triple_cmp-IsAntisymmetric (from_list ys) xs rise (λ t. same t ∙ sym (made t))
    ∙ sym (members_are triple_cmp triple_cmp_total triple_cmp-IsAntisymmetric (from_list ys) ys others (λ t. sym (made t)))

module _ (history : History) (kept : IsWellKept history) (k : ℕ) (these those : SetOf text_cmp)
    (here : (q : TextTriple) → contains these q ≡ true → IsTripleAt history (Some k) q) (there : (q : TextTriple) → contains those q ≡ true → IsTripleAt history (Some k) q) where
  abbrev ids : SetOf text_cmp → List IdTriple
  ids set = id_triples history k set

  abbrev apart : SetOf text_cmp
  apart = difference these those

  in_apart : (q : TextTriple) → contains apart q ≡ (contains these q && not (contains those q))
  in_apart q = contains-difference text_cmp text_cmp_total text_cmp-IsAntisymmetric these those q

  here_apart : (q : TextTriple) → contains apart q ≡ true → IsTripleAt history (Some k) q
  here_apart q is = here q (and_parts (contains these q) (not (contains those q)) (sym (in_apart q) ∙ is)).0

  abbrev Agrees : IdTriple → Type 0
  Agrees t = (has (ids these) t && not (has (ids those) t)) ≡ has (ids apart) t

  at_triple : (q : TextTriple) → IsTripleAt history (Some k) q → Agrees (id_triple history k q)
  at_triple q is =
      (λ i. has_is history kept k these here q is i && not (has_is history kept k those there q is i))
      ∙ sym (in_apart q)
      ∙ sym (has_is history kept k apart here_apart q is)

  agrees : (t : IdTriple) → Agrees t
  agrees t =
      elim (has (ids these) t) as (λ b. has (ids these) t ≡ b → Agrees t) [
        | true ↦ λ h. (let found = has_from history kept k these t h in subst Agrees found.2 (at_triple found.0 (here found.0 found.1)))
        | false ↦ λ h. ap (λ b. b && not (has (ids those) t)) h ∙ sym (none h)
      ] refl
    where
      none : has (ids these) t ≡ false → has (ids apart) t ≡ false
      none h = elim (has (ids apart) t) as (λ b. has (ids apart) t ≡ b → b ≡ false) [
        | true ↦ λ is.
            let found = has_from history kept k apart t is in
            let among = (and_parts (contains these found.0) (not (contains those found.0)) (sym (in_apart found.0) ∙ found.1)).0 in
            absurd (true≢false (sym (has_to history kept k these found.0 among) ∙ ap (has (ids these)) found.2 ∙ h))
        | false ↦ λ is. refl
      ] refl

  pub ids_apart : filter (λ t. not (has (ids those) t)) (ids these) ≡ ids apart
  ids_apart =
      same_triples (filter (λ t. not (has (ids those) t)) (ids these)) (ids apart)
      (IsStrictlySortedBy-filter triple_cmp (λ t. not (has (ids those) t)) (ids these) (id_triples-plane history kept k these here).rising)
      (id_triples-plane history kept k apart here_apart).rising
      (λ t. among_filter triple_cmp triple_cmp_total triple_cmp-IsAntisymmetric (λ x. not (has (ids those) x)) (ids these) t ∙ agrees t)
