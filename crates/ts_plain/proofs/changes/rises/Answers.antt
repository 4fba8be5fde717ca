use Rattle.std.proofs.Common.{◌≡◌, ◌+◌, ◌-◌, [], ◌∷◌, ◌++◌, length, get_or, Less, is_lt, refl, sym, ap, ◌∙◌, subst, arith}
use Rattle.std.specs.List.Sorted.{IsStrictlySortedBy}
use Rattle.std.proofs.lemmas.List.{nil_from_length}
use Rattle.ts_model.specs.Order.{triple_cmp, triple_cmp_total}
use Rattle.ts_plain.proofs.OrderLaws.{rises_more, rises_alone, last_below, less_is}
use Rattle.ts_plain.proofs.changes.rises.Goals as goal

pub returns-in-Some : goal.returns-in-Some
returns-in-Some c =
    let triples = c.args.triples.now in
    let next = c.args.next.now in
    let item = c.in-Some.ensures.item in
    let last : length triples - 1 + 1 ≡ length triples = omega (arith, item.3.0) in
    let at : c.in-Some.last.now ≡ get_or triples (length triples - 1) next = item.3.1 next in (
      λ h. rises_more triple_cmp triple_cmp_total triples (length triples - 1) next next last c.requires (subst (λ x. triple_cmp x next ≡ Less) at (less_is _ (sym c.lt.ensures ∙ h))),
      λ h. c.lt.ensures ∙ ap is_lt (subst (λ x. triple_cmp x next ≡ Less) (sym at) (last_below triple_cmp triples (length triples - 1) next next last h)),
    )

pub returns-in-None : goal.returns-in-None
returns-in-None c =
    let item = c.in-None.ensures.item in
    let none : c.args.triples.now ≡ [] = nil_from_length c.args.triples.now (omega arith) in
    (λ h. subst (λ l. IsStrictlySortedBy triple_cmp (l ++ c.args.next.now ∷ [])) (sym none) (rises_alone triple_cmp c.args.next.now), λ h. refl)
