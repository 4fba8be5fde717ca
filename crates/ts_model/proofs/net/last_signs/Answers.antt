use Rattle.std.proofs.Common.{rules, ◌≡◌, List, Bor, All, Some, map, reverse, ap, ◌∙◌, subst, sym}
use Rattle.std.specs.Ordering.{is_lt}
use Rattle.std.specs.List.{dedup}
use Rattle.std.specs.List.Sorted.{IsSorted, IsStable}
use Rattle.std.proofs.lemmas.List.Sorted.{ranks_by, answers_always}
use Rattle.std.proofs.RetainMut.{IsDeduped-is_dedup}
use Rattle.ts_model.specs.declared.signed.SignedTriple.{SignedTriple}
use Rattle.ts_model.specs.NetChange.{body_triples, last_sign}
use Rattle.ts_model.specs.Sets.{members}
use Rattle.ts_model.proofs.LentLaws.{lent, IsSorted-lent, IsStable-lent, dedup-lent, map-lent, All-from_lent}
use Rattle.ts_model.proofs.NetLaws.{line_cmp, line_cmp_total, is_same, triples_of, body_triples_are, signs_are}
use Rattle.ts_model.proofs.net.last_signs.Goals as goal

-- the lines that are left, of lines that rise in a stable way
left_are : (body : List SignedTriple) (sorted : List (Bor SignedTriple)) (left : List (Bor SignedTriple)) → IsSorted line_cmp (lent sorted) → IsStable line_cmp (reverse body) (lent sorted)
    → left ≡ dedup (λ x y. is_same x.now y.now) sorted
    → (map (λ line. line.now.triple) left ≡ members (body_triples body)) × All (λ line. last_sign body line.now.triple ≡ Some line.now.sign) left
left_are body sorted left up stable is =
    let lines : lent left ≡ dedup is_same (lent sorted) = ap lent is ∙ sym (dedup-lent is_same sorted) in (
      map-lent (λ (line : SignedTriple). line.triple) left ∙ ap triples_of lines ∙ body_triples_are body (lent sorted) up stable,
      All-from_lent (λ line. last_sign body line.triple ≡ Some line.sign) left
          (subst (All (λ (line : SignedTriple). last_sign body line.triple ≡ Some line.sign)) (sym lines) (signs_are body (lent sorted) up stable)),
    )

pub returns : goal.returns
returns c =
    let order = ranks_by line_cmp_total (λ (line : Bor SignedTriple). line.now) in
    let compares = answers_always _ _ _ (λ f a r f' k. search rules) in
    let sorted : List (Bor SignedTriple) = c.sort_by.new.self.items in
    let up : IsSorted line_cmp (lent sorted) = IsSorted-lent line_cmp sorted (c.in_ok-sort_by.ensures.sorted (λ x y. is_lt (line_cmp x.now y.now)) order compares) in
    let stable : IsStable line_cmp (reverse c.args.body.now) (lent sorted) =
    subst (λ l. IsStable line_cmp l (lent sorted)) c.in_ok-lines.ensures
    (IsStable-lent line_cmp c.in_ok-lines.lines.items sorted (c.in_ok-sort_by.ensures.stable (λ x y. is_lt (line_cmp x.now y.now)) order compares)) in
    let kept : c.dedup_by.new.self.items ≡ dedup (λ x y. is_same x.now y.now) sorted =
    IsDeduped-is_dedup _ _ sorted c.dedup_by.new.self.items c.dedup_by.ensures.filtered (λ x y. is_same x.now y.now) (λ s x k b t x' k' h. search rules) in
    let left = left_are c.args.body.now sorted c.dedup_by.new.self.items up stable kept in
    record { triples = left.0; signs = left.1 }
